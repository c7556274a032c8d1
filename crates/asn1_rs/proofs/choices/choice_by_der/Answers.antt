use Rattle.std.proofs.Common.{rules}
use Rattle.asn1_rs.specs.Laws.Choices.Readers.{choice_reads}
use Rattle.asn1_rs.proofs.choices.choice_by_der.Goals as goal

pub returns-clause-answers : goal.returns-clause-answers
returns-clause-answers g c =
    let arms = g.met.A.ReadsArms c.lifetimes (search rules) in
    choice_reads g.T.OfArms.as_arms g.A.ReadsArms.read_arms arms.arms_tagged g.A.ReadsArms.arms_give
    arms.exact_arms arms.never_oom_arms arms.other_arms c.args.octets.now _ c.read_arms.ensures
