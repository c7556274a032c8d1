use Rattle.std.proofs.Common.{rules}
use Rattle.asn1_rs.specs.Laws.Choices.Readers.{choice_gives}
use Rattle.asn1_rs.proofs.choices.choice_of_element.Goals as goal

pub returns-clause-answers : goal.returns-clause-answers
returns-clause-answers g c =
    let arms = g.met.A.TakesArms c.lifetimes (search rules) in
    choice_gives g.T.OfArms.as_arms g.A.TakesArms.take_arms arms.tagged_arms g.A.TakesArms.arms_take
    arms.exact_take arms.never_oom_take arms.other_take c.args.any c.take_arms.result c.take_arms.ensures
