use Rattle.std.proofs.Common.{rules}
use Rattle.asn1_rs.specs.Laws.Choices.Readers.{choice_gives}
use Rattle.asn1_rs.proofs.choices.taken.arm_of.Goals as goal

pub returns : goal.returns
returns g c =
    let arms = g.met.A.TakesArms c.lifetimes (search rules) in
    choice_gives (λ x. x) g.A.TakesArms.take_arms arms.tagged_arms g.A.TakesArms.arms_take
    arms.exact_take arms.never_oom_take arms.other_take c.args.any c.arms_of.result c.arms_of.ensures
