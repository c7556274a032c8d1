use Rattle.std.proofs.Common.{ap, ◌∙◌}
use Rattle.std.proofs.lemmas.List.{take_rest}
use Rattle.x690.specs.Digits.{twos_complement_value}
use Rattle.x690.specs.Laws.Signed.{redundant_zeros_say_nothing, redundant_ones_say_nothing}
use Rattle.x690.proofs.signed.without_redundant_octets.Goals as goal
use Rattle.x690.proofs.signed.without_redundant_octets.Goals.{then-has_redundant_zeros}
use Rattle.x690.proofs.signed.without_redundant_octets.Goals.{else-has_redundant_zeros+then-has_redundant_ones}

pub loop-rest-preserved : goal.loop-rest-preserved
loop-rest-preserved c =
    ap twos_complement_value (take_rest c.loop-rest.rest.now 1)
    ∙ elim c.if-has_redundant_zeros.branch [
      | then-has_redundant_zeros w ↦
          redundant_zeros_say_nothing c.loop-rest.rest.now (c.has_redundant_zeros.ensures.0 w.if-has_redundant_zeros.true)
      | else-has_redundant_zeros+then-has_redundant_ones w ↦
          redundant_ones_say_nothing c.loop-rest.rest.now (w.has_redundant_ones.ensures.0 w.if-has_redundant_ones.true)
    ]
    ∙ c.loop-rest.invariant
