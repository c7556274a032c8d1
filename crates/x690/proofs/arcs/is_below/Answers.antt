use Rattle.std.proofs.Common.{arith}
use Rattle.x690.specs.Laws.Digits.{base_128_value_more}
use Rattle.x690.specs.Laws.Arcs.Fronts.{value_of_front}
use Rattle.x690.proofs.arcs.is_below.Goals as goal

pub returns-then-number-bound : goal.returns-then-number-bound
returns-then-number-bound c =
    let v = value_of_front c.loop-octet.octet-index c.args.octets.now in
    (λ e. cc, λ h. absurd (omega (arith, h)))

pub loop-octet-preserved : goal.loop-octet-preserved
loop-octet-preserved c =
    omega (arith, base_128_value_more c.args.octets.now c.loop-octet.octet-index c.loop-octet-test.true)
