use Rattle.std.proofs.Common.{ℕ, arith, ◌<◌}
use Rattle.std.specs.Char.{IsScalar}
use Rattle.asn1_engine.proofs.Utf8Lengths.{one_octet, two_octets, three_octets, four_octets}
use Rattle.asn1_engine.proofs.texts.len_of_utf8.Goals as goal

small : (c : ℕ) → IsScalar c → c < 1114112
small c h = grind arith

pub returns-then-first-lt128-clause-len : goal.returns-then-first-lt128-clause-len
returns-then-first-lt128-clause-len c = λ x s e. one_octet x (small x s) (omega (arith, e))

pub returns-then-first-lt224-clause-len : goal.returns-then-first-lt224-clause-len
returns-then-first-lt224-clause-len c = λ x s e. two_octets x (small x s) (omega (arith, e)) (omega (arith, e))

pub returns-then-first-lt240-clause-len : goal.returns-then-first-lt240-clause-len
returns-then-first-lt240-clause-len c = λ x s e. three_octets x (small x s) (omega (arith, e)) (omega (arith, e))

pub returns-else-first-lt240-clause-len : goal.returns-else-first-lt240-clause-len
returns-else-first-lt240-clause-len c = λ x s e. four_octets x (small x s) (omega (arith, e))
