use Rattle.std.proofs.Common.{sym, arith}
use Rattle.x690.specs.Laws.StrictLengths.{length_octets_count_low, length_octets_count_high}
use Rattle.x690.proofs.digits.length_octets_count.Goals as goal

pub returns-then-n-lt128-clause-count : goal.returns-then-n-lt128-clause-count
returns-then-n-lt128-clause-count c = sym (length_octets_count_low c.args.n c.if-n-lt128.true)

pub returns-else-n-lt128-clause-count : goal.returns-else-n-lt128-clause-count
returns-else-n-lt128-clause-count c = omega (arith, length_octets_count_high c.args.n c.if-n-lt128.false)
