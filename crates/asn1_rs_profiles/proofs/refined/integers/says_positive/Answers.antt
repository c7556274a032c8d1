use Rattle.std.proofs.Common.{rules, sym, arith}
use Rattle.asn1_rs_profiles.proofs.AboveZero.{negative_not_positive}
use Rattle.asn1_rs_profiles.proofs.refined.integers.says_positive.Goals as goal

pub returns-then-first-ge128 : goal.returns-then-first-ge128
returns-then-first-ge128 c = sym (negative_not_positive c.args.octets.now (search rules)
    (omega (arith, c.if-first-ge128.true, c.in-Some.ensures.item.3.1 0)))
