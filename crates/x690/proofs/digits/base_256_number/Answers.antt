use Rattle.std.proofs.Common.{lit≤, ◌*◌, ◌^◌, ◌≤◌, length, drop, arith, length-drop}
use Rattle.std.proofs.Math.Nat.{pow-le-pow_right}
use Rattle.std.proofs.lemmas.Nat.{mul-le}
use Rattle.x690.specs.Laws.Digits.{weighted_sum_front, weighted_sum_more}
use Rattle.x690.proofs.digits.base_256_number.Goals as goal

pub loop-octet-preserved : goal.loop-octet-preserved
loop-octet-preserved c = grind (arith, weighted_sum_more)

pub returns-then-number-ge72057594037927936-clause-none : goal.returns-then-number-ge72057594037927936-clause-none
returns-then-number-ge72057594037927936-clause-none c =
    let xs = c.args.octets.now in
    let i = c.loop-octet.octet-index in
    let left : 1 ≤ length (drop i xs) = omega (arith, length-drop i xs) in
    let p : 256 ^ 1 ≤ 256 ^ length (drop i xs) = pow-le-pow_right {n = 256} (lit≤ tt) left in
    let m : 72057594037927936 * 256 ≤ c.loop-octet.number * 256 ^ length (drop i xs) =
    mul-le _ _ _ _ c.if-number-ge72057594037927936.true p in
    grind (arith, weighted_sum_front 256 xs i, m)
