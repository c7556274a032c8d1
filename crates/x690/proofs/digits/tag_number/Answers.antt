use Rattle.std.proofs.Common.{lit≤, ◌≡◌, ℕ, ◌+◌, ◌*◌, ◌^◌, ◌<◌, ◌≤◌, take, arith, add-one, ap, below_more}
use Rattle.std.proofs.Math.Nat.{pow-le-pow_right, pow-suc}
use Rattle.x690.specs.Digits.{base_128_value}
use Rattle.x690.specs.Laws.Digits.{tag_digits_reach, tag_digits_end, tag_digits_made, base_128_value_more}
use Rattle.x690.proofs.digits.tag_number.Goals as goal

small : (i n : ℕ) → i < 5 → n < 128 ^ i → n < 128 ^ 4
small i n h s =
    let p : 128 ^ i ≤ 128 ^ 4 =
    let k : i ≤ 4 = omega arith in
    pow-le-pow_right {n = 128} (lit≤ tt) k in
    omega arith

step : (i n d : ℕ) → n < 128 ^ i → d < 128 → n * 128 + d < 128 ^ (i + 1)
step i n d s h = rw (add-one i, pow-suc 128 i) (omega arith)

pub returns-then-i-eq5-clause-none : goal.returns-then-i-eq5-clause-none
returns-then-i-eq5-clause-none c k few digits fits =
    omega (arith, (tag_digits_reach c.loop-i.i k c.args.octets.now c.loop-i.invariant.high digits).0)

pub overflow_mul-number : goal.overflow_mul-number
overflow_mul-number c = let s = small c.loop-i.i c.loop-i.number (omega arith) c.loop-i.invariant.small in omega arith

pub overflow_add-number : goal.overflow_add-number
overflow_add-number c = let s = small c.loop-i.i c.loop-i.number (omega arith) c.loop-i.invariant.small in omega arith

pub returns-in-Ok-clause-digits : goal.returns-in-Ok-clause-digits
returns-in-Ok-clause-digits c =
    let i = c.loop-i.i in
    rw (add-one i) (tag_digits_made i c.args.octets.now
    (λ k. omega (arith, c.type_inv.octets k)) c.loop-i.invariant.high c.loop-i-test.true c.if-octet-lt128.true)

pub returns-in-Ok-clause-value : goal.returns-in-Ok-clause-value
returns-in-Ok-clause-value c =
    let e = base_128_value_more c.args.octets.now c.loop-i.i c.loop-i-test.true in
    omega (arith, e, c.in-Ok.ensures.1)

pub returns-in-Err-clause-none : goal.returns-in-Err-clause-none
returns-in-Err-clause-none c k few digits fits =
    let xs = c.args.octets.now in
    let i = c.loop-i.i in
    let e = base_128_value_more xs i c.loop-i-test.true in
    let same : take k xs ≡ take (i + 1) xs =
    rw (add-one i) (tag_digits_end i k xs c.loop-i.invariant.high c.if-octet-lt128.true digits) in
    let s = ap base_128_value same in
    c.in-Err.ensures (omega (arith, s, e))

pub loop-i-preserved : goal.loop-i-preserved
loop-i-preserved c =
    let xs = c.args.octets.now in
    let i = c.loop-i.i in
    let e = base_128_value_more xs i c.loop-i-test.true in
    let d : c.from.result < 128 = omega arith in
    record {
      number = omega (arith, e);
      few = omega arith;
      small = step i c.loop-i.number c.from.result c.loop-i.invariant.small d;
      high = below_more _ _ c.loop-i.invariant.high c.if-octet-lt128.false;
    }

pub returns-clause-none : goal.returns-clause-none
returns-clause-none c k few digits fits =
    omega (arith, (tag_digits_reach c.loop-i.i k c.args.octets.now c.loop-i.invariant.high digits).1)
