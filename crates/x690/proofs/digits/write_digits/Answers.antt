use Rattle.std.proofs.Common.{◌≡◌, ◌+◌, ◌-◌, ◌++◌, ◌%◌, map, drop, ap, ◌∙◌, arith}
use Rattle.std.proofs.Math.ListN.{length-set}
use Rattle.std.specs.Int.Digits.{digits_of}
use Rattle.x690.proofs.Writes.{add_offset, digit_step}
use Rattle.x690.proofs.digits.write_digits.Goals as goal

pub loop-place-preserved : goal.loop-place-preserved
loop-place-preserved g c =
    let l = c.loop-place in
    let base = g.row.BASE in
    let p = l.place - 1 in
    let e : p + 1 ≡ l.place = omega arith in
    let written : map (add_offset c.args.offset) (digits_of base l.left) ++ drop (p + 1) l.out ≡
    map (add_offset c.args.offset) (digits_of base c.args.number) =
    ap (λ n. map (add_offset c.args.offset) (digits_of base l.left) ++ drop n l.out) e ∙ l.invariant.written in
    let s = digit_step base l.left p c.args.offset l.out (map (add_offset c.args.offset) (digits_of base c.args.number))
    c.requires.base (omega arith) (e ∙ l.invariant.places) written in
    record { within = omega (arith, length-set l.out p (c.args.offset + l.left % base)); places = s.0; written = s.1 }
