use Rattle.std.proofs.Common.{◌≡◌, ℕ, ◌+◌, ◌-◌, List, ◌∷◌, length, sym, ap, ◌∙◌, arith}
use Rattle.std.specs.Int.Digits.{digits_of}
use Rattle.x690.specs.Laws.StrictLengths.{length_octets_low, length_octets_high}
use Rattle.x690.proofs.Writes.{no_offset, first_alone, after_first, behind_first}
use Rattle.x690.proofs.digits.write_length.Goals as goal

pub returns-then-n-lt128-clause-written : goal.returns-then-n-lt128-clause-written
returns-then-n-lt128-clause-written c =
    first_alone c.args.out.now c.args.n (omega arith) ∙ sym (length_octets_low c.args.n c.if-n-lt128.true)

pub returns-clause-written : goal.returns-clause-written
returns-clause-written c =
    let k = c.count_base_256-count.result in
    let digits = digits_of 256 c.args.n in
    let ys : c.write_digits.new.out ≡ digits = c.write_digits.ensures ∙ no_offset digits in
    let l = ap length ys in
    after_first (1 + k - 1) k (128 + k) c.args.out.now c.write_digits.new.out (omega arith) (omega arith)
    ∙ ap (λ (zs : List ℕ). (128 + k) ∷ zs) ys
    ∙ ap (λ j. (128 + j) ∷ digits) c.count_base_256-count.ensures.count
    ∙ sym (length_octets_high c.args.n c.if-n-lt128.false)

pub returns-clause-kept : goal.returns-clause-kept
returns-clause-kept c =
    let k = c.count_base_256-count.result in
    let l = ap length (c.write_digits.ensures ∙ no_offset (digits_of 256 c.args.n)) in
    behind_first (1 + k - 1) k (128 + k) c.args.out.now c.write_digits.new.out (omega arith) (omega arith) (omega arith)
