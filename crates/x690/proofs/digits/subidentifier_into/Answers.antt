use Rattle.std.proofs.Common.{◌≡◌, ℕ, ◌+◌, ◌/◌, ◌%◌, ◌^◌, ◌<◌, ◌≤◌, List, [], ◌∷◌, ◌++◌, length, map, take, ap, sym}
use Rattle.std.proofs.Common.{◌∙◌, arith, rules, length-append, length-drop}
use Rattle.std.proofs.Math.ListN.{set}
use Rattle.std.specs.Int.Digits.{digits_of}
use Rattle.std.proofs.lemmas.List.{length-map, take_at, take_more_set}
use Rattle.std.proofs.lemmas.Int.Digits.{length-digits_of-le}
use borrow.Rule.Slice.PartMut.{post_of}
use Rattle.x690.specs.Strict.{with_bit_8, tag_digits}
use Rattle.x690.proofs.digits.subidentifier_into.Goals as goal

nine : (number : ℕ) → number < 2 ^ 70 → length (digits_of 128 (number / 128)) ≤ 9
nine number small = length-digits_of-le 128 9 (number / 128) (omega arith) (omega arith)

-- the digits with bit 8, and the last one behind them
written : (number k : ℕ) (xs ys : List ℕ) → k < length xs → k ≡ length (digits_of 128 (number / 128)) →
    ys ≡ map with_bit_8 (digits_of 128 (number / 128)) →
    take (k + 1) (set (ys ++ post_of 0 k xs) k (number % 128)) ≡ tag_digits number
written number k xs ys room e f =
    let n : length ys ≡ k = ap length f ∙ length-map (digits_of 128 (number / 128)) with_bit_8 ∙ sym e in
    let l : length (ys ++ post_of 0 k xs) ≡ length xs = simp (length-append, length-drop) (omega arith) in
    take_more_set (ys ++ post_of 0 k xs) k (number % 128) (omega arith)
    ∙ ap (λ (zs : List ℕ). zs ++ (number % 128) ∷ []) (take_at ys (post_of 0 k xs) k n ∙ f)

pub slice_bounds-write_digits-end : goal.slice_bounds-write_digits-end
slice_bounds-write_digits-end c = let few = nine c.args.number c.requires in search rules

pub bounds-out-count : goal.bounds-out-count
bounds-out-count c = omega (arith, nine c.args.number c.requires)

pub returns-clause-few : goal.returns-clause-few
returns-clause-few c = omega (arith, nine c.args.number c.requires)

pub returns-clause-written : goal.returns-clause-written
returns-clause-written c =
    let few = nine c.args.number c.requires in
    written c.args.number c.count_digits-count.result c.args.out.now c.write_digits.new.out
    (omega arith) c.count_digits-count.ensures c.write_digits.ensures
