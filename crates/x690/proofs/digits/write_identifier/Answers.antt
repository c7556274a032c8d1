use Rattle.std.proofs.Common.{◌≡◌, ℕ, ◌+◌, ◌/◌, ◌%◌, ◌-◌, ◌^◌, ◌<◌, ◌≤◌, List, [], ◌∷◌, ◌++◌, length, map, sym, ap, ◌∙◌}
use Rattle.std.proofs.Common.{arith}
use Rattle.std.proofs.Math.ListN.{set, length-set}
use Rattle.std.specs.Int.Digits.{digits_of}
use Rattle.std.proofs.lemmas.List.{length-map}
use Rattle.std.proofs.lemmas.Int.Digits.{length-digits_of-le}
use Rattle.x690.specs.Identifiers.{Identifier}
use Rattle.x690.specs.Strict.{with_bit_8}
use Rattle.x690.specs.Laws.StrictIdentifiers.{identifier_octets_low, identifier_octets_high}
use Rattle.x690.proofs.Writes.{first_alone, put_length, and_last, behind_last}
use Rattle.x690.proofs.digits.write_identifier.Goals as goal

four : (number : ℕ) → number < 2 ^ 32 → length (digits_of 128 (number / 128)) ≤ 4
four number small = length-digits_of-le 128 4 (number / 128) (omega arith) (omega arith)

-- as many octets are written as there are digits
as_many : (number k : ℕ) (ys : List ℕ) → k ≡ length (digits_of 128 (number / 128)) →
    ys ≡ map with_bit_8 (digits_of 128 (number / 128)) → length ys ≡ k
as_many number k ys e f = ap length f ∙ length-map (digits_of 128 (number / 128)) with_bit_8 ∙ sym e

pub returns-then-number-lt31-clause-written : goal.returns-then-number-lt31-clause-written
returns-then-number-lt31-clause-written c =
    let id : Identifier = record { class = c.args.class; constructed = c.args.constructed; number = c.args.number } in
    first_alone c.args.out.now (c.high_bits-high.result + c.args.number) (omega arith)
    ∙ ap (λ n. (n + c.args.number) ∷ []) c.high_bits-high.ensures.value
    ∙ sym (identifier_octets_low id c.if-number-lt31.true)

pub bounds-out-count : goal.bounds-out-count
bounds-out-count c =
    let k = c.count_base_128-count.result in
    let first = c.high_bits-high.result + 31 in
    let n =
    as_many c.args.number k c.write_digits.new.out c.count_base_128-count.ensures.count c.write_digits.ensures in
    let l = length-set c.args.out.now 0 first in
    let f = four c.args.number (omega arith) in
    omega (
      arith,
      put_length (1 + k - 1) (set c.args.out.now 0 first) c.write_digits.new.out (omega arith) (omega arith),
    )

pub returns-clause-few : goal.returns-clause-few
returns-clause-few c = omega (arith, four c.args.number (omega arith))

pub returns-clause-written : goal.returns-clause-written
returns-clause-written c =
    let k = c.count_base_128-count.result in
    let n =
    as_many c.args.number k c.write_digits.new.out c.count_base_128-count.ensures.count c.write_digits.ensures in
    let last = c.args.number % 128 in
    let f = four c.args.number (omega arith) in
    let id : Identifier = record { class = c.args.class; constructed = c.args.constructed; number = c.args.number } in
    and_last (1 + k - 1) k (c.high_bits-high.result + 31) last c.args.out.now c.write_digits.new.out (omega arith)
    (omega arith) n
    ∙ ap (λ (ys : List ℕ). (c.high_bits-high.result + 31) ∷ (ys ++ last ∷ [])) c.write_digits.ensures
    ∙ ap (λ b. (b + 31) ∷ (map with_bit_8 (digits_of 128 (c.args.number / 128)) ++ last ∷ []))
    c.high_bits-high.ensures.value
    ∙ sym (identifier_octets_high id c.if-number-lt31.false)

pub returns-clause-kept : goal.returns-clause-kept
returns-clause-kept c =
    let k = c.count_base_128-count.result in
    let n =
    as_many c.args.number k c.write_digits.new.out c.count_base_128-count.ensures.count c.write_digits.ensures in
    let f = four c.args.number (omega arith) in
    behind_last (1 + k - 1) k (c.high_bits-high.result + 31) (c.args.number % 128) c.args.out.now c.write_digits.new.out
    (omega arith) (omega arith) n
