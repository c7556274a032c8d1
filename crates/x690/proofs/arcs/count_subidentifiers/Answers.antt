use Rattle.std.proofs.Common.{◌≡◌, ℕ, ◌+◌, ◌-◌, ◌<◌, ◌≤◌, cond, List, [], ◌∷◌, length, take, get_or, refl, ap, sym, ◌∙◌}
use Rattle.std.proofs.Common.{arith, inl, inr}
use Rattle.std.specs.List.{count_by}
use Rattle.std.specs.Prelude.{nat_lt}
use Rattle.std.proofs.lemmas.Bool.{cases_lt}
use Rattle.std.proofs.lemmas.Bool.Decides.{nat_tests}
use Rattle.std.proofs.lemmas.List.{take_all}
use Rattle.std.proofs.lemmas.List.Sums.{sum_by-cons}
use Rattle.x690.specs.Arcs.{in_front, pieces_of}
use Rattle.x690.specs.Laws.Arcs.{last_piece, more_piece}
use Rattle.x690.proofs.arcs.count_subidentifiers.Goals as goal

-- how many octets are without bit 8
abbrev ends : List ℕ → ℕ
ends octets = count_by (λ octet. nat_lt octet 128) octets

-- one more where the last octet has bit 8
abbrev is_truncated : ℕ → ℕ
is_truncated last = cond (nat_lt last 128) 0 1

front_length : (octet : ℕ) (pieces : List (List ℕ)) → 1 ≤ length pieces → length (in_front octet pieces) ≡ length pieces
front_length octet [] some = absurd (omega arith)
front_length octet (piece ∷ pieces) some = refl

some_in_front : (octet : ℕ) (pieces : List (List ℕ)) → 1 ≤ length (in_front octet pieces)
some_in_front octet [] = omega arith
some_in_front octet (piece ∷ pieces) = omega arith

some_pieces : (octet : ℕ) (octets : List ℕ) → 1 ≤ length (pieces_of (octet ∷ octets))
some_pieces octet octets = elim (cases_lt octet 128) [
  | inl h ↦ omega (arith, ap length (last_piece octet octets h))
  | inr h ↦ omega (arith, ap length (more_piece octet octets h), some_in_front octet (pieces_of octets))
]

one_end : (octet k : ℕ) → octet < 128 → cond (nat_lt octet 128) 1 0 + k ≡ 1 + k
one_end octet k h = grind (arith, nat_tests)

no_end : (octet k : ℕ) → 128 ≤ octet → cond (nat_lt octet 128) 1 0 + k ≡ k
no_end octet k h = grind (arith, nat_tests)

pieces_counted : (octet : ℕ) (octets : List ℕ) →
    length (pieces_of (octet ∷ octets)) ≡ ends (octet ∷ octets) + is_truncated (get_or (octet ∷ octets) (length octets) 0)
pieces_counted octet [] = grind (arith, nat_tests)
pieces_counted octet (next ∷ octets) =
    let others = pieces_counted next octets in
    let k = ends (next ∷ octets) in
    let e : ends (octet ∷ next ∷ octets) ≡ cond (nat_lt octet 128) 1 0 + k =
    sum_by-cons (λ n. cond (nat_lt n 128) 1 0) octet (next ∷ octets) in
    let same : get_or (octet ∷ next ∷ octets) (length (next ∷ octets)) 0 ≡ get_or (next ∷ octets) (length octets) 0 =
    refl in
    let truncated = ap is_truncated same in
    elim (cases_lt octet 128) [
      | inl h ↦ omega (arith, ap length (last_piece octet (next ∷ octets) h), one_end octet k h, e, truncated, others)
      | inr h ↦ omega (
        arith,
        ap length (more_piece octet (next ∷ octets) h),
        front_length octet (pieces_of (next ∷ octets)) (some_pieces next octets),
        no_end octet k h,
        e,
        truncated,
        others,
      )
    ]

counted : (octets : List ℕ) (count i last : ℕ) → count ≡ ends (take i octets) → length octets ≤ i → 0 < length octets →
    last ≡ get_or octets (length octets - 1) 0 → length (pieces_of octets) ≡ count + is_truncated last
counted [] count i last e all some l = absurd (omega arith)
counted (octet ∷ octets) count i last e all some l =
    let whole = ap ends (take_all i (octet ∷ octets) all) in
    let m : length (octet ∷ octets) - 1 ≡ length octets = omega arith in
    let at_end = l ∙ ap (λ (n : ℕ). get_or (octet ∷ octets) n 0) m in
    pieces_counted octet octets ∙ ap (λ (n : ℕ). ends (octet ∷ octets) + is_truncated n) (sym at_end)
    ∙ ap (λ (n : ℕ). n + is_truncated last) (sym (e ∙ whole))

pub returns-in-Some-clause-count : goal.returns-in-Some-clause-count
returns-in-Some-clause-count c =
    let h = c.in-Some.ensures.item in
    let n = counted c.args.octets.now c.loop-octet.count c.loop-octet.octet-index c.in-Some.last.now
    c.loop-octet.invariant (omega arith) h.3.0 (h.4 (omega arith) 0) in
    grind (arith, nat_tests, n)

pub returns-in_default-clause-count : goal.returns-in_default-clause-count
returns-in_default-clause-count c =
    let h = c.in-Some.ensures.item in
    let n = counted c.args.octets.now c.loop-octet.count c.loop-octet.octet-index c.in-Some.last.now
    c.loop-octet.invariant (omega arith) h.3.0 (h.4 (omega arith) 0) in
    grind (arith, nat_tests, n)
