use Rattle.std.proofs.Common.{◌≡◌, ◌<◌, ◌+◌, ◌⊎◌, ◌∙◌, inl, inr, ℕ, zero, suc, true, List, [], ◌∷◌, map, length, min}
use Rattle.std.proofs.Common.{get_or, take, drop, is_lt, refl, sym, ap, subst, arith, add-one}
use Rattle.std.specs.List.{concat}
use Rattle.std.proofs.Math.Nat.{eq-or-lt_of_le}
use Rattle.std.proofs.lemmas.List.{get_or_default, length-map}
use Rattle.x690.specs.Octets.{IsBeforeOrSame, dictionary_order}
use Rattle.x690.specs.Ascending.{Ascending}
use Rattle.asn1_rs.proofs.Sets.{length_at, piece_front, piece_back}
use Rattle.asn1_rs.proofs.asn1_types.set.are_ascending.Goals as goal

shifted : (xs : List (List ℕ)) (k : ℕ) → get_or ([] ∷ xs) (k + 1) [] ≡ get_or xs k []
shifted xs k = rw add-one refl

-- what holds below a number and at it
up_to : (P : ℕ → Type 0) (i : ℕ) → ((k : ℕ) → k < i → P k) → P i → (k : ℕ) → k < i + 1 → P k
up_to P i below at k h = either (eq-or-lt_of_le (omega (arith, h)))
  where
    either : (k ≡ i) ⊎ (k < i) → P k
    either (inl same) = subst P (sym same) at
    either (inr less) = below k less

-- the string at the front of what is left, and what is behind it
record Truncated (strings : List (List ℕ)) (i n : ℕ) (rest : List ℕ) : Type 0 where
  within : i < length strings
  front : take n rest ≡ get_or strings i []
  back : drop n rest ≡ concat (drop (i + 1) strings)

truncated_at : (strings : List (List ℕ)) (lengths : List ℕ) (i n : ℕ) (rest : List ℕ) → lengths ≡ map length strings →
    i < length lengths → rest ≡ concat (drop i strings) → n ≡ min (get_or lengths i 0) (length rest) →
    Truncated strings i n rest
truncated_at strings lengths i n rest e within left is =
    let at = length_at strings lengths i e within in
    let truncated : n ≡ min (length (get_or strings i [])) (length rest) = is ∙ ap (λ m. min m (length rest)) at.1 in
    record {
      within = at.0;
      front = piece_front strings i at.0 rest left n truncated;
      back = piece_back strings i at.0 rest left n truncated;
    }

none_before_empty : (string : List ℕ) → IsBeforeOrSame [] string
none_before_empty [] = refl
none_before_empty (octet ∷ octets) = refl

-- among ascending strings, none is before the one in front of it
ascends_at : (strings : List (List ℕ)) (i : ℕ) → Ascending strings → i < length strings →
    IsBeforeOrSame (get_or ([] ∷ strings) i []) (get_or strings i [])
ascends_at strings zero up within = none_before_empty (get_or strings 0 [])
ascends_at strings (suc k) up within =
    subst (λ n. IsBeforeOrSame (get_or strings k []) (get_or strings n [])) (add-one k)
    (up k [] (omega arith) (omega arith))

pub loop-length-preserved : goal.loop-length-preserved
loop-length-preserved c = λ strings e.
    let i = c.loop-length.length-index in
    let rest = c.loop-length.rest.now in
    let held = c.loop-length.invariant strings e in
    let truncated = truncated_at strings c.args.lengths.now i c.min.result rest e.1 c.loop-length-test.true held.1 c.min.ensures in
    let front : c.split_at.result.0.now ≡ get_or strings i [] = c.split_at.ensures.front ∙ truncated.front in
    let order : IsBeforeOrSame c.loop-length.last.now c.split_at.result.0.now =
    ap is_lt (sym c.cmp.ensures) ∙ sym c.is_lt.ensures ∙ c.if-is_lt.false in
    let before = subst (λ x. IsBeforeOrSame x (get_or strings i [])) held.0
    (subst (λ y. IsBeforeOrSame c.loop-length.last.now y) front order) in (
      front ∙ sym (shifted strings i),
      c.split_at.ensures.back ∙ truncated.back,
      up_to (λ k. IsBeforeOrSame (get_or ([] ∷ strings) k []) (get_or strings k [])) i held.2 before,
    )

pub returns-then-is_lt : goal.returns-then-is_lt
returns-then-is_lt c = λ strings e.
    let i = c.loop-length.length-index in
    let rest = c.loop-length.rest.now in
    let held = c.loop-length.invariant strings e in
    let truncated = truncated_at strings c.args.lengths.now i c.min.result rest e.1 c.loop-length-test.true held.1 c.min.ensures in
    let front : c.split_at.result.0.now ≡ get_or strings i [] = c.split_at.ensures.front ∙ truncated.front in
    let less : is_lt (dictionary_order c.split_at.result.0.now c.loop-length.last.now) ≡ true =
    ap is_lt (sym c.cmp.ensures) ∙ sym c.is_lt.ensures ∙ c.if-is_lt.true in (
      λ t. absurd (cc),
      λ up.
          let before = ascends_at strings i up truncated.within in
          sym (subst (λ x. IsBeforeOrSame x c.split_at.result.0.now) (sym held.0)
          (subst (λ y. IsBeforeOrSame (get_or ([] ∷ strings) i []) y) (sym front) before)) ∙ less,
    )

pub returns : goal.returns
returns c = λ strings e.
    let held = c.loop-length.invariant strings e in
    let long = ap length e.1 ∙ length-map strings length in (
      λ _ k d l h.
          let before = subst (λ x. IsBeforeOrSame x (get_or strings (k + 1) [])) (shifted strings k)
          (held.2 (k + 1) (omega (arith, long, h, c.loop-length-test.false))) in
          subst (λ x. IsBeforeOrSame x (get_or strings (k + 1) d)) (get_or_default strings k [] d (omega (arith, h)))
          (subst (λ y. IsBeforeOrSame (get_or strings k []) y) (get_or_default strings (k + 1) [] d h) before),
      λ _. refl,
    )
