-- The ends of octets, and where tokens stand.
use Rattle.std.proofs.Common.{ℕ, zero, suc, List, [], ◌∷◌, ◌++◌, ◌≡◌, ◌∙◌, ◌+◌, ◌-◌, length, take, drop, length-append, subst, sym, ap, refl, arith, Some}
use Rattle.std.proofs.lemmas.List.{append_assoc, append-nil, take-append-drop}
use Rattle.std.proofs.lemmas.List.Elements.{All-append}
use Rattle.std.specs.Prelude.{slice_get}
use Rattle.std.specs.List.{IsSplitAt, All}
use Rattle.std.specs.Borrow.{Bor}
use Rattle.asn1_module.specs.declared.tokens.Token.{Token}
use Rattle.asn1_module.specs.Tokens.{EndsIn, StandsIn, StandsAmong}

-- the end of an end is an end
pub end_of_end : (whole mid rest : List ℕ) → EndsIn whole mid → EndsIn mid rest → EndsIn whole rest
end_of_end whole mid rest a b = (a.0 ++ b.0, a.1 ∙ ap (λ x. a.0 ++ x) b.1 ∙ sym (append_assoc a.0 b.0 rest))

-- what stands behind others is an end
pub end_behind : (whole front rest : List ℕ) → EndsIn whole (front ++ rest) → EndsIn whole rest
end_behind whole front rest a = end_of_end whole (front ++ rest) rest a (front, refl)

-- two parts are what was split
pub joined_parts : (octets front back : List ℕ) (mid : ℕ) → IsSplitAt octets mid front back → front ++ back ≡ octets
joined_parts octets front back mid s = ap (λ x. x ++ back) s.1 ∙ ap (λ x. take mid octets ++ x) s.2 ∙ take-append-drop mid octets

-- the parts of an end are one
pub parts_end : (octets word front back : List ℕ) (skipped mid : ℕ) → word ≡ drop skipped octets →
    IsSplitAt word mid front back → EndsIn octets (front ++ back)
parts_end octets word front back skipped mid e t =
    (take skipped octets, sym (take-append-drop skipped octets) ∙ ap (λ x. take skipped octets ++ x) (sym e ∙ sym (joined_parts word front back mid t)))

-- a token stands where as many octets are left as it has and as follow it
pub stands : (text octets rest : List ℕ) (token : Token) → EndsIn text octets → EndsIn octets (token.octets.now ++ rest) →
    token.place.octet ≡ length text - length (token.octets.now ++ rest) → StandsIn text token
stands text octets rest token a b at =
    let e = end_of_end text octets (token.octets.now ++ rest) a b in
    let n : length text ≡ length e.0 + length (token.octets.now ++ rest) = ap length e.1 ∙ length-append e.0 _ in
    (e.0, rest, e.1, omega (arith, n, at))

-- nothing is the end of all octets
pub nothing_ends : (octets : List ℕ) → EndsIn octets []
nothing_ends octets = (octets, sym (append-nil octets))

-- what holds of one holds of all of a list of one
all_of_one : (P : Token → Type 0) (token : Token) → P token → All P (token ∷ [])
all_of_one P token is zero d h = is
all_of_one P token is (suc k) d h = absurd (omega arith)

-- a token of a text that is put behind others stands among the texts, as these do
pub put_behind : (texts : List (Bor (List ℕ))) (own : Bor (List ℕ)) (number : ℕ) (text octets rest : List ℕ) (token : Token) (old new : List Token) →
    new ≡ old ++ token ∷ [] → EndsIn text octets → EndsIn octets (token.octets.now ++ rest) →
    token.place.octet ≡ length text - length (token.octets.now ++ rest) → token.place.text ≡ number →
    slice_get texts number ≡ Some own → own.now ≡ text → All (StandsAmong texts) old → All (StandsAmong texts) new
put_behind texts own number text octets rest token old new grown a b at numbered found same all =
    let one : StandsAmong texts token = (
      own,
      subst (λ n. slice_get texts n ≡ Some own) (sym numbered) found,
      subst (λ t. StandsIn t token) (sym same) (stands text octets rest token a b at),
    ) in
    subst (All (StandsAmong texts)) (sym grown)
    (All-append (StandsAmong texts) old (token ∷ []) all (all_of_one (StandsAmong texts) token one))
