-- Two headers that begin one input are the same.
use Rattle.std.proofs.Common.{◌≡◌, ℕ, ◌≤◌, true, false, List, ◌++◌, length, refl, sym, ap, ◌∙◌, arith, subst}
use Rattle.std.proofs.Common.{append_assoc, length-append}
use Rattle.x690.specs.Octets.{IsOctets}
use Rattle.x690.specs.Identifiers.{Identifier}
use Rattle.x690.specs.Lengths.{LengthForm, definite, indefinite}
use Rattle.x690.specs.Rules.{Rule, der_rule, ber_rule}
use Rattle.x690.specs.Elements.{IsHeader}
use Rattle.x690.specs.Laws.Octets.{octets_append}
use Rattle.x690.specs.Laws.Identifiers.{identifier_unique, identifier_some, identifier_is_octets}
use Rattle.x690.specs.Laws.Lengths.{length_form_unique, length_form_some, length_form_is_octets}

-- Headers that begin one input are the same, whatever rule each is by, and say the same, and the same follows.
pub header_unique : (rule other : Rule) (o q x y : List ℕ) (id jd : Identifier) (f g : LengthForm) →
    IsHeader rule o id f → IsHeader other q jd g → o ++ x ≡ q ++ y → (o ≡ q) × (id ≡ jd) × (f ≡ g) × (x ≡ y)
header_unique rule other o q x y id jd f g h k e =
    let s : h.identifier ++ (h.count ++ x) ≡ k.identifier ++ (k.count ++ y) =
    sym (append_assoc h.identifier h.count x) ∙ ap (λ (ys : List ℕ). ys ++ x) (sym h.is) ∙ e
    ∙ ap (λ (ys : List ℕ). ys ++ y) k.is ∙ append_assoc k.identifier k.count y in
    let u = identifier_unique h.identifier k.identifier (h.count ++ x)
    (k.count ++ y) id jd h.identifier_is k.identifier_is s in
    let v = length_form_unique h.count k.count x y f g h.count_is k.count_is u.2 in (
      h.is ∙ ap (λ (ys : List ℕ). ys ++ h.count) u.0 ∙ ap (λ (ys : List ℕ). k.identifier ++ ys) v.0 ∙ sym k.is,
      u.1,
      v.1,
      v.2,
    )

-- the same of headers with octets behind them
pub header_peel : (rule other : Rule) (h k c e x y : List ℕ) (id jd : Identifier) (f g : LengthForm) →
    IsHeader rule h id f → IsHeader other k jd g → (h ++ c) ++ x ≡ (k ++ e) ++ y →
    (h ≡ k) × (id ≡ jd) × (f ≡ g) × (c ++ x ≡ e ++ y)
header_peel rule other h k c e x y id jd f g i j s =
    header_unique rule other h k (c ++ x) (e ++ y) id jd f g i j (sym (append_assoc h c x) ∙ s ∙ append_assoc k e y)

-- a header has two octets at least
pub header_two : (rule : Rule) (o : List ℕ) (id : Identifier) (form : LengthForm) → IsHeader rule o id form →
    2 ≤ length o
header_two rule o id form h =
    omega (
      arith,
      identifier_some h.identifier id h.identifier_is,
      length_form_some h.count form h.count_is,
      ap length h.is,
      length-append h.identifier h.count,
    )

-- A header is octets.
pub header_is_octets : (rule : Rule) (o : List ℕ) (id : Identifier) (form : LengthForm) →
    IsHeader rule o id form → IsOctets o
header_is_octets rule o id form h =
    subst IsOctets (sym h.is) (octets_append h.identifier h.count (identifier_is_octets h.identifier id h.identifier_is)
    (length_form_is_octets h.count form h.count_is))

-- BER allows each header that counts the contents octets, whichever rule it keeps
pub header_definite : (rule : Rule) (o : List ℕ) (id : Identifier) (form : LengthForm) (n : ℕ) → form ≡ definite n →
    IsHeader rule o id form → IsHeader ber_rule o id form
header_definite rule o id (definite m) n e h = record {
  identifier = h.identifier;
  count = h.count;
  is = h.is;
  identifier_is = h.identifier_is;
  count_is = h.count_is;
  identifier_allowed = refl;
  count_allowed = refl;
}
header_definite rule o id indefinite n e h = cc

-- a header by DER is one by BER
pub header_ber : (o : List ℕ) (id : Identifier) (form : LengthForm) → IsHeader der_rule o id form →
    IsHeader ber_rule o id form
header_ber o id (definite m) h = header_definite der_rule o id (definite m) m refl h
header_ber o id indefinite h = let e : false ≡ true = h.count_allowed in cc

-- a header by DER counts the octets of the contents
pub der_header_definite : (o : List ℕ) (id : Identifier) (form : LengthForm) → IsHeader der_rule o id form →
    (n : ℕ) × (form ≡ definite n)
der_header_definite o id (definite m) h = (m, refl)
der_header_definite o id indefinite h = let e : false ≡ true = h.count_allowed in cc

-- Two definite lengths that are the same are of one number.
pub definite_same : (m n : ℕ) → definite m ≡ definite n → m ≡ n
definite_same m n e = cc

-- No length is both definite and indefinite.
pub not_both_forms : (n : ℕ) (f g : LengthForm) → f ≡ definite n → g ≡ indefinite → f ≡ g → ⊥
not_both_forms n f g a b c = let e : definite n ≡ indefinite = sym a ∙ c ∙ b in cc
