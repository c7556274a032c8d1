-- Strict elements: one for each identifier and content, and one alone begins an input.
use Rattle.std.proofs.Common.{◌≡◌, ℕ, ◌<◌, ◌^◌, List, ◌++◌, length, refl, sym, ap, ◌∙◌, append_assoc, subst}
use Rattle.x690.specs.Octets.{IsOctets}
use Rattle.x690.specs.Identifiers.{Identifier}
use Rattle.x690.specs.Rules.{Rule, der_rule, ber_rule}
use Rattle.x690.specs.Lengths.{LengthForm, definite}
use Rattle.x690.specs.Elements.{Parts, IsHeader, IsDefiniteElement, IsDerElement, IsStrictElement, AllowsStrict}
use Rattle.x690.specs.Strict.{identifier_octets, length_octets, definite_parts, element_octets}
use Rattle.x690.specs.Laws.StrictIdentifiers.{strict_identifier, only_strict_identifier}
use Rattle.x690.specs.Laws.StrictLengths.{strict_length, only_strict_length}
use Rattle.x690.specs.Laws.StrictHeaders.{header_octets_are}
use Rattle.x690.specs.Laws.Shortest.{shortest_identifier_strict, strict_identifier_shortest}
use Rattle.x690.specs.Laws.Shortest.{shortest_length_strict, strict_length_shortest}
use Rattle.x690.specs.Laws.Elements.{definite_element_unique}

-- A strict element is the octets that are written.
pub strict_element_octets : (o : List ℕ) (i : Identifier) (c : List ℕ) → IsStrictElement o i c → o ≡ element_octets i c
strict_element_octets o i c s =
    let e = only_strict_identifier i s.identifier s.identifier_is in
    let f = only_strict_length (length c) s.count s.count_is in
    s.is ∙ sym (append_assoc s.identifier s.count c) ∙ ap (λ (z : List ℕ). (z ++ s.count) ++ c) e
    ∙ ap (λ (z : List ℕ). (identifier_octets i ++ z) ++ c) f
    ∙ ap (λ (z : List ℕ). z ++ c) (sym (header_octets_are i.class i.constructed i.number (length c)))

-- The octets that are written are a strict element.
pub made_strict_element : (i : Identifier) (c : List ℕ) → i.class < 4 → i.number < 2 ^ 32 → length c < 2 ^ 64 →
    IsOctets c → IsStrictElement (element_octets i c) i c
made_strict_element i c k n l o = record {
  identifier = identifier_octets i;
  count = length_octets (length c);
  identifier_is = strict_identifier i k n;
  count_is = strict_length (length c) l;
  content_octets = o;
  is = ap (λ (z : List ℕ). z ++ c) (header_octets_are i.class i.constructed i.number (length c))
      ∙ append_assoc (identifier_octets i) (length_octets (length c)) c;
}

-- DER allows what a writer writes.
pub der_allows_strict : AllowsStrict der_rule
der_allows_strict = record { identifier = strict_identifier_shortest; length = strict_length_shortest }

-- So does BER.
pub ber_allows_strict : AllowsStrict ber_rule
ber_allows_strict = record { identifier = λ octets id i. refl; length = λ octets n l. refl }

-- A strict element is one of definite length by a rule that allows it.
pub strict_is_definite : (rule : Rule) → AllowsStrict rule → (o : List ℕ) (i : Identifier) (c : List ℕ) →
    IsStrictElement o i c → IsDefiniteElement rule o (definite_parts i c)
strict_is_definite rule allows o i c s = record {
  header = s.identifier ++ s.count;
  header_is = record {
    identifier = s.identifier;
    count = s.count;
    is = refl;
    identifier_is = s.identifier_is.0;
    count_is = s.count_is.lenient;
    identifier_allowed = allows.identifier s.identifier i s.identifier_is;
    count_allowed = allows.length s.count (length c) s.count_is;
  };
  counted = refl;
  content_octets = s.content_octets;
  is = s.is ∙ sym (append_assoc s.identifier s.count c);
}

-- A header by DER that counts its contents octets is the strict header.
pub der_header_strict : (o : List ℕ) (id : Identifier) (n : ℕ) → IsHeader der_rule o id (definite n) →
    o ≡ identifier_octets id ++ length_octets n
der_header_strict o id n h =
    let i = shortest_identifier_strict h.identifier id h.identifier_is h.identifier_allowed in
    let l = shortest_length_strict h.count n h.count_is h.count_allowed in
    h.is ∙ ap (λ (z : List ℕ). z ++ h.count) (only_strict_identifier id h.identifier i)
    ∙ ap (λ (z : List ℕ). identifier_octets id ++ z) (only_strict_length n h.count l)

-- An element by DER is a strict element.
pub der_element_strict : (o : List ℕ) (p : Parts) → IsDerElement o p → IsStrictElement o p.id p.content
der_element_strict o p e =
    let h : IsHeader der_rule e.header p.id (definite (length p.content)) =
    subst (λ (f : LengthForm). IsHeader der_rule e.header p.id f) e.counted e.header_is in
    record {
      identifier = h.identifier;
      count = h.count;
      identifier_is = shortest_identifier_strict h.identifier p.id h.identifier_is h.identifier_allowed;
      count_is = shortest_length_strict h.count (length p.content) h.count_is h.count_allowed;
      content_octets = e.content_octets;
      is = e.is ∙ ap (λ (z : List ℕ). z ++ p.content) h.is ∙ append_assoc h.identifier h.count p.content;
    }

-- An identifier and contents octets have one strict element.
pub strict_element_one : (o p : List ℕ) (i : Identifier) (c : List ℕ) → IsStrictElement o i c →
    IsStrictElement p i c → o ≡ p
strict_element_one o p i c s t = strict_element_octets o i c s ∙ sym (strict_element_octets p i c t)

-- Two strict elements that begin one input are the same.
pub strict_element_unique : (o p r s : List ℕ) (i j : Identifier) (c d : List ℕ) → IsStrictElement o i c →
    IsStrictElement p j d → o ++ r ≡ p ++ s → (o ≡ p) × (i ≡ j) × (c ≡ d) × (r ≡ s)
strict_element_unique o p r s i j c d x y e =
    let u = definite_element_unique ber_rule ber_rule o p r s (definite_parts i c) (definite_parts j d)
    (strict_is_definite ber_rule ber_allows_strict o i c x)
    (strict_is_definite ber_rule ber_allows_strict p j d y) e in
    (u.0, ap (λ (z : Parts). z.id) u.1, ap (λ (z : Parts). z.content) u.1, u.2)
