-- Elements of any type are written as what they say.
use Rattle.std.proofs.Common.{◌≡◌, ◌∙◌, ap, sym, refl, ℕ, Bool, true, false, ◌&&◌, List, ◌++◌, length, rules}
use Rattle.std.specs.Prelude.{IsTrue, ◌↔◌, bytes_eq, Ok}
use Rattle.std.proofs.lemmas.Slice.Eq.{bytes_eq-Decides}
use Rattle.x690.specs.Identifiers.{Identifier}
use Rattle.x690.specs.Lengths.{LengthForm, definite}
use Rattle.x690.specs.Strict.{identifier_octets, length_form_octets}
use Rattle.x690.specs.Laws.StrictHeaders.{header_octets_are}
use Rattle.x690.specs.Laws.StrictElements.{strict_element_octets, der_element_strict}
use Rattle.asn1_headers.specs.declared.header.Header.{Header}
use Rattle.asn1_headers.specs.Class.{class_number}
use Rattle.asn1_headers.specs.Length.{form_of}
use Rattle.asn1_headers.specs.Header.Writing.{strict_header}
use Rattle.asn1_rs.specs.declared.asn1_types.any.Any.{Any}
use Rattle.asn1_rs.specs.Any.{DerElementGives, parts_of}
use Rattle.asn1_rs.specs.Kinds.{item_grammar}
use Rattle.asn1_rs.specs.Any.Value.{any_element, ElementValue, element_of}
use Rattle.asn1_rs.specs.Any.Writing.{content_of, element_header, element_writing}
use Rattle.asn1_headers.specs.Header.{identifier_of, is_constructed_of, is_same_identifier}
use Rattle.asn1_rs.specs.Laws.Forms.{nothing_refused}
use Rattle.asn1_rs.specs.Grammar.Form.{header_of}
use Rattle.asn1_rs.specs.Grammar.Item.{IsLawfulWriting}
use Rattle.asn1_rs.specs.ToDer.{IsWritable, whole_octets}

-- What is written.

-- The strict header follows from identifier and contents octets.
header_by : (i j : Identifier) (c d : List ℕ) → i ≡ j → c ≡ d → header_of i c ≡ header_of j d
header_by i j c d p q = ap (λ (z : Identifier). header_of z c) p ∙ ap (λ (z : List ℕ). header_of j z) q

-- By DER an element is read from the octets that are written of it.
pub written_again : (input : List ℕ) (x : List ℕ × Any) → DerElementGives input (Ok x) →
    input ≡ whole_octets element_writing x.1 ++ x.0
written_again input x begins =
    let f = begins.front in
    f.is ∙ ap (λ (z : List ℕ). z ++ x.0) (strict_element_octets f.word (parts_of x.1).id (parts_of x.1).content
    (der_element_strict f.word (parts_of x.1) f.fits))

-- What is written for elements of any type is lawful.
pub element_lawful_writing : IsLawfulWriting (item_grammar any_element) element_writing
element_lawful_writing = record {
  tells_all = λ x. tt;
  by_value = λ x y e. (
    ap (λ (z : ElementValue). z.id.constructed) e,
    header_by (identifier_of x.header) (identifier_of y.header) x.content.now y.content.now
        (ap (λ (z : ElementValue). z.id) e) (ap (λ (z : ElementValue). z.content) e),
    ap (λ (z : ElementValue). z.content) e,
  );
  form = λ x i c f. (
    free x,
    ap (λ (z : ElementValue). z.id.constructed) f.is,
    ap (λ (z : ElementValue). z.content) f.is,
    header_by (identifier_of x.header) i x.content.now c (ap (λ (z : ElementValue). z.id) f.is)
        (ap (λ (z : ElementValue). z.content) f.is),
  );
  der_form = λ x d l. ∣ (identifier_of x.header, d) ∣₁;
  der_writable = λ x d. free x;
}
  where
    free : (x : Any) → IsWritable element_writing x
    free = nothing_refused element_header content_of (λ any. is_constructed_of any.header)

-- the strict header where the header counts the contents octets
pub counted_header : (a : Any) → form_of a.header.length ≡ definite (length a.content.now) →
    strict_header a.header ≡ element_header a
counted_header a e =
    ap (λ (f : LengthForm). identifier_octets (identifier_of a.header) ++ length_form_octets f) e
    ∙ sym (header_octets_are (class_number a.header.class) a.header.constructed a.header.tag.0 (length a.content.now))

-- Equality.

-- the value of this identifier and these contents octets
abbrev pub the_value : Identifier → List ℕ → ElementValue
the_value i c = record { id = i; content = c }

-- Headers that the test calls the same say one identifier.
pub identifiers_are_same : (g h : Header) → is_same_identifier g h ≡ true → identifier_of g ≡ identifier_of h
identifiers_are_same g h e = search rules

-- Headers that say one identifier are called the same by the test.
pub parts_same : (g h : Header) → identifier_of g ≡ identifier_of h → is_same_identifier g h ≡ true
parts_same g h e = search rules

-- Both parts of a test that holds hold.
pub both_true : (p q : Bool) → p && q ≡ true → (p ≡ true) × (q ≡ true)
both_true true q e = (refl, e)
both_true false q e = cc

-- Identifiers and contents octets are the same where the test of each says so.
pub same_elements_say : (g h : Header) (c d : List ℕ) (same : Bool) → IsTrue same ↔ (c ≡ d) →
    IsTrue (is_same_identifier g h && same) ↔
    (the_value (identifier_of g) c ≡ the_value (identifier_of h) d)
same_elements_say g h c d same decides = (
  λ t.
      let b = both_true (is_same_identifier g h) same t in
      ap (λ (z : Identifier). the_value z c) (identifiers_are_same g h b.0)
      ∙ ap (λ (z : List ℕ). the_value (identifier_of h) z) (decides.0 b.1),
  λ e.
      let i : is_same_identifier g h ≡ true = parts_same g h (ap (λ (z : ElementValue). z.id) e) in
      let c : same ≡ true = decides.1 (ap (λ (z : ElementValue). z.content) e) in
      ap (λ b. b && same) i ∙ c,
)

-- two elements are equal exactly where they say the same
pub element_same : (x y : Any) → IsTrue (is_same_identifier x.header y.header && bytes_eq x.content.now y.content.now) ↔
    (element_of x ≡ element_of y)
element_same x y = same_elements_say x.header y.header x.content.now y.content.now _
    (bytes_eq-Decides x.content.now y.content.now)
