-- Reading attributes is exact.
use Rattle.std.proofs.Common.{◌≡◌, ◌∙◌, ap, sym, refl, subst, inl, inr, false, ℕ, List, [], ◌++◌, append-nil}
use Rattle.std.proofs.lemmas.List.{append_cancel_left}
use Rattle.std.specs.Prelude.{Result, Ok, Err, IfErr, IsTrue}
use Rattle.x690.specs.Elements.{IsDerElement}
use Rattle.x690.specs.Faults.{DerElementFault}
use Rattle.x690.specs.Identifiers.{Identifier, IsTruncatedIdentifier}
use Rattle.x690.specs.Joined.{IsPrefixFree}
use Rattle.asn1_headers.specs.Answers.{Exactly, HasPrefix, IsOther, TellsMemory}
use Rattle.asn1_headers.specs.Error.{ErrorIs}
use Rattle.asn1_headers.specs.Header.Reading.{der_violation}
use Rattle.asn1_headers.specs.declared.error.Err.{Err as Refusal}
use Rattle.asn1_headers.specs.declared.error.Error.{Error}
use Rattle.asn1_rs.specs.Any.{IsDefiniteOr, IsTheElement, parts_of}
use Rattle.asn1_rs.specs.Any.Value.{ElementValue, any_element, element_of}
use Rattle.asn1_rs.specs.Lists.{IsConstructed, IsListOr}
use Rattle.asn1_rs.specs.Laws.Any.Value.{element_checks, element_converts}
use Rattle.asn1_rs.specs.Laws.Kinds.{other_error}
use Rattle.asn1_rs.specs.Laws.Lists.{constructed_checks}
use Rattle.asn1_rs.specs.Laws.Oid.{oid_checked, oid_converts}
use Rattle.asn1_rs.specs.Laws.Readers.{der_violation_no_memory, der_elements, element_exact, element_no_memory}
use Rattle.asn1_rs.specs.Laws.Readers.{prefix_more, none_now}
use Rattle.asn1_rs.specs.Oid.{OidGives, oid_constraints, oid_element, oid_value}
use Rattle.asn1_rs.specs.declared.asn1_types.any.Any.{Any}
use Rattle.asn1_rs.specs.declared.asn1_types.oid.Oid.{Oid}
use Rattle.x509_name.specs.Attribute.{AnyReads, ArePairOfWords, AttributeGives, AttributeValue, OidReads, PartsGive}
use Rattle.x509_name.specs.Attribute.{any_item}
use Rattle.x509_name.specs.Attribute.{attribute_item, attribute_value, oid_item}
use Rattle.x509_name.specs.Laws.Attribute.{any_item_lawful, oid_item_lawful}
use Rattle.x509_name.specs.declared.attribute.AttributeTypeAndValue.{AttributeTypeAndValue}

-- an error is made into itself
abbrev pub itself : Error → Error → Type 0
itself x y = y ≡ x

-- no refusal reports out of memory
abbrev pub NeverOutOfMemory : Refusal Error → Type 0
NeverOutOfMemory = TellsMemory false itself

-- What allocates nothing does not.
untold : {A : Type 0} → IsTrue false → A
untold m = cc

-- The readers of the two parts are exact.
pub oid_exact : (input : List ℕ) (answer : Result (List ℕ × Oid) (Refusal Error)) → OidReads input answer →
    Exactly IsTruncatedIdentifier oid_item.Der oid_value NeverOutOfMemory input answer
oid_exact = element_exact IsDerElement DerElementFault IsTruncatedIdentifier der_elements der_violation oid_constraints OidGives
    itself oid_element.Check oid_element.Body oid_value false oid_item.Der oid_checked.exact oid_converts.exact
    (λ o v w. w) (λ o v w. w)

pub any_exact : (input : List ℕ) (answer : Result (List ℕ × Any) (Refusal Error)) → AnyReads input answer →
    Exactly IsTruncatedIdentifier any_item.Der element_of NeverOutOfMemory input answer
any_exact = element_exact IsDerElement DerElementFault IsTruncatedIdentifier der_elements der_violation IsDefiniteOr IsTheElement
    itself any_element.Check any_element.Body element_of false any_item.Der element_checks.exact element_converts.exact
    (λ o v w. w) (λ o v w. w)

-- Where a word begins the input, each word that begins it has its value and its rest.
pub same_word : {V : Type 0} (G : List ℕ → V → Type 0) → IsPrefixFree G → (input : List ℕ) (v : V) (rest : List ℕ) →
    HasPrefix G input v rest → (word more : List ℕ) (w : V) → G word w → input ≡ word ++ more → (v ≡ w) × (rest ≡ more)
same_word G one input v rest f word more w g e =
    let s = one.one f.word word rest more v w f.fits g (sym f.is ∙ e) in (
      s.1,
      append_cancel_left f.word rest more (sym f.is ∙ e ∙ ap (λ (z : List ℕ). z ++ more) (sym s.0)),
    )

-- Contents octets that were read are the two parts.
parts_read : (content : List ℕ) (a : AttributeTypeAndValue) → PartsGive content (Ok a) →
    ArePairOfWords oid_item.Der any_item.Der content (oid_value a.oid) (element_of a.value)
parts_read content a g =
    let first : HasPrefix oid_item.Der content (oid_value a.oid) g.0 = oid_exact content (Ok (g.0, a.oid)) g.1 in
    let second : HasPrefix any_item.Der g.0 (element_of a.value) [] = any_exact g.0 (Ok ([], a.value)) g.2 in
    record {
      front = first.word;
      behind = second.word;
      first = first.fits;
      second = second.fits;
      joined = first.is ∙ ap (λ (z : List ℕ). first.word ++ z) (second.is ∙ append-nil second.word);
    }

-- Contents octets that are refused are no two parts.
parts_none : (content : List ℕ) (r : Refusal Error) → PartsGive content (Err r) → (v : AttributeValue) →
    ArePairOfWords oid_item.Der any_item.Der content v.oid v.value → ⊥
parts_none content r (inl g) v t = elim (oid_exact content (Err r) g) [
  | inl m ↦ untold m.0
  | inr f ↦ none_now (IsTruncatedIdentifier content) r oid_item.Der content f t.front t.behind v.oid t.joined t.first
]
parts_none content r (inr (behind, oid, read, later)) v t =
    let front : HasPrefix oid_item.Der content (oid_value oid) behind = oid_exact content (Ok (behind, oid)) read in
    let same = same_word oid_item.Der oid_item_lawful.der_one content (oid_value oid) behind front t.front t.behind
    v.oid
    t.first t.joined in
    let is : behind ≡ t.behind ++ [] = same.1 ∙ sym (append-nil t.behind) in
    elim later [
      | inl g ↦ elim (any_exact behind (Err r) g) [
        | inl m ↦ untold m.0
        | inr f ↦ none_now (IsTruncatedIdentifier behind) r any_item.Der behind f t.behind [] v.value is t.second
      ]
      | inr h ↦
          let value : HasPrefix any_item.Der behind (element_of h.1) h.0 = any_exact behind (Ok (h.0, h.1)) h.2 in
          h.3 (same_word any_item.Der any_item_lawful.der_one behind (element_of h.1) h.0 value t.behind [] v.value
          t.second is).1
    ]

-- The word of an attribute is that of an element.
any_word : (word : List ℕ) (v : AttributeValue) (w : attribute_item.Der word v) →
    any_item.Der word (record { id = w.0.id; content = w.0.content })
any_word word v w = (w.0, w.1, (_, w.1.counted), refl)

-- The element that was read is the one of each attribute at the front.
same_element : (input : List ℕ) (any : Any) (rest more : List ℕ) → AnyReads input (Ok (rest, any)) →
    (word tail : List ℕ) (v : AttributeValue) (w : attribute_item.Der word v) → input ++ more ≡ word ++ tail →
    (identifier_is : (parts_of any).id ≡ w.0.id) × (any.content.now ≡ w.0.content)
same_element input any rest more g word tail v w e =
    let front : HasPrefix any_item.Der input (element_of any) rest = any_exact input (Ok (rest, any)) g in
    let same = (same_word any_item.Der any_item_lawful.der_one (input ++ more) (element_of any) (rest ++ more)
    (prefix_more any_item.Der input (element_of any) rest more front) word tail
    (record { id = w.0.id; content = w.0.content }) (any_word word v w) e).0 in
    (ap (λ (z : ElementValue). z.id) same, ap (λ (z : ElementValue). z.content) same)

-- Reading an attribute is exact.
pub attribute_exact : (input : List ℕ) (answer : Result (List ℕ × AttributeTypeAndValue) (Refusal Error)) →
    AttributeGives input answer → Exactly IsTruncatedIdentifier attribute_item.Der attribute_value NeverOutOfMemory
    input answer
attribute_exact input (Ok x) g =
    let any = g.0 in
    let front : HasPrefix any_item.Der input (element_of any) x.0 = any_exact input (Ok (x.0, any)) g.1 in
    let p = front.fits.0 in
    let id : (parts_of any).id ≡ p.id = ap (λ (z : ElementValue). z.id) front.fits.3 in
    let content : any.content.now ≡ p.content = ap (λ (z : ElementValue). z.content) front.fits.3 in
    let shape : IsConstructed 16 (parts_of any) = (constructed_checks 16).exact (parts_of any) (Ok tt) g.2 in
    record {
      word = front.word;
      is = front.is;
      fits = (
        p,
        front.fits.1,
        tt,
        record {
          shape = (
            sym (ap (λ (z : Identifier). z.number) id) ∙ shape.0,
            sym (ap (λ (z : Identifier). z.constructed) id) ∙ shape.1,
          );
          parts =
              subst (λ (c : List ℕ). ArePairOfWords oid_item.Der any_item.Der c (oid_value x.1.oid)
              (element_of x.1.value))
              content (parts_read any.content.now x.1 g.3);
        },
      );
    }
attribute_exact input (Err r) (inl g) = elim (any_exact input (Err r) g) [
  | inl m ↦ untold m.0
  | inr f ↦ inr (λ more s word rest v e w. f more s word rest (record { id = w.0.id; content = w.0.content }) e
      (any_word word v w))
]
attribute_exact input (Err r) (inr (any, rest, g, inl (e, check, is))) = inr (λ more s word tail v at w.
    let same = same_element input any rest more g word tail v w at in
    (constructed_checks 16).exact (parts_of any) (Err e) check (
      ap (λ (z : Identifier). z.number) same.0 ∙ w.3.shape.0,
      ap (λ (z : Identifier). z.constructed) same.0 ∙ w.3.shape.1,
    ))
attribute_exact input (Err r) (inr (any, rest, g, inr (check, parts))) = inr (λ more s word tail v at w.
    let same = same_element input any rest more g word tail v w at in
    parts_none any.content.now r parts v
    (subst (λ (c : List ℕ). ArePairOfWords oid_item.Der any_item.Der c v.oid v.value) (sym same.1) w.3.parts))

-- No refusal reports out of memory.

-- the error of a refusal is not out of memory
abbrev pub IsNoMemory : Refusal Error → Type 0
IsNoMemory = ErrorIs (IsOther itself)

oid_other : (input : List ℕ) (r : Refusal Error) → OidReads input (Err r) → IsNoMemory r
oid_other input r g = element_no_memory IsDerElement DerElementFault der_violation der_violation_no_memory oid_constraints
    OidGives itself oid_checked.asks_no_memory (other_error OidGives (oid_converts.asks_no_memory refl)) input (Err r) g

any_other : (input : List ℕ) (r : Refusal Error) → AnyReads input (Err r) → IsNoMemory r
any_other input r g = element_no_memory IsDerElement DerElementFault der_violation der_violation_no_memory IsDefiniteOr
    IsTheElement itself element_checks.asks_no_memory (other_error IsTheElement (element_converts.asks_no_memory refl))
    input (Err r) g

-- The contents octets are not refused so.
parts_other : (content : List ℕ) (r : Refusal Error) → PartsGive content (Err r) → IsNoMemory r
parts_other content r (inl g) = oid_other content r g
parts_other content r (inr (behind, oid, read, inl g)) = any_other behind r g
parts_other content r (inr (behind, oid, read, inr h)) = subst IsNoMemory (sym h.4) (inl (_, λ q. cc, refl))

-- Reading an attribute takes no memory.
pub attribute_no_memory : (input : List ℕ) (answer : Result (List ℕ × AttributeTypeAndValue) (Refusal Error)) →
    AttributeGives input answer → IfErr answer IsNoMemory
attribute_no_memory input (Ok x) g = tt
attribute_no_memory input (Err r) (inl g) = any_other input r g
attribute_no_memory input (Err r) (inr (any, rest, g, inl (e, check, is))) = subst IsNoMemory (sym is)
    (inl (
      e,
      λ q. (constructed_checks 16).asks_no_memory (parts_of any)
          (subst (λ (x : Error). IsListOr 16 (parts_of any) (Err x)) q check),
      refl,
    ))
attribute_no_memory input (Err r) (inr (any, rest, g, inr (check, parts))) = parts_other any.content.now r parts
