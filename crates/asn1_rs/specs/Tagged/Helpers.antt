-- Elements of a tag number whose contents octets are handed on.
use Rattle.std.specs.Prelude.{◌≡◌, ◌⊎◌, ℕ, List, Result, Ok, Err}
use Rattle.std.specs.Borrow.{Bor}
use Rattle.std.specs.Fn.{Once}
use Rattle.asn1_rs.specs.declared.asn1_types.any.Any.{Any}
use Rattle.asn1_headers.specs.declared.header.Header.{Header}
use Rattle.asn1_headers.specs.declared.tag.Tag.{Tag}
use Rattle.asn1_headers.specs.declared.error.Error.{Error}
use Rattle.asn1_headers.specs.declared.error.Err.{Err as Refusal}
use Rattle.asn1_headers.specs.Header.{class_of, is_constructed_of, tag_of, length_of, raw_tag_of, HasParts}
use Rattle.asn1_rs.specs.Tagged.{OfElement, IsOtherTag}

-- What looking at the tag number of an element, and reading its contents octets, may answer.
-- The rest is the element's. The class is not looked at.
abbrev pub TakesNumber : {T E : Type 0} → Tag → (Error → E → Type 0) →
    (Any → Result (Bor (List ℕ) × T) (Refusal E) → Type 0) → OfElement (Result (List ℕ × T) (Refusal E))
TakesNumber tag from reads any rest (Ok x) =
    (tag_of any.header ≡ tag) × (x.0 ≡ rest) × ((left : Bor (List ℕ)) × reads any (Ok (left, x.1)))
TakesNumber tag from reads any rest (Err r) =
    IsOtherTag from tag (tag_of any.header) r ⊎ ((tag_of any.header ≡ tag) × reads any (Err r))

-- a closure that is called once may give r at a reference to the contents octets and at the header
abbrev pub ReturnsOfContent : {F R : Type 0} → Once F (Bor (List ℕ) × (Header × Unit {0})) R → F → Any → R → Type 0
ReturnsOfContent g f any r = (p : Bor (List ℕ)) × g.post f (p, (any.header, tt)) r × (p.now ≡ any.content.now)

-- and it may be called at these
abbrev pub TakesOfContent : {F R : Type 0} → Once F (Bor (List ℕ) × (Header × Unit {0})) R → F → Any → Type 0
TakesOfContent g f any = (p : Bor (List ℕ)) → p.now ≡ any.content.now → g.pre f (p, (any.header, tt))

-- the same, at the number besides, and at the header under the number that the type has
abbrev pub ReturnsUnder : {F R : Type 0} → Once F (Bor (List ℕ) × (Tag × (Header × Unit {0}))) R → F → Tag → Tag →
    Any → R → Type 0
ReturnsUnder g f tag own any r =
    (p : Bor (List ℕ)) × (header : Header) × g.post f (p, (tag, (header, tt))) r × (p.now ≡ any.content.now) ×
    HasParts header (class_of any.header) (is_constructed_of any.header) own (length_of any.header)
    (raw_tag_of any.header)

-- and it may be called so
abbrev pub TakesUnder : {F R : Type 0} → Once F (Bor (List ℕ) × (Tag × (Header × Unit {0}))) R → F → Tag → Tag →
    Any → Type 0
TakesUnder g f tag own any = (p : Bor (List ℕ)) (header : Header) → p.now ≡ any.content.now →
    HasParts header (class_of any.header) (is_constructed_of any.header) own (length_of any.header)
    (raw_tag_of any.header) → g.pre f (p, (tag, (header, tt)))
