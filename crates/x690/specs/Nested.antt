-- Elements by BER, nested to a depth (X.690 8.1.3.6, 8.1.5).
pub mod Contents
pub mod FaultHeaders
use Rattle.std.specs.Prelude.{◌≡◌, ◌≢◌, ℕ, zero, suc, ◌+◌, ◌≤◌, List, [], ◌∷◌, ◌++◌, ◌⊎◌}
use Rattle.std.specs.List.{concat}
use Rattle.x690.specs.Identifiers.{Identifier, IsTruncatedIdentifier}
use Rattle.x690.specs.Lengths.{indefinite}
use Rattle.x690.specs.Rules.{ber_rule}
use Rattle.x690.specs.Elements.{Parts, IsHeader, IsDefiniteElement, BeginsWithHeader}
use Rattle.x690.specs.Faults.{Fault, depth_fault, HeaderFault, IsTruncatedContent}

-- 00 00 ends an indefinite content
abbrev pub end_of_contents : List ℕ
end_of_contents = 0 ∷ 0 ∷ []

-- words of a grammar, none of which is 00 00, with this many headers in all
abbrev pub IsRow : (List ℕ → ℕ → Type 0) → List (List ℕ) → ℕ → Type 0
IsRow Word [] headers = headers ≡ 0
IsRow Word (word ∷ words) headers = (first : ℕ) × (others : ℕ) × Word word first × (word ≢ end_of_contents) ×
    IsRow Word words others × (headers ≡ first + others)

-- an identifier, 80, a row of words, and 00 00
pub record IsIndefiniteElement (Word : List ℕ → ℕ → Type 0) (octets : List ℕ) (parts : Parts)
    (headers : ℕ) : Type 0 where
  pub header : List ℕ
  pub header_is : IsHeader ber_rule header parts.id parts.form
  pub form : parts.form ≡ indefinite
  pub words : List (List ℕ)
  pub inner : ℕ
  pub row : IsRow Word words inner
  pub content : parts.content ≡ concat words
  pub counted : headers ≡ inner + 2
  pub is : octets ≡ header ++ (parts.content ++ end_of_contents)

-- An element of the depth, with its number of headers outside definite contents: one for each element, and one for each
-- 00 00.
unfoldable pub IsNestedElement : ℕ → List ℕ → Parts → ℕ → Type 0
IsNestedElement zero octets parts headers = ⊥
IsNestedElement (suc depth) octets parts headers =
    (IsDefiniteElement ber_rule octets parts × (headers ≡ 1)) ⊎ ((1 ≤ depth) × IsIndefiniteElement
    (λ word count. (inner : Parts) × IsNestedElement depth word inner count) octets parts headers)

-- an element of the depth, of any parts
abbrev pub IsWord : ℕ → List ℕ → ℕ → Type 0
IsWord depth word headers = (parts : Parts) × IsNestedElement depth word parts headers

-- an element by BER of the depth, with any number of headers
abbrev pub IsElement : ℕ → List ℕ → Parts → Type 0
IsElement depth octets parts = (headers : ℕ) × IsNestedElement depth octets parts headers

-- an indefinite header, and then whole elements of the depth below
pub record IsOpened (depth : ℕ) (octets rest : List ℕ) : Type 0 where
  pub header : List ℕ
  pub words : List (List ℕ)
  pub id : Identifier
  pub headers : ℕ
  pub header_is : IsHeader ber_rule header id indefinite
  pub is : octets ≡ header ++ (concat words ++ rest)
  pub row : IsRow (IsWord depth) words headers

-- Why no element of the depth begins the octets: the first fault from the left.
-- Below depth 1 nothing is read but one header.
unfoldable pub ElementFault : ℕ → List ℕ → Fault → Type 0
ElementFault zero octets fault =
    HeaderFault ber_rule octets fault ⊎ (BeginsWithHeader ber_rule octets × (fault ≡ depth_fault))
ElementFault (suc depth) octets fault =
    HeaderFault ber_rule octets fault ⊎ IsTruncatedContent ber_rule octets fault ⊎
    ((rest : List ℕ) × IsOpened depth octets rest × ElementFault depth rest fault)

-- the octets end within an identifier in high form: at their front, or after the whole elements of an open content
unfoldable pub EndsInIdentifier : ℕ → List ℕ → Type 0
EndsInIdentifier zero octets = IsTruncatedIdentifier octets
EndsInIdentifier (suc depth) octets =
    IsTruncatedIdentifier octets ⊎ ((rest : List ℕ) × IsOpened depth octets rest × EndsInIdentifier depth rest)
