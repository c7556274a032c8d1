-- What DER asks of an element of a universal tag, whatever its type (X.690 8, 10, 11).
use Rattle.std.specs.Prelude.{◌≡◌, ◌≢◌, ℕ, ◌^◌, ◌%◌, ◌<◌, ◌≤◌, Bool, true, false, List, [], ◌∷◌, ◌⊎◌, length}
use Rattle.std.specs.Prelude.{slice_index, ◌-◌}
use Rattle.x690.specs.Integers.{IsShortestInteger}
use Rattle.std.specs.Str.{IsUtf8}
use Rattle.std.specs.Char.{is_ascii}
use Rattle.x690.specs.Arcs.{AreShortest}
use Rattle.x690.specs.Sets.{AllIn, is_numeric, is_printable, is_graphic}
use Rattle.x690.specs.Elements.{Parts}
use Rattle.asn1_strict.specs.Sets.{IsOrderedSet}
use Rattle.x690.specs.Times.{IsStrictUtcText, IsStrictGeneralizedText}

-- one octet, 00 or ff (11.1)
abbrev pub IsStrictBoolean : List ℕ → Type 0
IsStrictBoolean content = (content ≡ 0 ∷ []) ⊎ (content ≡ 255 ∷ [])

-- No bits, with a count of 0 (8.6.2). Or a count of at most 7 and some octets, the last of which ends in so many zeros
-- (11.2.1).
abbrev pub IsStrictBits : List ℕ → Type 0
IsStrictBits content = (content ≡ 0 ∷ []) ⊎ ((2 ≤ length content) × (slice_index content 0 < 8) ×
    (slice_index content (length content - 1) % 2 ^ slice_index content 0 ≡ 0))

-- some subidentifiers, each in the fewest octets (8.19.2)
abbrev pub AreShortestArcs : List ℕ → Type 0
AreShortestArcs content = (content ≢ []) × AreShortest content

-- The types whose elements are constructed: EXTERNAL, EMBEDDED PDV, SEQUENCE, SET and CHARACTER STRING. All others of a
-- universal tag are primitive, the strings too (10.2).
abbrev pub IsConstructedType : ℕ → Type 0
IsConstructedType number = (number ≡ 8) ⊎ (number ≡ 11) ⊎ (number ≡ 16) ⊎ (number ≡ 17) ⊎ (number ≡ 29)

-- the form that the type has
abbrev pub HasFormOf : ℕ → Bool → Type 0
HasFormOf number constructed =
    ((constructed ≡ true) × IsConstructedType number) ⊎ ((constructed ≡ false) × (IsConstructedType number → ⊥))

-- The strings with characters of their types: BMPString in two octets each, UniversalString in four. VisibleString has
-- no 7f (X.680 41.1).
pub record HasCharactersOf (number : ℕ) (content : List ℕ) : Type 0 where
  pub utf8 : number ≡ 12 → IsUtf8 content
  pub numeric : number ≡ 18 → AllIn is_numeric content
  pub printable : number ≡ 19 → AllIn is_printable content
  pub ia5 : number ≡ 22 → AllIn is_ascii content
  pub visible : number ≡ 26 → AllIn is_graphic content
  pub universal : number ≡ 28 → length content % 4 ≡ 0
  pub bmp : number ≡ 30 → length content % 2 ≡ 0

-- the rules of the types for contents
pub record HasContentOf (number : ℕ) (content : List ℕ) : Type 0 where
  pub not_reserved : number ≢ 0
  pub boolean : number ≡ 1 → IsStrictBoolean content
  pub integer : number ≡ 2 → IsShortestInteger content
  pub bits : number ≡ 3 → IsStrictBits content
  pub null : number ≡ 5 → content ≡ []
  pub oid : number ≡ 6 → AreShortestArcs content
  pub enumerated : number ≡ 10 → IsShortestInteger content
  pub relative_oid : number ≡ 13 → AreShortestArcs content
  pub characters : HasCharactersOf number content
  pub set : number ≡ 17 → IsOrderedSet content
  pub utc_time : number ≡ 23 → IsStrictUtcText content
  pub generalized_time : number ≡ 24 → IsStrictGeneralizedText content

-- the rules of an element
abbrev pub MeetsUniversalRules : ℕ → Bool → List ℕ → Type 0
MeetsUniversalRules number constructed content = HasFormOf number constructed × HasContentOf number content

-- an element of another class has its rules in its type alone
abbrev pub IsProperOf : ℕ → ℕ → Bool → List ℕ → Type 0
IsProperOf class number constructed content = class ≡ 0 → MeetsUniversalRules number constructed content

abbrev pub IsProper : Parts → Type 0
IsProper parts = IsProperOf parts.id.class parts.id.number parts.id.constructed parts.content
