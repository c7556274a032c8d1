-- The lines of the elements of octets, in their order.
use Rattle.std.specs.Prelude.{ℕ, suc, ◌≡◌, ◌+◌, ◌-◌, ◌^◌, min, Bool, true, false, List, [], ◌∷◌, ◌++◌, ◌⊎◌}
use Rattle.std.specs.Prelude.{drop, codes, nat_lt}
use Rattle.asn1_headers.specs.declared.error.Error.{Error}
use Rattle.asn1_headers.specs.declared.error.Error.TheVariants.{InvalidTag, InvalidLength, ConstructExpected}
use Rattle.asn1_headers.specs.declared.error.Err.{Err as Refusal}
use Rattle.asn1_headers.specs.declared.error.Err.TheVariants.{Incomplete as truncated, Error as refused_by}
use Rattle.asn1_headers.specs.Texts.{needed_text}
use Rattle.asn1_headers.specs.Header.Reading.{ber_refusal}
use Rattle.asn1_walk.specs.declared.line.Line.{Line}
use Rattle.asn1_walk.specs.declared.state.Walk.{Walk}
use Rattle.asn1_walk.specs.declared.walk.Step.{Step}
use Rattle.asn1_walk.specs.declared.walk.Step.TheVariants.{Line as an_element, Closed, End, Refused}
use Rattle.asn1_walk.specs.Rows.{Row, Outcome, ended, refused}
use Rattle.asn1_walk.specs.Walks.{Finds}
use Rattle.asn1_engine.specs.declared.trees.Options.{Options}
use Rattle.asn1_words.specs.Words.{right, number_text}
use Rattle.asn1_engine.specs.Findings.{IsFirst, HasNoFirst}
use Rattle.asn1_engine.specs.Lines.{IsLineText}
use Rattle.asn1_engine.specs.Inner.{AreStringOctets, HoldsElements, IsNotEntered}
use Rattle.asn1_engine.specs.Objects.{IsObjectText, refusal_object_text}

-- a sum, or the greatest number of 64 bits where that is less
abbrev pub sum_within : ℕ → ℕ → ℕ
sum_within m n = min (m + n) (2 ^ 64 - 1)

-- the line of an element of octets that stand in a file, at an offset and within so many elements
abbrev pub placed : ℕ → ℕ → Line → Line
placed offset depth line =
    record line { offset = sum_within line.offset offset; depth = sum_within line.depth depth }

-- what is written of an element that is shown, in a line or in an object of JSON
abbrev pub IsShownElement : Bool → Bool → ℕ → Line → Bool → List ℕ → Type 0
IsShownElement json false width line is_entered text = text ≡ []
IsShownElement true true width line is_entered text = IsObjectText width line is_entered text
IsShownElement false true width line is_entered text = IsLineText width line is_entered text

-- the same, where elements in so many elements or more are not shown
abbrev pub IsShownToDepth : Options → Line → Bool → List ℕ → Type 0
IsShownToDepth options line is_entered text =
    IsShownElement options.json (nat_lt line.depth options.depth) options.width line is_entered text

-- why no element begins, in words
abbrev pub refusal_text : Refusal Error → List ℕ
refusal_text (truncated needed) = needed_text needed
refusal_text (refused_by InvalidTag) = codes "the identifier octets do not end, or the tag number is 2^32 or more"
refusal_text (refused_by InvalidLength) = codes "the first length octet is ff, or the length is 2^64 or more"
refusal_text (refused_by ConstructExpected) = codes "a primitive element has the indefinite length"
refusal_text _ = codes "the header is refused"

-- the line that tells at which offset no element begins, and why
abbrev pub IsRefusalLine : Bool → ℕ → List ℕ → List ℕ → Type 0
IsRefusalLine true offset why text = text ≡ refusal_object_text offset why
IsRefusalLine false offset why text =
    text ≡ right 7 (number_text offset) ++ codes " no element: " ++ why ++ 10 ∷ []

-- what is written behind the lines: nothing at the end, or that line
abbrev pub IsEndText : Bool → ℕ → Outcome → List ℕ → Type 0
IsEndText json offset (ended at rest) text = text ≡ []
IsEndText json offset (refused at fault) text =
    IsRefusalLine json (sum_within at offset) (refusal_text (ber_refusal fault)) text

-- where the octets stand that an element holds
abbrev pub inner_offset : Line → ℕ → ℕ
inner_offset line count = sum_within (sum_within line.offset line.header_len) count

abbrev pub inner_depth : Line → ℕ
inner_depth line = sum_within line.depth 1

-- What is written of an element: its line, and of a string that holds elements the lines of these, in so many strings at
-- most. Of a row: what is written of each element, in their order.
mutual
  pub data IsShown : Options → ℕ → Line → List ℕ → Type 0 where
    plain : (options : Options) (strings : ℕ) (line : Line) (text : List ℕ) → IsNotEntered options strings line →
        IsShownToDepth options line false text → IsShown options strings line text
    holds : (options : Options) (strings : ℕ) (line : Line) (count : ℕ) (octets text : List ℕ) (inner : List Line)
        (outcome : Outcome) (within end : List ℕ) → options.inner ≡ true → AreStringOctets line count octets →
        HoldsElements octets →
        IsShownToDepth options line true text →
        Row false 0 0 octets inner outcome →
        AreShown options strings (inner_offset line count) (inner_depth line) inner within →
        IsEndText options.json (inner_offset line count) outcome end →
        IsShown options (suc strings) line (text ++ within ++ end)

  pub data AreShown : Options → ℕ → ℕ → ℕ → List Line → List ℕ → Type 0 where
    no_lines : (options : Options) (strings offset depth : ℕ) → AreShown options strings offset depth [] []
    more_lines : (options : Options) (strings offset depth : ℕ) (line : Line) (lines : List Line) (text rest : List ℕ) →
        IsShown options strings (placed offset depth line) text → AreShown options strings offset depth lines rest →
        AreShown options strings offset depth (line ∷ lines) (text ++ rest)

-- what is written of octets that stand in a file, at an offset and within so many elements
pub record IsTree (options : Options) (strings offset depth : ℕ) (octets text : List ℕ) : Type 0 where
  pub lines : List Line
  pub outcome : Outcome
  pub row : Row false 0 0 octets lines outcome
  pub shown : List ℕ
  pub prints : AreShown options strings offset depth lines shown
  pub end : List ℕ
  pub ends : IsEndText options.json offset outcome end
  pub is : text ≡ shown ++ end

-- What is written of the element that begins at an offset: what is written of its octets. Where no element begins there
-- it is what is written of all octets behind, up to the fault, or a line that there are none.
abbrev pub IsTreeAt : Options → ℕ → List ℕ → List ℕ → Type 0
IsTreeAt options offset octets text =
    ((drop offset octets ≡ []) × IsRefusalLine options.json offset (codes "the octets end before") text) ⊎
    ((word : List ℕ) × IsFirst (drop offset octets) word × IsTree options 16 offset 0 word text) ⊎
    (HasNoFirst (drop offset octets) × IsTree options 16 offset 0 (drop offset octets) text)

-- what a walk over octets finds first
abbrev pub FirstStepFinds : List ℕ → Step → Type 0
FirstStepFinds octets found = (walk next : Walk) × (walk.view.now ≡ octets) × (walk.offset ≡ 0) ×
    (walk.frames.items ≡ []) × Finds found walk next

-- the line of what was found, in octets that stand at an offset and within so many elements; nothing if it is no element
abbrev pub IsFoundText : ℕ → ℕ → ℕ → Step → List ℕ → Type 0
IsFoundText width offset depth (an_element line) text = IsLineText width (placed offset depth line) false text
IsFoundText width offset depth Closed text = text ≡ []
IsFoundText width offset depth End text = text ≡ []
IsFoundText width offset depth (Refused r) text = text ≡ []

-- the line of the element that begins octets, which stand at an offset; nothing where none does
abbrev pub IsFirstLine : ℕ → ℕ → List ℕ → List ℕ → Type 0
IsFirstLine width offset octets text =
    (found : Step) × FirstStepFinds octets found × IsFoundText width offset 0 found text
