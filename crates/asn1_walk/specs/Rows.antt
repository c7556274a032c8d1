-- The lines of a row of elements, by BER (X.690 8.1).
use Rattle.std.specs.Prelude.{◌≡◌, ℕ, suc, ◌+◌, Bool, true, false, List, [], ◌∷◌, ◌++◌, length, ◌⊎◌}
use Rattle.x690.specs.Identifiers.{Identifier}
use Rattle.x690.specs.Lengths.{LengthForm, definite, indefinite}
use Rattle.x690.specs.Rules.{ber_rule}
use Rattle.x690.specs.Elements.{IsHeader}
use Rattle.x690.specs.Faults.{Fault, HeaderFault, IsTruncatedContent}
use Rattle.x690.specs.Nested.{end_of_contents}
use Rattle.asn1_headers.specs.Class.{class_number}
use Rattle.asn1_headers.specs.Length.{form_of}
use Rattle.asn1_walk.specs.declared.line.Line.{Line}

-- what the line says of the identifier
abbrev pub identifier_of_line : Line → Identifier
identifier_of_line line = record { class = class_number line.class; constructed = line.constructed; number = line.number }

-- A row ends where its octets do; in contents of the indefinite form at 00 00, behind which the rest stands.
abbrev pub AtEnd : Bool → List ℕ → List ℕ → Type 0
AtEnd false octets rest = (octets ≡ []) × (rest ≡ [])
AtEnd true octets rest = octets ≡ end_of_contents ++ rest

-- how many octets an end has
abbrev pub end_width : Bool → ℕ
end_width false = 0
end_width true = 2

-- How the walk over a row comes out. It ends with the row, with the offset behind it and the rest, or at the first
-- octet that begins no element, with the fault.
pub data Outcome : Type 0 where
  ended : (offset : ℕ) → (rest : List ℕ) → Outcome
  refused : (offset : ℕ) → (fault : Fault) → Outcome

-- The octets begin with the header that the line tells of, which is not the end of the row.
pub record BeginsWithLine (marked : Bool) (depth offset : ℕ) (octets : List ℕ) (line : Line) (after : List ℕ) : Type 0
  where
    pub not_end : (rest : List ℕ) → AtEnd marked octets rest → ⊥
    pub header : List ℕ
    pub header_is : IsHeader ber_rule header (identifier_of_line line) (form_of line.length)
    pub is : octets ≡ header ++ after
    pub depth_is : line.depth ≡ depth
    pub offset_is : line.offset ≡ offset
    pub header_len_is : line.header_len ≡ length header

-- Where the contents of a header of this form are walked: how they end, their octets, and what stands behind these. In
-- the indefinite form the octets are all that follows.
abbrev pub Opens : LengthForm → List ℕ → Bool → List ℕ → List ℕ → Type 0
Opens (definite n) after marked content tail = (marked ≡ false) × (length content ≡ n) × (after ≡ content ++ tail)
Opens indefinite after marked content tail = (marked ≡ true) × (content ≡ after) × (tail ≡ [])

-- why no element begins the octets: no header does, or its contents are cut
abbrev pub NoElement : List ℕ → Fault → Type 0
NoElement octets fault = HeaderFault ber_rule octets fault ⊎ IsTruncatedContent ber_rule octets fault

-- The lines of the elements of a row, in their order: of each element before those of its contents. They are all up to
-- the end or to the first octet that begins none.
pub data Row : Bool → ℕ → ℕ → List ℕ → List Line → Outcome → Type 0 where
  at_end : (marked : Bool) (depth offset : ℕ) (octets rest : List ℕ) → AtEnd marked octets rest →
      Row marked depth offset octets [] (ended (offset + end_width marked) rest)
  at_fault : (marked : Bool) (depth offset : ℕ) (octets : List ℕ) (fault : Fault) →
      ((rest : List ℕ) → AtEnd marked octets rest → ⊥) → NoElement octets fault →
      Row marked depth offset octets [] (refused offset fault)
  leaf : (marked : Bool) (depth offset : ℕ) (octets : List ℕ) (line : Line) (rest : List ℕ)
      (lines : List Line) (outcome : Outcome) → BeginsWithLine marked depth offset octets line
      (line.content.now ++ rest) →
      line.constructed ≡ false → form_of line.length ≡ definite (length line.content.now) →
      Row marked depth (offset + line.header_len + length line.content.now) rest lines outcome →
      Row marked depth offset octets (line ∷ lines) outcome
  node : (marked : Bool) (depth offset : ℕ) (octets : List ℕ) (line : Line) (after : List ℕ) (inner_marked : Bool)
      (tail : List ℕ) (inner : List Line) (at : ℕ) (left : List ℕ) (lines : List Line) (outcome : Outcome) →
      BeginsWithLine marked depth offset octets line after → line.constructed ≡ true →
      Opens (form_of line.length) after inner_marked line.content.now tail →
      Row inner_marked (suc depth) (offset + line.header_len) line.content.now inner (ended at left) →
      Row marked depth at (left ++ tail) lines outcome → Row marked depth offset octets (line ∷ inner ++ lines) outcome
  broken : (marked : Bool) (depth offset : ℕ) (octets : List ℕ) (line : Line) (after : List ℕ) (inner_marked : Bool)
      (tail : List ℕ) (inner : List Line) (at : ℕ) (fault : Fault) →
      BeginsWithLine marked depth offset octets line after → line.constructed ≡ true →
      Opens (form_of line.length) after inner_marked line.content.now tail →
      Row inner_marked (suc depth) (offset + line.header_len) line.content.now inner (refused at fault) →
      Row marked depth offset octets (line ∷ inner) (refused at fault)
