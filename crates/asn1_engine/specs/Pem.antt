-- Blocks of PEM: base64 between two lines that say what is in it (RFC 7468), with any text around.
use Rattle.std.specs.Prelude.{◌≡◌, ◌≢◌, ℕ, suc, ◌+◌, ◌-◌, ◌⊎◌, Bool, true, false, not, List, [], ◌∷◌, ◌++◌, Option}
use Rattle.std.specs.Prelude.{Some, None, codes, length, nat_eq, take, if◌then◌else◌}
use Rattle.std.specs.List.{filter, list_any, suffix_len}
use Rattle.std.specs.Char.{is_ascii_whitespace}
use Rattle.std.specs.String.{string_bytes}
use Rattle.base64.specs.Engines.{standard}
use Rattle.base64.specs.GeneralPurpose.{IsBytes, encode_of}
use Rattle.x690.specs.Sets.{AllIn, is_graphic}
use Rattle.asn1_engine.specs.Findings.{AreBerElements, BreaksOff}
use Rattle.asn1_engine.specs.declared.pem.Block.{Block}
use Rattle.asn1_engine.specs.declared.pem.PemError.{PemError}
use Rattle.asn1_engine.specs.declared.pem.PemError.TheVariants.{NoEnd, WrongEnd, NoBase64, Encrypted, OutOfMemory}

-- an octet other than a line feed
abbrev pub is_no_feed : ℕ → Bool
is_no_feed octet = not (nat_eq octet 10)

-- A line begins the text, and ends at a line feed or with the text. The rest follows.
abbrev pub IsLine : List ℕ → List ℕ → List ℕ → Type 0
IsLine text line rest = (text ≢ []) × AllIn is_no_feed line ×
    ((text ≡ line ++ 10 ∷ rest) ⊎ ((text ≡ line) × (rest ≡ [])))

-- the line without the white space at its end
unfoldable pub trimmed_end : List ℕ → List ℕ
trimmed_end line = take (length line - suffix_len is_ascii_whitespace line) line

-- A word stands between a front and an end of the line, with any white space behind. So a line may end in CR LF.
abbrev pub StandsBetween : List ℕ → List ℕ → List ℕ → List ℕ → Type 0
StandsBetween front word end line = trimmed_end line ≡ front ++ (word ++ end)

-- none does
abbrev pub IsNoneBetween : List ℕ → List ℕ → List ℕ → Type 0
IsNoneBetween front end line = (word : List ℕ) → StandsBetween front word end line → ⊥

-- The line is of the label between its marks, as "-----BEGIN " and "-----" (RFC 7468 2 and 3). The label has visible
-- characters and spaces.
abbrev pub IsBoundary : List ℕ → List ℕ → List ℕ → Type 0
IsBoundary front label line = StandsBetween front label (codes "-----") line × AllIn is_graphic label

-- the line is none of any label
abbrev pub IsNoBoundary : List ℕ → List ℕ → Type 0
IsNoBoundary front line = (label : List ℕ) → IsBoundary front label line → ⊥

-- what stands before the label in the first line of a block, and in the last one
abbrev pub begin_front : List ℕ
begin_front = codes "-----BEGIN "

abbrev pub end_front : List ℕ
end_front = codes "-----END "

-- octets without white space
abbrev pub seen_of : List ℕ → List ℕ
seen_of octets = filter (λ octet. not (is_ascii_whitespace octet)) octets

-- The base64 of a line, without white space. A line with a colon is a field of a header, and has none (RFC 1421 4.4).
abbrev pub base64_of : List ℕ → List ℕ
base64_of line = if list_any (λ octet. nat_eq octet 58) line then [] else seen_of line

-- the line is a field that says that the block is encrypted (RFC 1421 4.6.1.1)
abbrev pub IsEncrypting : List ℕ → Type 0
IsEncrypting line = (word : List ℕ) × StandsBetween (codes "Proc-Type:") word (codes "ENCRYPTED") line

-- The line is within a block: it is none of END, and does not say that the block is encrypted.
abbrev pub IsInner : List ℕ → Type 0
IsInner line = IsNoBoundary end_front line × (IsEncrypting line → ⊥)

-- so many lines within a block, their base64, and what follows them
pub data Encloses : ℕ → List ℕ → List ℕ → List ℕ → Type 0 where
  no_line : (text : List ℕ) → Encloses 0 text [] text
  one_line : (count : ℕ) (text line more base64 rest : List ℕ) → IsLine text line more → IsInner line →
      Encloses count more base64 rest → Encloses (suc count) text (base64_of line ++ base64) rest

-- The lines of a block behind its first one, up to one of END with a label, and what follows.
pub record IsEnclosed (text label base64 rest : List ℕ) (count : ℕ) : Type 0 where
  pub last : List ℕ
  pub line : List ℕ
  pub encloses : Encloses count text base64 last
  pub is_line : IsLine last line rest
  pub ends : IsBoundary end_front label line

-- A block of this label, behind so many lines, the last of which is that of BEGIN. Its octets are those of which the
-- base64 is the encoding (RFC 4648 4). The last number is that of the lines up to its end.
pub record IsBlock (before : ℕ) (label text : List ℕ) (block : Block) (rest : List ℕ) (behind : ℕ) : Type 0 where
  pub count : ℕ
  pub base64 : List ℕ
  pub enclosed : IsEnclosed text label base64 rest count
  pub encodes : base64 ≡ encode_of standard block.octets.items
  pub label_is : string_bytes block.label ≡ label
  pub line_is : block.line ≡ before
  pub behind_is : behind ≡ before + suc count

-- the text is the encoding of no octets
abbrev pub IsNoBase64 : List ℕ → Type 0
IsNoBase64 text = (octets : List ℕ) → IsBytes octets → text ≡ encode_of standard octets → ⊥

-- Why no block of this label stands behind the line of BEGIN. The number is that of this line, or that of the line of END
-- with another label.
abbrev pub IsMistake : ℕ → List ℕ → List ℕ → PemError → Type 0
IsMistake before label text (NoEnd line) = (line ≡ before) ×
    ((count : ℕ) × (base64 : List ℕ) × Encloses count text base64 [])
IsMistake before label text (WrongEnd line) = (other base64 rest : List ℕ) × (count : ℕ) ×
    IsEnclosed text other base64 rest count × (other ≢ label) × (line ≡ before + suc count)
IsMistake before label text (NoBase64 line) = (line ≡ before) × ((base64 rest : List ℕ) × (count : ℕ) ×
    IsEnclosed text label base64 rest count × IsNoBase64 base64)
IsMistake before label text (Encrypted line) = (line ≡ before) × ((base64 last field rest : List ℕ) × (count : ℕ) ×
    Encloses count text base64 last × IsLine last field rest × IsEncrypting field)
IsMistake before label text OutOfMemory = ⊥

-- The blocks of a text behind so many lines, in their order, up to its end or to the first mistake. Lines that are not
-- of a block are passed by.
pub data HasBlocks : ℕ → List ℕ → List Block → Option PemError → Type 0 where
  no_text : (before : ℕ) → HasBlocks before [] [] None
  around : (before : ℕ) (text line rest : List ℕ) (blocks : List Block) (end : Option PemError) →
      IsLine text line rest → IsNoBoundary begin_front line → HasBlocks (suc before) rest blocks end →
      HasBlocks before text blocks end
  one_block : (before behind : ℕ) (text line more label rest : List ℕ) (block : Block) (blocks : List Block)
      (end : Option PemError) → IsLine text line more → IsBoundary begin_front label line →
      IsBlock (suc before) label more block rest behind → HasBlocks behind rest blocks end →
      HasBlocks before text (block ∷ blocks) end
  mistake : (before : ℕ) (text line more label : List ℕ) (error : PemError) → IsLine text line more →
      IsBoundary begin_front label line → IsMistake (suc before) label more error →
      HasBlocks before text [] (Some error)

-- a line of the text begins a block
pub data HasBegin : List ℕ → Type 0 where
  begins : (text line rest label : List ℕ) → IsLine text line rest → IsBoundary begin_front label line → HasBegin text
  further : (text line rest : List ℕ) → IsLine text line rest → HasBegin rest → HasBegin text

-- The text is taken for PEM: a line begins a block, and its octets are no elements as they stand.
abbrev pub TellsPem : List ℕ → Bool → Type 0
TellsPem text true = HasBegin text × BreaksOff text × (AreBerElements text → ⊥)
TellsPem text false = (HasBegin text → ⊥) ⊎ AreBerElements text
