-- Contents octets by BER, behind a header that was read (X.690 8.1.3, 8.1.4, 8.1.5).
use Rattle.std.specs.Prelude.{◌≡◌, ℕ, ◌+◌, ◌≤◌, List, ◌++◌, length}
use Rattle.std.specs.List.{concat}
use Rattle.x690.specs.Lengths.{LengthForm, definite, indefinite}
use Rattle.x690.specs.Faults.{Fault, missing}
use Rattle.x690.specs.Nested.{IsRow, IsWord, ElementFault, end_of_contents}

-- Whole elements of the depth and then 00 00 begin the octets:
-- the elements are the contents octets, with so many headers.
pub record IsEndedContent (depth : ℕ) (octets content rest : List ℕ) (headers : ℕ) : Type 0 where
  pub some : 1 ≤ depth
  pub words : List (List ℕ)
  pub row : IsRow (IsWord depth) words headers
  pub content_is : content ≡ concat words
  pub is : octets ≡ content ++ (end_of_contents ++ rest)

-- why they do not: whole elements of the depth, and then the first fault of the next one
pub record EndFault (depth : ℕ) (octets : List ℕ) (fault : Fault) : Type 0 where
  pub words : List (List ℕ)
  pub rest : List ℕ
  pub headers : ℕ
  pub row : IsRow (IsWord depth) words headers
  pub is : octets ≡ concat words ++ rest
  pub why : ElementFault depth rest fault

-- Contents octets of a length of this form begin the octets, and the rest follows. In the indefinite form they have
-- elements of the depth, with so many headers, that of 00 00 included.
abbrev pub IsContent : LengthForm → ℕ → List ℕ → List ℕ → List ℕ → ℕ → Type 0
IsContent (definite n) depth octets content rest headers =
    (length content ≡ n) × (octets ≡ content ++ rest) × (headers ≡ 0)
IsContent indefinite depth octets content rest headers =
    (inner : ℕ) × IsEndedContent depth octets content rest inner × (headers ≡ inner + 1)

-- such contents octets begin the octets
abbrev pub BeginsWithContent : LengthForm → ℕ → List ℕ → Type 0
BeginsWithContent form depth octets =
    (content : List ℕ) × (rest : List ℕ) × (headers : ℕ) × IsContent form depth octets content rest headers

-- why no such contents octets begin the octets
abbrev pub ContentFault : LengthForm → ℕ → List ℕ → Fault → Type 0
ContentFault (definite n) depth octets fault =
    (lacking : ℕ) × (1 ≤ lacking) × (length octets + lacking ≡ n) × (fault ≡ missing lacking)
ContentFault indefinite depth octets fault = EndFault depth octets fault
