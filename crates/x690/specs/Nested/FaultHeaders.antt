-- How many headers are read whole before the first fault, where no element by BER begins the octets
-- (X.690 8.1.3.6, 8.1.5).
use Rattle.std.specs.Prelude.{◌≡◌, ℕ, zero, suc, ◌+◌, ◌<◌, List, ◌++◌, length, ◌⊎◌}
use Rattle.std.specs.List.{concat}
use Rattle.x690.specs.Lengths.{LengthForm, definite, indefinite}
use Rattle.x690.specs.Rules.{ber_rule}
use Rattle.x690.specs.Elements.{BeginsWithHeader}
use Rattle.x690.specs.Faults.{HeaderFault, IsTruncatedContent, HasFault}
use Rattle.x690.specs.Nested.{IsRow, IsWord, IsOpened}

-- no header begins the octets
abbrev pub LacksHeader : List ℕ → Type 0
LacksHeader = HasFault (HeaderFault ber_rule)

-- a header begins the octets, and some of the contents octets that it counts are missing
abbrev pub LacksContent : List ℕ → Type 0
LacksContent = HasFault (IsTruncatedContent ber_rule)

-- No element of the depth begins the octets, and so many headers are read whole before the first fault. There are none
-- where the first header has the fault. Else there is that header; behind an indefinite one there are those of the
-- whole elements and of what follows them. Below depth 1 nothing is read but one header.
unfoldable pub FaultHeaders : ℕ → List ℕ → ℕ → Type 0
FaultHeaders zero octets headers =
    (LacksHeader octets × (headers ≡ 0)) ⊎ (BeginsWithHeader ber_rule octets × (headers ≡ 1))
FaultHeaders (suc depth) octets headers =
    (LacksHeader octets × (headers ≡ 0)) ⊎ (LacksContent octets × (headers ≡ 1)) ⊎
    ((rest : List ℕ) × (opened : IsOpened depth octets rest) × (behind : ℕ) × FaultHeaders depth rest behind ×
    (headers ≡ 1 + opened.headers + behind))

-- Whole elements of the depth begin the octets, and a fault of the next one follows:
-- so many headers are read whole before it.
pub record EndFaultHeaders (depth : ℕ) (octets : List ℕ) (headers : ℕ) : Type 0 where
  pub words : List (List ℕ)
  pub rest : List ℕ
  pub inner : ℕ
  pub behind : ℕ
  pub row : IsRow (IsWord depth) words inner
  pub is : octets ≡ concat words ++ rest
  pub stops : FaultHeaders depth rest behind
  pub counted : headers ≡ inner + behind

-- No contents octets of a length of this form begin the octets,
-- and so many headers are read whole before the first fault.
abbrev pub ContentFaultHeaders : LengthForm → ℕ → List ℕ → ℕ → Type 0
ContentFaultHeaders (definite n) depth octets headers = (length octets < n) × (headers ≡ 0)
ContentFaultHeaders indefinite depth octets headers = EndFaultHeaders depth octets headers
