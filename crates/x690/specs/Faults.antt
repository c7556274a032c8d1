-- Why no header and no element begins octets: the first fault from the left.
use Rattle.std.specs.Prelude.{◌≡◌, ◌≢◌, ℕ, ◌+◌, ◌^◌, ◌<◌, ◌≤◌, true, false, List, [], ◌∷◌, ◌++◌, length, ◌⊎◌}
use Rattle.x690.specs.Digits.{base_256_value}
use Rattle.x690.specs.Identifiers.{Identifier, IsIdentifier}
use Rattle.x690.specs.Lengths.{LengthForm, definite, indefinite, IsLengthForm}
use Rattle.x690.specs.Rules.{Rule, der_rule, allows_form}
use Rattle.x690.specs.Elements.{IsHeader}

-- what of a header its rule does not allow: the identifier octets, the length octets, or the indefinite form
pub data Violation : Type 0 where
  identifier_violation : Violation
  length_violation : Violation
  form_violation : Violation

-- What is wrong. So many octets are missing. Identifier octets are cut or too great. Length octets are ff or too great.
-- The rule does not allow the header. The depth is spent.
pub data Fault : Type 0 where
  missing : ℕ → Fault
  tag_fault : Fault
  length_fault : Fault
  rule_fault : Violation → Fault
  depth_fault : Fault

-- nothing is there, or no front of the octets is an identifier
abbrev pub IdentifierFault : List ℕ → Fault → Type 0
IdentifierFault octets (missing n) = (octets ≡ []) × (n ≡ 1)
IdentifierFault octets tag_fault =
    (octets ≢ []) × ((front rest : List ℕ) (id : Identifier) → octets ≡ front ++ rest → IsIdentifier front id → ⊥)
IdentifierFault octets _ = ⊥

-- n octets are missing of the length octets that the first one announces
abbrev pub IsTruncatedLength : List ℕ → ℕ → Type 0
IsTruncatedLength [] n = n ≡ 1
IsTruncatedLength (first ∷ others) n = (k : ℕ) × (first ≡ 128 + k) × (k ≤ 126) × (1 ≤ n) × (length others + n ≡ k)

-- the length is past what 64 bits hold
abbrev pub IsHugeLength : List ℕ → Type 0
IsHugeLength octets = (others : List ℕ) × (rest : List ℕ) × (1 ≤ length others) × (length others ≤ 126) ×
    (octets ≡ (128 + length others) ∷ others ++ rest) × (2 ^ 64 ≤ base_256_value others)

-- ff announces no length
abbrev pub LengthFault : List ℕ → Fault → Type 0
LengthFault octets (missing n) = IsTruncatedLength octets n
LengthFault octets length_fault = ((others : List ℕ) × (octets ≡ 255 ∷ others)) ⊎ IsHugeLength octets
LengthFault octets _ = ⊥

-- what a length that the rule does not allow breaches: its octets where it is definite, else the form
abbrev pub violation_of : LengthForm → Violation
violation_of (definite n) = length_violation
violation_of indefinite = form_violation

-- length octets, or 80, that the rule does not allow behind the identifier
pub record IsLengthViolation (rule : Rule) (id : Identifier) (octets : List ℕ) (fault : Fault) : Type 0 where
  pub count : List ℕ
  pub rest : List ℕ
  pub form : LengthForm
  pub count_is : IsLengthForm count form
  pub is : octets ≡ count ++ rest
  pub not_allowed : allows_form rule id count form ≡ false
  pub fault_is : fault ≡ rule_fault (violation_of form)

-- the rule does not allow the identifier octets; or it does, and no length that it allows follows
abbrev pub FaultFrom : Rule → List ℕ → Identifier → List ℕ → Fault → Type 0
FaultFrom rule identifier id rest fault =
    ((rule.allows_identifier identifier ≡ false) × (fault ≡ rule_fault identifier_violation)) ⊎
    ((rule.allows_identifier identifier ≡ true) × (LengthFault rest fault ⊎ IsLengthViolation rule id rest fault))

-- identifier octets, and then the fault
pub record IsFaultFromIdentifier (rule : Rule) (octets : List ℕ) (fault : Fault) : Type 0 where
  pub identifier : List ℕ
  pub rest : List ℕ
  pub id : Identifier
  pub identifier_is : IsIdentifier identifier id
  pub is : octets ≡ identifier ++ rest
  pub why : FaultFrom rule identifier id rest fault

-- why no header by the rule begins the octets
abbrev pub HeaderFault : Rule → List ℕ → Fault → Type 0
HeaderFault rule octets fault = IdentifierFault octets fault ⊎ IsFaultFromIdentifier rule octets fault

-- some of the contents octets that a header counts are missing
pub record IsTruncatedContent (rule : Rule) (octets : List ℕ) (fault : Fault) : Type 0 where
  pub header : List ℕ
  pub rest : List ℕ
  pub id : Identifier
  pub counted : ℕ
  pub lacking : ℕ
  pub header_is : IsHeader rule header id (definite counted)
  pub is : octets ≡ header ++ rest
  pub some : 1 ≤ lacking
  pub sum : length rest + lacking ≡ counted
  pub fault_is : fault ≡ missing lacking

-- why no element by DER begins the octets
abbrev pub DerElementFault : List ℕ → Fault → Type 0
DerElementFault octets fault = HeaderFault der_rule octets fault ⊎ IsTruncatedContent der_rule octets fault

-- the octets have a fault
abbrev pub HasFault : (List ℕ → Fault → Type 0) → List ℕ → Type 0
HasFault FaultOf octets = (fault : Fault) × FaultOf octets fault

-- What a fault says of the octets with more behind them. Where n are missing it says nothing of n or more. Where the
-- octets end within an identifier in high form it says nothing of any.
abbrev pub SpeaksOf : Type 0 → Fault → List ℕ → Type 0
SpeaksOf is_truncated (missing n) more = length more < n
SpeaksOf is_truncated tag_fault more = (more ≡ []) ⊎ (is_truncated → ⊥)
SpeaksOf is_truncated _ more = Unit {0}

-- the fault of octets that more octets make whole: it lacks as many or fewer, or it is that of a cut identifier
abbrev pub IsLackingOrTruncated : Type 0 → Fault → List ℕ → Type 0
IsLackingOrTruncated truncated fault more = ((n : ℕ) × (fault ≡ missing n) × (n ≤ length more)) ⊎ ((fault ≡ tag_fault) × truncated)
