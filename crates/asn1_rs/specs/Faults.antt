-- What readers refuse before all else: octets that no header begins, and elements that are cut.
use Rattle.std.specs.Prelude.{◌≡◌, ◌⊎◌, ◌≤◌, ℕ, List, Result, Err}
use Rattle.x690.specs.Rules.{Rule}
use Rattle.x690.specs.Elements.{Parts}
use Rattle.x690.specs.Faults.{Violation, Fault, missing}
use Rattle.asn1_headers.specs.declared.error.Error.{Error}
use Rattle.asn1_headers.specs.declared.error.Err.{Err as Refusal}
use Rattle.asn1_headers.specs.declared.error.Err.TheVariants.{Incomplete as truncated}
use Rattle.asn1_headers.specs.declared.error.Needed.{Needed}
use Rattle.asn1_headers.specs.declared.error.Needed.TheVariants.{Size}
use Rattle.asn1_headers.specs.Answers.{HasPrefix}
use Rattle.asn1_headers.specs.Error.{Converted}
use Rattle.asn1_headers.specs.Header.Reading.{HeaderGives, refusal_of}

-- the reader refuses octets that no header by the rule begins as the header is refused
abbrev pub TellsHeaderFirst : {T E : Type 0} → Rule → (Violation → Error) → (Error → E → Type 0) →
    (List ℕ → Result (List ℕ × T) (Refusal E) → Type 0) → Type 0
TellsHeaderFirst {T} {E} rule refuses from reads = (octets : List ℕ) (q : Refusal Error) (r : Refusal E) →
    HeaderGives rule (refusal_of refuses) octets (Err q) → reads octets (Err r) → Converted from q r

-- so many octets are missing, one at least: the fault of these octets
abbrev pub LacksOctets : (List ℕ → Fault → Type 0) → List ℕ → Needed → Type 0
LacksOctets FaultOf octets needed = (n : ℕ) × (needed ≡ Size n) × (1 ≤ n) × FaultOf octets (missing n)

-- `Incomplete` of the reader tells how many octets are missing
abbrev pub TruncationsAreCounted : {T E : Type 0} → (List ℕ → Fault → Type 0) →
    (List ℕ → Result (List ℕ × T) (Refusal E) → Type 0) → Type 0
TruncationsAreCounted FaultOf reads =
    (octets : List ℕ) (needed : Needed) → reads octets (Err (truncated needed)) → LacksOctets FaultOf octets needed

-- or it is that of a reader in the contents octets of the element that begins them
abbrev pub TruncationsAreCountedOrWithin : {S T E : Type 0} → (List ℕ → Fault → Type 0) → (List ℕ → Parts → Type 0) →
    (List ℕ → Result (List ℕ × S) (Refusal E) → Type 0) → (List ℕ → Result (List ℕ × T) (Refusal E) → Type 0) → Type 0
TruncationsAreCountedOrWithin FaultOf ElementOf within reads = (octets : List ℕ) (needed : Needed) →
    reads octets (Err (truncated needed)) → LacksOctets FaultOf octets needed ⊎
    ((p : Parts) × (rest : List ℕ) × HasPrefix ElementOf octets p rest × within p.content (Err (truncated needed)))
