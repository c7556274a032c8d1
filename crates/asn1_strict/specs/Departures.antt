-- Where octets stop being strict DER, and which requirement is not met there.
use Rattle.std.specs.Prelude.{◌≡◌, ◌≢◌, ℕ, ◌+◌, ◌-◌, true, List, [], ◌∷◌, ◌++◌, ◌⊎◌, length}
use Rattle.std.specs.Borrow.{Bor}
use Rattle.x690.specs.Elements.{Parts, IsDerElement}
use Rattle.x690.specs.Faults.{Fault, DerElementFault}
use Rattle.asn1_strict.specs.declared.requirement.Departure.{Departure}
use Rattle.asn1_strict.specs.declared.requirement.Requirement.{Requirement}
use Rattle.asn1_strict.specs.declared.requirement.Requirement.TheVariants as requirements
use Rattle.asn1_strict.specs.Requirements.{requirement_of_fault, MissesOf}
use Rattle.asn1_strict.specs.Universal.{IsProper}
use Rattle.asn1_strict.specs.Strict.{StrictRow}

-- no element by DER begins the octets, or one that does not meet a requirement of its tag
abbrev pub BeginsBadly : List ℕ → Requirement → Type 0
BeginsBadly octets requirement = ((octets ≢ []) × ((fault : Fault) × DerElementFault octets fault ×
    (requirement ≡ requirement_of_fault fault))) ⊎
    ((word : List ℕ) × (rest : List ℕ) × (parts : Parts) × (octets ≡ word ++ rest) × IsDerElement word parts ×
    MissesOf requirement parts)

-- The first element that is none, or does not meet a requirement, stands at the offset. All before it is strict, and
-- the elements that it stands in have what DER asks of their tags.
pub data Departs : ℕ → List ℕ → Departure → Type 0 where
  here : (offset : ℕ) (octets : List ℕ) (departure : Departure) → departure.offset ≡ offset →
      BeginsBadly octets departure.requirement → Departs offset octets departure
  within : (offset : ℕ) (octets word rest : List ℕ) (parts : Parts) (departure : Departure) → octets ≡ word ++ rest →
      IsDerElement word parts → IsProper parts → parts.id.constructed ≡ true →
      Departs (offset + (length word - length parts.content)) parts.content departure →
      Departs offset octets departure
  behind_it : (offset : ℕ) (octets word rest : List ℕ) (parts : Parts) (departure : Departure) →
      octets ≡ word ++ rest → IsDerElement word parts → IsProper parts →
      (parts.id.constructed ≡ true → StrictRow parts.content) → Departs (offset + length word) rest departure →
      Departs offset octets departure

-- what is left departs: the innermost row, or one around it where that is strict
abbrev pub LeftDeparts : List (Bor (List ℕ)) → ℕ → List ℕ → Departure → Type 0
LeftDeparts [] offset view departure = Departs offset view departure
LeftDeparts (tail ∷ tails) offset view departure = Departs offset view departure ⊎
    (StrictRow view × LeftDeparts tails (offset + length view) tail.now departure)

-- The octets are not one element and no more. No element begins them, or that element departs, or it is strict and
-- octets stand behind it.
abbrev pub DepartsFromDer : List ℕ → Departure → Type 0
DepartsFromDer octets departure = ((departure.offset ≡ 0) × ((fault : Fault) × DerElementFault octets fault ×
    (departure.requirement ≡ requirement_of_fault fault))) ⊎
    ((word : List ℕ) × (rest : List ℕ) × (parts : Parts) × (octets ≡ word ++ rest) × IsDerElement word parts ×
    (Departs 0 word departure ⊎ (StrictRow word × (rest ≢ []) × (departure.offset ≡ length word) ×
    (departure.requirement ≡ requirements.NothingBehind))))
