-- What the findings of the commands say of octets.
use Rattle.std.specs.Prelude.{◌≡◌, ℕ, ◌-◌, ◌^◌, List, [], ◌++◌, ◌⊎◌, Bool, true, false, drop}
use Rattle.x690.specs.Elements.{Parts}
use Rattle.x690.specs.Faults.{Fault, HasFault}
use Rattle.x690.specs.Nested.{IsElement, ElementFault}
use Rattle.asn1_walk.specs.declared.line.Line.{Line}
use Rattle.asn1_walk.specs.declared.state.Walk.{Walk}
use Rattle.asn1_walk.specs.Rows.{Row, Outcome, ended, refused}
use Rattle.asn1_walk.specs.Walks.{Left}
use Rattle.asn1_strict.specs.Strict.{IsStrictDer}
use Rattle.asn1_engine.specs.declared.error.Finding.{Finding}
use Rattle.asn1_engine.specs.declared.error.Finding.TheVariants.{Holds, Refused}

-- strict DER, or not
abbrev pub TellsStrict : List ℕ → Finding → Type 0
TellsStrict octets Holds = IsStrictDer octets
TellsStrict octets Refused = IsStrictDer octets → ⊥

-- elements by BER, one after the other, and no more
abbrev pub AreBerElements : List ℕ → Type 0
AreBerElements octets = (lines : List Line) × (at : ℕ) × Row false 0 0 octets lines (ended at [])

-- elements, as far as to an octet that begins none
abbrev pub BreaksOff : List ℕ → Type 0
BreaksOff octets = (lines : List Line) × (at : ℕ) × (fault : Fault) × Row false 0 0 octets lines (refused at fault)

-- the one or the other
abbrev pub TellsElements : List ℕ → Bool → Type 0
TellsElements octets true = AreBerElements octets
TellsElements octets false = BreaksOff octets × (AreBerElements octets → ⊥)

-- the same of what a command found
abbrev pub FindsElements : List ℕ → Finding → Type 0
FindsElements octets Holds = AreBerElements octets
FindsElements octets Refused = BreaksOff octets × (AreBerElements octets → ⊥)

-- elements by BER are nested as deep as octets in memory can be
abbrev pub deepest : ℕ
deepest = 2 ^ 64 - 1

-- the octets of the element that begins octets
abbrev pub IsFirst : List ℕ → List ℕ → Type 0
IsFirst octets word = (parts : Parts) × (rest : List ℕ) × IsElement deepest word parts × (octets ≡ word ++ rest)

-- no element begins the octets
abbrev pub HasNoFirst : List ℕ → Type 0
HasNoFirst octets = HasFault (ElementFault deepest) octets

-- What a command found of the element that begins at an offset: what it finds of its octets. It is a refusal where no
-- element begins there.
abbrev pub FindsAt : List ℕ → ℕ → Finding → Type 0
FindsAt octets offset finding =
    ((word : List ℕ) × IsFirst (drop offset octets) word × FindsElements word finding) ⊎
    (HasNoFirst (drop offset octets) × (finding ≡ Refused))

-- whatever comes of the walk, comes of the octets
abbrev pub GoesOver : List ℕ → Walk → Type 0
GoesOver octets walk = (lines : List Line) (outcome : Outcome) → Left walk lines outcome →
    (all : List Line) × Row false 0 0 octets all outcome

-- both findings in one
abbrev pub both : Finding → Finding → Finding
both Holds other = other
both Refused other = Refused
