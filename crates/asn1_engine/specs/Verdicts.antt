-- What is written of a verdict.
use Rattle.std.specs.Prelude.{ℕ, ◌≡◌, ◌<◌, ◌≤◌, ◌⊎◌, false, List, [], ◌∷◌, ◌++◌, Option, Some, None, codes, drop}
use Rattle.x690.specs.Rules.{der_rule}
use Rattle.x690.specs.Elements.{Parts, BeginsWithHeader}
use Rattle.x690.specs.Faults.{Fault, HeaderFault}
use Rattle.asn1_headers.specs.Length.{form_of}
use Rattle.asn1_walk.specs.declared.line.Line.{Line}
use Rattle.asn1_walk.specs.Rows.{Row, Outcome, ended, refused, identifier_of_line}
use Rattle.asn1_strict.specs.declared.requirement.Departure.{Departure}
use Rattle.asn1_strict.specs.declared.requirement.Requirement.{Requirement}
use Rattle.asn1_strict.specs.declared.requirement.Requirement.TheVariants as requirements
use Rattle.asn1_strict.specs.Requirements.{MissesOf, requirement_of_fault}
use Rattle.asn1_strict.specs.Universal.{IsProper}
use Rattle.asn1_strict.specs.Strict.{IsStrictDer}
use Rattle.asn1_strict.specs.Departures.{DepartsFromDer}
use Rattle.asn1_engine.specs.declared.error.Finding.{Finding}
use Rattle.asn1_engine.specs.declared.error.Finding.TheVariants.{Holds, Refused}
use Rattle.asn1_engine.specs.declared.shortfalls.Shortfall.{Shortfall}
use Rattle.asn1_engine.specs.Shortfalls.{TellsShortfall, shortfall_text}
use Rattle.asn1_engine.specs.Standing.{IsFirstElement, standing_text}
use Rattle.asn1_words.specs.Words.{number_text}
use Rattle.asn1_engine.specs.Wording.{words_of}

-- what is wrong, and how many octets are missing
abbrev pub wrong_text : List ℕ → Option Shortfall → List ℕ
wrong_text wrong shortfall = wrong ++ shortfall_text shortfall

-- the same, its section, what stands there, and what would be right
abbrev pub rule_text : List ℕ × List ℕ × List ℕ → Option Shortfall → List ℕ → List ℕ
rule_text words shortfall word = wrong_text words.1 shortfall ++ codes " (X.690 " ++ words.0 ++
    codes "); there stands: " ++ standing_text word ++ codes "; right is: " ++ words.2

-- the line of octets that are strict DER
abbrev pub strict_text : List ℕ → List ℕ
strict_text name = name ++ codes ": strict DER" ++ 10 ∷ []

-- the line of a departure
abbrev pub departure_text : List ℕ → Departure → Option Shortfall → List ℕ → List ℕ
departure_text name departure shortfall word = name ++ codes ": octet " ++ number_text departure.offset ++ codes ": " ++
    rule_text (words_of departure.requirement) shortfall word ++ 10 ∷ []

-- the same, with what is missing and what stands there
abbrev pub IsDepartureLine : List ℕ → List ℕ → Departure → List ℕ → Type 0
IsDepartureLine name octets departure text = (shortfall : Option Shortfall) × (word : List ℕ) ×
    TellsShortfall departure.requirement (drop departure.offset octets) shortfall ×
    IsFirstElement (drop departure.offset octets) word × (text ≡ departure_text name departure shortfall word)

-- the line of the first departure from strict DER, or that of none
abbrev pub IsVerdict : List ℕ → List ℕ → List ℕ → Type 0
IsVerdict name octets text = (IsStrictDer octets × (text ≡ strict_text name)) ⊎
    ((departure : Departure) × DepartsFromDer octets departure × IsDepartureLine name octets departure text)

-- the same of what was found
abbrev pub IsLineOf : List ℕ → List ℕ → Option Departure → List ℕ → Type 0
IsLineOf name octets None text = IsStrictDer octets × (text ≡ strict_text name)
IsLineOf name octets (Some departure) text =
    DepartsFromDer octets departure × IsDepartureLine name octets departure text

-- what was found is that the octets are strict DER, or a departure
abbrev pub finding_of : Option Departure → Finding
finding_of None = Holds
finding_of (Some departure) = Refused

-- the header at the front is none by DER, and this is what it does not meet
abbrev pub HeaderLacks : List ℕ → Requirement → Type 0
HeaderLacks octets requirement =
    (fault : Fault) × HeaderFault der_rule octets fault × (requirement ≡ requirement_of_fault fault)

-- the element of a line
abbrev pub line_parts : Line → Parts
line_parts line =
    record { id = identifier_of_line line; form = form_of line.length; content = line.content.now }

-- What DER asks of the element of a line alone, at these octets, and is not met: of its header, or else of its tag.
abbrev pub ElementLacks : List ℕ → Line → Requirement → Type 0
ElementLacks octets line requirement = HeaderLacks octets requirement ⊎
    (BeginsWithHeader der_rule octets × MissesOf requirement (line_parts line))

-- all that DER asks of the element alone is met
abbrev pub ElementHolds : List ℕ → Line → Type 0
ElementHolds octets line = BeginsWithHeader der_rule octets × IsProper (line_parts line)

-- what is not met where no element begins the octets: by the header, or octets are missing behind it
abbrev pub NothingHolds : List ℕ → Requirement → Type 0
NothingHolds octets requirement = HeaderLacks octets requirement ⊎
    (BeginsWithHeader der_rule octets × (requirement ≡ requirements.Whole))

-- the line of a departure behind an offset, and nothing of one before
abbrev pub IsFurther : List ℕ → List ℕ → ℕ → Departure → List ℕ → Type 0
IsFurther name octets first departure text = ((departure.offset ≤ first) × (text ≡ [])) ⊎
    ((first < departure.offset) × IsDepartureLine name octets departure text)

-- what is written of an element behind the first departure
abbrev pub IsElementVerdict : List ℕ → List ℕ → ℕ → Line → List ℕ → Type 0
IsElementVerdict name octets first line text = (ElementHolds (drop line.offset octets) line × (text ≡ [])) ⊎
    ((requirement : Requirement) × ElementLacks (drop line.offset octets) line requirement ×
    IsFurther name octets first (record { offset = line.offset; requirement = requirement }) text)

-- the same of elements, one after the other
pub data AreElementVerdicts : List ℕ → List ℕ → ℕ → List Line → List ℕ → Type 0 where
  no_verdicts : (name octets : List ℕ) (first : ℕ) → AreElementVerdicts name octets first [] []
  more_verdicts : (name octets : List ℕ) (first : ℕ) (line : Line) (lines : List Line) (text rest : List ℕ) →
      IsElementVerdict name octets first line text → AreElementVerdicts name octets first lines rest →
      AreElementVerdicts name octets first (line ∷ lines) (text ++ rest)

-- what is written where the elements end: nothing, or the line of the offset where none begins
abbrev pub IsLastVerdict : List ℕ → List ℕ → ℕ → Outcome → List ℕ → Type 0
IsLastVerdict name octets first (ended at rest) text = text ≡ []
IsLastVerdict name octets first (refused at fault) text = (requirement : Requirement) ×
    NothingHolds (drop at octets) requirement ×
    IsFurther name octets first (record { offset = at; requirement = requirement }) text

-- The lines behind the first departure: of each element by BER that has not what DER asks of it alone, in their order,
-- and of the first octet that begins none.
pub record AreOtherDepartures (name octets : List ℕ) (first : ℕ) (text : List ℕ) : Type 0 where
  pub lines : List Line
  pub outcome : Outcome
  pub row : Row false 0 0 octets lines outcome
  pub shown : List ℕ
  pub verdicts : AreElementVerdicts name octets first lines shown
  pub last : List ℕ
  pub ends : IsLastVerdict name octets first outcome last
  pub is : text ≡ shown ++ last

-- the line of the first departure, and those of the others; or the line of none
abbrev pub AreVerdicts : List ℕ → List ℕ → List ℕ → Type 0
AreVerdicts name octets text = (IsStrictDer octets × (text ≡ strict_text name)) ⊎
    ((departure : Departure) × (line more : List ℕ) × DepartsFromDer octets departure ×
    IsDepartureLine name octets departure line × AreOtherDepartures name octets departure.offset more ×
    (text ≡ line ++ more))
