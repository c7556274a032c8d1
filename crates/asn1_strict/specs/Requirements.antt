-- Which requirement it is that an element does not meet.
use Rattle.std.specs.Prelude.{◌≡◌, ◌≢◌, ℕ, Bool, List, [], ◌⊎◌}
use Rattle.x690.specs.Faults.{Fault, missing, tag_fault, length_fault, rule_fault, depth_fault}
use Rattle.x690.specs.Faults.{identifier_violation, length_violation, form_violation}
use Rattle.x690.specs.Elements.{Parts}
use Rattle.x690.specs.Integers.{IsShortestInteger}
use Rattle.asn1_headers.specs.declared.error.Error.{Error}
use Rattle.asn1_headers.specs.declared.error.Error.TheVariants.{InvalidTag, InvalidLength, DerConstraintFailed}
use Rattle.asn1_headers.specs.declared.error.DerConstraint.TheVariants.{IndefiniteLength}
use Rattle.asn1_headers.specs.declared.error.DerConstraint.TheVariants.{TagNotShortest, LengthNotShortest}
use Rattle.asn1_headers.specs.declared.error.Err.{Err as Refusal}
use Rattle.asn1_headers.specs.declared.error.Err.TheVariants.{Error as refused}
use Rattle.asn1_strict.specs.declared.requirement.Requirement.{Requirement}
use Rattle.asn1_strict.specs.declared.requirement.Requirement.TheVariants as requirements
use Rattle.asn1_strict.specs.Sets.{IsOrderedSet}
use Rattle.x690.specs.Times.{IsStrictUtcText, IsStrictGeneralizedText}
use Rattle.asn1_strict.specs.Universal.{HasCharactersOf, HasFormOf, IsStrictBoolean, IsStrictBits, AreShortestArcs}

-- what an element with a fault in its header, or with cut contents, does not meet
abbrev pub requirement_of_fault : Fault → Requirement
requirement_of_fault (missing n) = requirements.Whole
requirement_of_fault tag_fault = requirements.Identifier
requirement_of_fault length_fault = requirements.Length
requirement_of_fault (rule_fault identifier_violation) = requirements.ShortestIdentifier
requirement_of_fault (rule_fault length_violation) = requirements.ShortestLength
requirement_of_fault (rule_fault form_violation) = requirements.DefiniteLength
requirement_of_fault depth_fault = requirements.Whole

-- the same, told from the refusal
abbrev pub requirement_of_refusal : Refusal Error → Requirement
requirement_of_refusal (refused InvalidTag) = requirements.Identifier
requirement_of_refusal (refused InvalidLength) = requirements.Length
requirement_of_refusal (refused (DerConstraintFailed TagNotShortest)) = requirements.ShortestIdentifier
requirement_of_refusal (refused (DerConstraintFailed LengthNotShortest)) = requirements.ShortestLength
requirement_of_refusal (refused (DerConstraintFailed IndefiniteLength)) = requirements.DefiniteLength
requirement_of_refusal _ = requirements.Whole

-- what a requirement of contents asks, of an element with a universal tag
abbrev pub Meets : Requirement → ℕ → List ℕ → Type 0
Meets requirements.TypedTag number content = number ≢ 0
Meets requirements.Boolean number content = number ≡ 1 → IsStrictBoolean content
Meets requirements.ShortestInteger number content = (number ≡ 2) ⊎ (number ≡ 10) → IsShortestInteger content
Meets requirements.UnusedBits number content = number ≡ 3 → IsStrictBits content
Meets requirements.Null number content = number ≡ 5 → content ≡ []
Meets requirements.ShortestArcs number content = (number ≡ 6) ⊎ (number ≡ 13) → AreShortestArcs content
Meets requirements.Characters number content = HasCharactersOf number content
Meets requirements.SetOrder number content = number ≡ 17 → IsOrderedSet content
Meets requirements.UtcTime number content = number ≡ 23 → IsStrictUtcText content
Meets requirements.GeneralizedTime number content = number ≡ 24 → IsStrictGeneralizedText content
Meets _ number content = Unit {0}

-- The element with a universal tag does not meet the requirement: of its form, or, where the form is right, of its
-- contents.
abbrev pub Misses : Requirement → ℕ → ℕ → Bool → List ℕ → Type 0
Misses requirement class number constructed content = (class ≡ 0) ×
    (((requirement ≡ requirements.Form) × (HasFormOf number constructed → ⊥)) ⊎
    (HasFormOf number constructed × (Meets requirement number content → ⊥)))

abbrev pub MissesOf : Requirement → Parts → Type 0
MissesOf requirement parts =
    Misses requirement parts.id.class parts.id.number parts.id.constructed parts.content
