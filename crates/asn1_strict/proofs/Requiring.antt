-- An element that has all that DER asks meets each requirement.
use Rattle.std.proofs.Common.{◌≡◌, ℕ, Bool, List, inl, inr}
use Rattle.x690.specs.Faults.{Fault, missing, tag_fault, length_fault, rule_fault, depth_fault}
use Rattle.x690.specs.Faults.{identifier_violation, length_violation, form_violation}
use Rattle.x690.specs.Elements.{Parts}
use Rattle.asn1_headers.specs.Header.Reading.{der_refusal}
use Rattle.asn1_strict.specs.declared.requirement.Requirement.{Requirement}
use Rattle.asn1_strict.specs.declared.requirement.Requirement.TheVariants as requirements
use Rattle.asn1_strict.specs.Universal.{HasContentOf, IsProper}
use Rattle.asn1_strict.specs.Requirements.{Meets, MissesOf, requirement_of_fault, requirement_of_refusal}
use Rattle.std.proofs.Common.{refl}

pub meets : (requirement : Requirement) (number : ℕ) (content : List ℕ) → HasContentOf number content →
    Meets requirement number content
meets requirements.TypedTag number content h = h.not_reserved
meets requirements.Boolean number content h = h.boolean
meets requirements.ShortestInteger number content h = λ e. elim e [ inl i ↦ h.integer i | inr j ↦ h.enumerated j ]
meets requirements.UnusedBits number content h = h.bits
meets requirements.Null number content h = h.null
meets requirements.ShortestArcs number content h = λ e. elim e [ inl i ↦ h.oid i | inr j ↦ h.relative_oid j ]
meets requirements.Characters number content h = h.characters
meets requirements.SetOrder number content h = h.set
meets requirements.UtcTime number content h = h.utc_time
meets requirements.GeneralizedTime number content h = h.generalized_time
meets requirements.Whole number content h = tt
meets requirements.Identifier number content h = tt
meets requirements.ShortestIdentifier number content h = tt
meets requirements.Length number content h = tt
meets requirements.ShortestLength number content h = tt
meets requirements.DefiniteLength number content h = tt
meets requirements.Form number content h = tt
meets requirements.NothingBehind number content h = tt

pub misses_not_proper : (requirement : Requirement) (parts : Parts) → MissesOf requirement parts → IsProper parts → ⊥
misses_not_proper requirement parts m proper =
    let u = proper m.0 in
    elim m.1 [
      | inl f ↦ f.1 u.0
      | inr c ↦ c.1 (meets requirement parts.id.number parts.content u.1)
    ]

-- a refusal tells of the requirement that its fault breaks
pub told : (fault : Fault) → requirement_of_refusal (der_refusal fault) ≡ requirement_of_fault fault
told (missing n) = refl
told tag_fault = refl
told length_fault = refl
told (rule_fault identifier_violation) = refl
told (rule_fault length_violation) = refl
told (rule_fault form_violation) = refl
told depth_fault = refl
