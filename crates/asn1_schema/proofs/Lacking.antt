-- Octets that are missing.
use Rattle.std.proofs.Common.{◌≡◌, ◌∙◌, sym, subst, refl, inr, ℕ, List, ◌++◌}
use Rattle.std.specs.Prelude.{Option, Some, None, IfSome, IfNone}
use Rattle.x690.specs.Elements.{Parts, IsDerElement, BeginsWithElement}
use Rattle.x690.specs.Identifiers.{IsTruncatedIdentifier}
use Rattle.asn1_headers.specs.Answers.{HasPrefix}
use Rattle.x690.specs.Nested.{IsElement, ElementFault, EndsInIdentifier}
use Rattle.x690.specs.Joined.{NoPrefix}
use Rattle.x690.specs.Faults.{Violation}
use Rattle.x690.specs.Faults.{Fault, missing, tag_fault, length_fault, rule_fault, depth_fault, DerElementFault, SpeaksOf}
use Rattle.x690.specs.Laws.Faults.{no_der_element}
use Rattle.x690.specs.Laws.Nested.Faults.{no_element}
use Rattle.asn1_headers.specs.declared.error.Err.{Err as Refusal}
use Rattle.asn1_headers.specs.declared.error.Err.TheVariants.{Incomplete as truncated}
use Rattle.asn1_headers.specs.declared.error.Needed.TheVariants.{Size}
use Rattle.asn1_headers.specs.declared.error.Error.{Error}
use Rattle.asn1_headers.specs.Header.Reading.{refusal_of, der_refusal, ber_refusal}
use Rattle.asn1_schema.specs.Decoding.{TellsMissing}
use Rattle.asn1_schema.proofs.ElementParts.{no_depth}

fault_of_truncated : (violation : Violation → Error) (fault : Fault) (n : ℕ) → refusal_of violation fault ≡ truncated (Size n) → fault ≡ missing n
fault_of_truncated b (missing m) n e = cc
fault_of_truncated b tag_fault n e = absurd (cc)
fault_of_truncated b length_fault n e = absurd (cc)
fault_of_truncated b (rule_fault x) n e = absurd (cc)
fault_of_truncated b depth_fault n e = absurd (cc)

-- what is told of a refusal: the octets that it counts, or that it counts none
abbrev pub IsCount : Refusal Error → Option ℕ → Type 0
IsCount r (Some n) = r ≡ truncated (Size n)
IsCount r None = (n : ℕ) → r ≡ truncated (Size n) → ⊥

pub is_count : (r : Refusal Error) (told : Option ℕ) → IfSome told (λ n. r ≡ truncated (Size n)) →
    IfNone told ((n : ℕ) → r ≡ truncated (Size n) → ⊥) → IsCount r told
is_count r (Some n) some none = some
is_count r None some none = none

-- a fault that counts no octets is final, but where an identifier is cut
final_fault : (violation : Violation → Error) (is_truncated : Type 0) (fault : Fault) (more : List ℕ) → (is_truncated → ⊥) →
    ((n : ℕ) → refusal_of violation fault ≡ truncated (Size n) → ⊥) → SpeaksOf is_truncated fault more
final_fault b is_truncated (missing n) more whole no_count = absurd (no_count n refl)
final_fault b is_truncated tag_fault more whole no_count = inr whole
final_fault b is_truncated length_fault more whole no_count = tt
final_fault b is_truncated (rule_fault x) more whole no_count = tt
final_fault b is_truncated depth_fault more whole no_count = tt

pub der_lacks : (octets : List ℕ) (fault : Fault) (r : Refusal Error) (told : Option ℕ) → DerElementFault octets fault →
    r ≡ der_refusal fault → IsCount r told → TellsMissing IsDerElement (IsTruncatedIdentifier octets) octets told
der_lacks octets fault r (Some n) why e t = λ more l word rest p is a.
    let f = fault_of_truncated _ fault n (sym e ∙ t) in
    no_der_element octets more word rest p (missing n) (subst (DerElementFault octets) f why) l a is
der_lacks octets fault r None why e t = inr (λ whole more word rest p is a.
    no_der_element octets more word rest p fault why
    (final_fault _ (IsTruncatedIdentifier octets) fault more whole (λ n c. t n (e ∙ c))) a is)

pub ber_lacks : (max : ℕ) (octets : List ℕ) (fault : Fault) (r : Refusal Error) (told : Option ℕ) →
    ElementFault max octets fault → r ≡ ber_refusal fault → IsCount r told →
    TellsMissing (IsElement max) (EndsInIdentifier max octets) octets told
ber_lacks max octets fault r (Some n) why e t = λ more l word rest p is a.
    let f = fault_of_truncated _ fault n (sym e ∙ t) in
    no_element max octets more word rest p a.0 (missing n) (subst (ElementFault max octets) f why) l a.1 is
ber_lacks max octets fault r None why e t = inr (λ whole more word rest p is a.
    no_element max octets more word rest p a.0 fault why
    (final_fault _ (EndsInIdentifier max octets) fault more whole (λ n c. t n (e ∙ c))) a.1 is)

-- no element is nested to no depth
pub none_to_no_depth : (max : ℕ) (octets : List ℕ) → max ≡ 0 →
    TellsMissing (IsElement max) (EndsInIdentifier max octets) octets None
none_to_no_depth max octets z = inr (λ whole more. subst (λ (m : ℕ). NoPrefix (IsElement m) (octets ++ more)) (sym z) (no_depth (octets ++ more)))

-- an element begins the octets
pub whole_element : (ElementOf : List ℕ → Parts → Type 0) (octets rest : List ℕ) (p : Parts) →
    HasPrefix ElementOf octets p rest → BeginsWithElement ElementOf octets
whole_element ElementOf octets rest p front = (front.word, rest, p, front.fits, front.is)
