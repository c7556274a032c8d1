-- Elements with a strict header that octets are.
use Rattle.std.proofs.Common.{◌≡◌, ◌∙◌, ap, sym, refl, subst, ℕ, ◌<◌, Bool, List, [], append-nil, arith}
use Rattle.x690.specs.Elements.{IsDerElement, IsStrictElement}
use Rattle.x690.specs.Faults.{DerElementFault, Fault}
use Rattle.x690.specs.Identifiers.{Identifier, IsTruncatedIdentifier}
use Rattle.x690.specs.Rules.{der_rule}
use Rattle.x690.specs.Strict.{definite_parts, element_octets}
use Rattle.x690.specs.Laws.Faults.{der_fault_counts, no_der_element, speaks_now}
use Rattle.x690.specs.Laws.StrictElements.{der_allows_strict, der_element_strict, strict_element_octets, strict_is_definite}
use Rattle.x690.specs.Laws.Words.{definite_words}
use Rattle.asn1_headers.specs.Answers.{HasPrefix}
use Rattle.asn1_headers.specs.Class.{class_number}
use Rattle.asn1_headers.specs.Elements.{element_parts}
use Rattle.asn1_headers.specs.Header.{identifier_of}
use Rattle.asn1_headers.specs.declared.class.Class.{Class}
use Rattle.asn1_headers.specs.declared.class.Class.TheVariants.{Universal, Application, ContextSpecific, Private}
use Rattle.asn1_headers.specs.declared.header.Header.{Header}

abbrev made : ℕ → Bool → ℕ → Identifier
made class constructed number = record { class = class; constructed = constructed; number = number }

-- what a header says
pub own_identifier : (h : Header) (class : ℕ) (constructed : Bool) (number : ℕ) → class ≡ class_number h.class →
    constructed ≡ h.constructed → number ≡ h.tag.0 → made class constructed number ≡ identifier_of h
own_identifier h class constructed number a b c =
    ap (λ n. made n constructed number) a ∙ ap (λ x. made (class_number h.class) x number) b
    ∙ ap (λ n. made (class_number h.class) h.constructed n) c

pub few_classes : (class : Class) → class_number class < 4
few_classes Universal = omega arith
few_classes Application = omega arith
few_classes ContextSpecific = omega arith
few_classes Private = omega arith

-- no element begins octets with a fault
pub not_strict : (o : List ℕ) (fault : Fault) → DerElementFault o fault → (id : Identifier) (c : List ℕ) → IsStrictElement o id c → ⊥
not_strict o fault why id c s =
    no_der_element o [] o [] (definite_parts id c) fault why
    (speaks_now (IsTruncatedIdentifier o) fault (der_fault_counts o fault why))
    (strict_is_definite der_rule der_allows_strict o id c s) refl

module _ (o : List ℕ) (h : Header) (content rest : List ℕ) (front : HasPrefix IsDerElement o (element_parts h content) rest) where
  strict : IsStrictElement front.word (identifier_of h) content
  strict = der_element_strict front.word (element_parts h content) front.fits

  -- the element at the front is all of them
  pub is_strict : o ≡ element_octets (identifier_of h) content → IsStrictElement o (identifier_of h) content
  is_strict is = subst (λ (x : List ℕ). IsStrictElement x (identifier_of h) content)
      (strict_element_octets front.word (identifier_of h) content strict ∙ sym is) strict

  -- so it is, where they are one
  pub are_strict : (id : Identifier) (c : List ℕ) → IsStrictElement o id c → o ≡ element_octets (identifier_of h) content
  are_strict id c s =
      sym ((definite_words der_rule).one front.word o rest [] (element_parts h content) (definite_parts id c) front.fits
      (strict_is_definite der_rule der_allows_strict o id c s) (sym front.is ∙ sym (append-nil o))).0
      ∙ strict_element_octets front.word (identifier_of h) content strict
