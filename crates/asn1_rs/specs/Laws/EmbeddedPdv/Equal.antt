-- Embedded presentation data values are equal exactly where their values are, so they can be members of a set.
use Rattle.std.specs.Prelude.{◌≡◌, ◌↔◌, ℕ, Bool, true, false, List, Option, Some, None, IsTrue, ◌&&◌}
use Rattle.std.specs.Option.{option_eq}
use Rattle.std.proofs.Common.{◌∙◌, ap, refl}
use Rattle.std.proofs.lemmas.Bool.{false≢true}
use Rattle.asn1_rs.specs.contracts.asn1_types.embedded_pdv.EmbeddedPdvPartialEq.TheImpl as whole
use Rattle.asn1_rs.specs.contracts.asn1_types.embedded_pdv.PdvIdentificationPartialEq.TheImpl as part
use Rattle.asn1_rs.specs.declared.asn1_types.embedded_pdv.EmbeddedPdv.{EmbeddedPdv}
use Rattle.asn1_rs.specs.declared.asn1_types.embedded_pdv.PdvIdentification.{PdvIdentification}
use Rattle.asn1_rs.specs.declared.asn1_types.embedded_pdv.PdvIdentification.TheVariants as parts
use Rattle.asn1_rs.specs.declared.asn1_types.strings.RestrictedString.{RestrictedString}
use Rattle.asn1_rs.specs.Strings.{string_text}
use Rattle.asn1_rs.specs.EmbeddedPdv.{Identification, descriptor_text, syntax, context, transfer, PdvValue}
use Rattle.asn1_rs.specs.EmbeddedPdv.{identification_of, pdv_value}
use Rattle.asn1_rs.specs.Laws.Integer.Octets.{octets_equal}
use Rattle.asn1_rs.specs.Laws.Oid.{oid_equal}
use Rattle.asn1_rs.specs.Laws.OctetString.{slice_equal}
use Rattle.asn1_rs.specs.Laws.Strings.{string_equal}

-- Tests that decide.

-- Where one statement is equivalent to a second, and that to a third, the first is so to the third.
trans_iff : {A B C : Type 0} → A ↔ B → B ↔ C → A ↔ C
trans_iff f g = (λ a. g.0 (f.0 a), λ c. f.1 (g.1 c))

-- Two tests that decide two statements decide both together.
both : (p q : Bool) (A B : Type 0) → IsTrue p ↔ A → IsTrue q ↔ B → IsTrue (p && q) ↔ (A × B)
both true q A B f g = (λ h. (f.0 refl, g.0 h), λ e. g.1 e.1)
both false q A B f g = (λ h. absurd (false≢true h), λ e. f.1 e.0)

-- The same, where tests and statements need not be named.
both_iff : {p q : Bool} {A B : Type 0} → IsTrue p ↔ A → IsTrue q ↔ B → IsTrue (p && q) ↔ (A × B)
both_iff f g = both _ _ _ _ f g

-- Parts of a data value.

-- Identifications are equal exactly where what they say is.
identification_equal : (i j : PdvIdentification) →
    IsTrue (part.ghosts.eq i j) ↔ (identification_of i ≡ identification_of j)
identification_equal (parts.Syntaxes a t) (parts.Syntaxes b u) =
    trans_iff (both_iff (oid_equal a b) (oid_equal t u)) (λ e. cc, λ e. (cc, cc))
identification_equal (parts.Syntaxes a t) (parts.Syntax r) = (λ h. absurd (false≢true h), λ e. cc)
identification_equal (parts.Syntaxes a t) (parts.PresentationContextId d) = (λ h. absurd (false≢true h), λ e. cc)
identification_equal (parts.Syntaxes a t) (parts.ContextNegotiation d r) = (λ h. absurd (false≢true h), λ e. cc)
identification_equal (parts.Syntaxes a t) (parts.TransferSyntax r) = (λ h. absurd (false≢true h), λ e. cc)
identification_equal (parts.Syntaxes a t) parts.Fixed = (λ h. absurd (false≢true h), λ e. cc)
identification_equal (parts.Syntax s) (parts.Syntaxes b u) = (λ h. absurd (false≢true h), λ e. cc)
identification_equal (parts.Syntax s) (parts.Syntax r) = trans_iff (oid_equal s r) (ap syntax, λ e. cc)
identification_equal (parts.Syntax s) (parts.PresentationContextId d) = (λ h. absurd (false≢true h), λ e. cc)
identification_equal (parts.Syntax s) (parts.ContextNegotiation d r) = (λ h. absurd (false≢true h), λ e. cc)
identification_equal (parts.Syntax s) (parts.TransferSyntax r) = (λ h. absurd (false≢true h), λ e. cc)
identification_equal (parts.Syntax s) parts.Fixed = (λ h. absurd (false≢true h), λ e. cc)
identification_equal (parts.PresentationContextId c) (parts.Syntaxes b u) = (λ h. absurd (false≢true h), λ e. cc)
identification_equal (parts.PresentationContextId c) (parts.Syntax r) = (λ h. absurd (false≢true h), λ e. cc)
identification_equal (parts.PresentationContextId c) (parts.PresentationContextId d) =
    trans_iff (octets_equal c d) (ap context, λ e. cc)
identification_equal (parts.PresentationContextId c) (parts.ContextNegotiation d r) =
    (λ h. absurd (false≢true h), λ e. cc)
identification_equal (parts.PresentationContextId c) (parts.TransferSyntax r) = (λ h. absurd (false≢true h), λ e. cc)
identification_equal (parts.PresentationContextId c) parts.Fixed = (λ h. absurd (false≢true h), λ e. cc)
identification_equal (parts.ContextNegotiation c s) (parts.Syntaxes b u) = (λ h. absurd (false≢true h), λ e. cc)
identification_equal (parts.ContextNegotiation c s) (parts.Syntax r) = (λ h. absurd (false≢true h), λ e. cc)
identification_equal (parts.ContextNegotiation c s) (parts.PresentationContextId d) =
    (λ h. absurd (false≢true h), λ e. cc)
identification_equal (parts.ContextNegotiation c s) (parts.ContextNegotiation d r) =
    trans_iff (both_iff (octets_equal c d) (oid_equal s r)) (λ e. cc, λ e. (cc, cc))
identification_equal (parts.ContextNegotiation c s) (parts.TransferSyntax r) = (λ h. absurd (false≢true h), λ e. cc)
identification_equal (parts.ContextNegotiation c s) parts.Fixed = (λ h. absurd (false≢true h), λ e. cc)
identification_equal (parts.TransferSyntax s) (parts.Syntaxes b u) = (λ h. absurd (false≢true h), λ e. cc)
identification_equal (parts.TransferSyntax s) (parts.Syntax r) = (λ h. absurd (false≢true h), λ e. cc)
identification_equal (parts.TransferSyntax s) (parts.PresentationContextId d) = (λ h. absurd (false≢true h), λ e. cc)
identification_equal (parts.TransferSyntax s) (parts.ContextNegotiation d r) = (λ h. absurd (false≢true h), λ e. cc)
identification_equal (parts.TransferSyntax s) (parts.TransferSyntax r) =
    trans_iff (oid_equal s r) (ap transfer, λ e. cc)
identification_equal (parts.TransferSyntax s) parts.Fixed = (λ h. absurd (false≢true h), λ e. cc)
identification_equal parts.Fixed (parts.Syntaxes b u) = (λ h. absurd (false≢true h), λ e. cc)
identification_equal parts.Fixed (parts.Syntax r) = (λ h. absurd (false≢true h), λ e. cc)
identification_equal parts.Fixed (parts.PresentationContextId d) = (λ h. absurd (false≢true h), λ e. cc)
identification_equal parts.Fixed (parts.ContextNegotiation d r) = (λ h. absurd (false≢true h), λ e. cc)
identification_equal parts.Fixed (parts.TransferSyntax r) = (λ h. absurd (false≢true h), λ e. cc)
identification_equal parts.Fixed parts.Fixed = (λ h. refl, λ e. refl)

-- Descriptors are equal exactly where their texts are, or both are left out.
descriptor_equal : {K F : Type 0} (eq : RestrictedString K F → RestrictedString K F → Bool) →
    ((x y : RestrictedString K F) → IsTrue (eq x y) ↔ (string_text x ≡ string_text y)) →
    (x y : Option (RestrictedString K F)) → IsTrue (option_eq eq x y) ↔ (descriptor_text x ≡ descriptor_text y)
descriptor_equal eq h (Some x) (Some y) = trans_iff (h x y) (ap Some, λ e. cc)
descriptor_equal eq h (Some x) None = (λ t. absurd (false≢true t), λ e. cc)
descriptor_equal eq h None (Some y) = (λ t. absurd (false≢true t), λ e. cc)
descriptor_equal eq h None None = (λ t. refl, λ e. refl)

-- Data values are the same where all their parts are.
same_fields : (v w : PdvValue) →
    (v.identification ≡ w.identification) × ((v.descriptor ≡ w.descriptor) × (v.octets ≡ w.octets)) → v ≡ w
same_fields v w (i, (d, o)) =
    ap (λ (z : Identification). record { identification = z; descriptor = v.descriptor; octets = v.octets }) i ∙
    ap (λ (z : Option (List ℕ)). record { identification = w.identification; descriptor = z; octets = v.octets }) d ∙
    ap (λ (z : List ℕ). record { identification = w.identification; descriptor = w.descriptor; octets = z }) o

-- The parts of one data value are the same.
fields : (v w : PdvValue) → v ≡ w →
    (v.identification ≡ w.identification) × ((v.descriptor ≡ w.descriptor) × (v.octets ≡ w.octets))
fields v w e = (
  ap (λ (z : PdvValue). z.identification) e,
  (ap (λ (z : PdvValue). z.descriptor) e, ap (λ (z : PdvValue). z.octets) e),
)

-- Data values.

-- Data values in hand are equal exactly where their values are.
pub pdv_equal : (x y : EmbeddedPdv) → IsTrue (whole.ghosts.eq x y) ↔ (pdv_value x ≡ pdv_value y)
pdv_equal x y = trans_iff
    (both_iff (identification_equal x.identification y.identification)
    (both_iff (descriptor_equal _ string_equal x.data_value_descriptor y.data_value_descriptor)
    (slice_equal x.data_value y.data_value)))
    (same_fields (pdv_value x) (pdv_value y), fields (pdv_value x) (pdv_value y))
