-- What requests and notices hold, with its laws. Which arm a request is, and which a notice is, with the laws of these.
use Rattle.std.specs.Prelude.{ℕ, Bool, pos, refl}
use Rattle.asn1_rs.specs.Prelude.{choice_of, Error, struct_of, struct_type}
use Rattle.asn1_rs.specs.declared.asn1_types.tagged.Implicit.{Implicit}
use Rattle.asn1_rs.specs.declared.asn1_types.tagged.TaggedValue.{TaggedValue}
use Rattle.asn1_rs.specs.declared.choices.arms.Never.{Never}
use Rattle.asn1_rs.specs.declared.choices.arms.Or.{Or}
use Rattle.asn1_rs.specs.declared.choices.arms.Or.TheVariants as arm
use Rattle.asn1_rs.specs.Choices.Data.{LawfulChoiceOf, arm_before, end_of_arms}
use Rattle.asn1_rs.specs.Structs.Data.{LawfulStructOf, LawfulTypeOf, end_row, field_of, then_row}
use Rattle.asn1_rs.specs.Structs.Types.{implicit_type, list_type, signed_type, unsigned_type}
use Rattle.asn1_rs_profiles.specs.Refined.Laws.{refined_type}
use Rattle.asn1_rs_profiles.specs.Refined.Ready.{is_within}
use Rattle.asn1_rs.specs.Choices.Nested.Data.{choice_before}
use Rattle.asn1_rs.specs.declared.choices.nested.OrChoice.{OrChoice}
use Rattle.asn1_rs.specs.declared.choices.nested.OrChoice.TheVariants as part
use Rattle.asn1_rs_snmp.specs.Messages.{var_bind_laws}
use Rattle.asn1_rs_snmp.specs.declared.notices.NoticePdus.{NoticePdus}
use Rattle.asn1_rs_snmp.specs.declared.notices.NoticePdus.TheVariants as notices
use Rattle.asn1_rs_snmp.specs.declared.pdu.BulkPdu.{BulkPdu}
use Rattle.asn1_rs_snmp.specs.declared.pdu.Pdu.{Pdu}
use Rattle.asn1_rs_snmp.specs.declared.pdus.Pdus.{Pdus}
use Rattle.asn1_rs_snmp.specs.declared.pdus.Pdus.TheVariants as pdus
use Rattle.asn1_rs_snmp.specs.declared.requests.RequestPdus.{RequestPdus}
use Rattle.asn1_rs_snmp.specs.declared.requests.RequestPdus.TheVariants as requests

-- the numbers up to this one
abbrev pub is_at_most : ℕ → ℕ → Bool
is_at_most most n = is_within (pos 0) (pos most) (pos n)

-- The laws of what they hold. They go by these names. The proofs of the three functions of each open its name.

unfoldable pub pdu_laws : LawfulStructOf Pdu
pdu_laws = struct_of (λ x. (x.request_id, (x.error_status, (x.error_index, (x.variable_bindings, tt)))))
    (then_row (field_of (signed_type 4))
    (then_row (field_of (refined_type (λ x. x.value) (is_at_most 18) (unsigned_type 1)))
    (then_row (field_of (refined_type (λ x. x.value) (is_at_most 2147483647) (unsigned_type 4)))
    (then_row (field_of (list_type (λ v. v.items) (struct_type var_bind_laws))) end_row)))) refl

unfoldable pub bulk_pdu_laws : LawfulStructOf BulkPdu
bulk_pdu_laws = struct_of (λ x. (x.request_id, (x.non_repeaters, (x.max_repetitions, (x.variable_bindings, tt)))))
    (then_row (field_of (signed_type 4))
    (then_row (field_of (refined_type (λ x. x.value) (is_at_most 2147483647) (unsigned_type 4)))
    (then_row (field_of (refined_type (λ x. x.value) (is_at_most 2147483647) (unsigned_type 4)))
    (then_row (field_of (list_type (λ v. v.items) (struct_type var_bind_laws))) end_row)))) refl

-- a struct in place of whose tag a context-specific one stands
abbrev pub PduUnder : Type 0 → ℕ → Type 0
PduUnder T number = TaggedValue T Error Implicit 2 number

abbrev pub pdu_under : {T : Type 0} (number : ℕ) → LawfulStructOf T → LawfulTypeOf (PduUnder T number)
pdu_under number T = implicit_type 2 number (λ t. t.inner) (struct_type T)

-- Requests and notices. Their laws go by names too.

abbrev pub RequestArms : Type 0
RequestArms = Or (PduUnder Pdu 0) (Or (PduUnder Pdu 1) (Or (PduUnder Pdu 3) (Or (PduUnder BulkPdu 5) Never 2) 2) 2) 2

abbrev pub in_request_arms : RequestPdus → RequestArms
in_request_arms (requests.Get x) = arm.This x
in_request_arms (requests.GetNext x) = arm.Other (arm.This x)
in_request_arms (requests.Set x) = arm.Other (arm.Other (arm.This x))
in_request_arms (requests.GetBulk x) = arm.Other (arm.Other (arm.Other (arm.This x)))

unfoldable pub request_laws : LawfulChoiceOf RequestPdus
request_laws = choice_of in_request_arms (arm_before 2 (pdu_under 0 pdu_laws) (arm_before 2 (pdu_under 1 pdu_laws)
    (arm_before 2 (pdu_under 3 pdu_laws) (arm_before 2 (pdu_under 5 bulk_pdu_laws) end_of_arms)))) refl

abbrev pub NoticeArms : Type 0
NoticeArms = Or (PduUnder Pdu 2) (Or (PduUnder Pdu 6) (Or (PduUnder Pdu 7) (Or (PduUnder Pdu 8) Never 2) 2) 2) 2

abbrev pub in_notice_arms : NoticePdus → NoticeArms
in_notice_arms (notices.Response x) = arm.This x
in_notice_arms (notices.Inform x) = arm.Other (arm.This x)
in_notice_arms (notices.Trap x) = arm.Other (arm.Other (arm.This x))
in_notice_arms (notices.Report x) = arm.Other (arm.Other (arm.Other (arm.This x)))

unfoldable pub notice_laws : LawfulChoiceOf NoticePdus
notice_laws = choice_of in_notice_arms (arm_before 2 (pdu_under 2 pdu_laws) (arm_before 2 (pdu_under 6 pdu_laws)
    (arm_before 2 (pdu_under 7 pdu_laws) (arm_before 2 (pdu_under 8 pdu_laws) end_of_arms)))) refl

-- What a message holds.

abbrev pub PdusArms : Type 0
PdusArms = OrChoice RequestPdus (OrChoice NoticePdus Never)

abbrev pub in_pdus_arms : Pdus → PdusArms
in_pdus_arms (pdus.Request x) = part.This x
in_pdus_arms (pdus.Notice x) = part.Other (part.This x)

unfoldable pub pdus_laws : LawfulChoiceOf Pdus
unfolding request_laws notice_laws
pdus_laws = choice_of in_pdus_arms (choice_before request_laws (choice_before notice_laws end_of_arms)) refl
