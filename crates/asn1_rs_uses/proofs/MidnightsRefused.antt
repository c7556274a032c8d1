-- Times that have no place in their text: what refuses them.
use Rattle.std.proofs.Common.{◌≡◌, ap, refl, subst, sym, Bool, true}
use Rattle.std.specs.Prelude.{Result, Err, IsErrAnd}
use Rattle.x690.specs.declared.times.Moment.{Moment}
use Rattle.asn1_headers.specs.declared.error.Error.TheVariants as errors
use Rattle.asn1_headers.specs.declared.error.SerializeError.{SerializeError}
use Rattle.asn1_headers.specs.declared.error.SerializeError.TheVariants as serialize_errors
use Rattle.asn1_headers.specs.Error.{vector_refusal, written_refusal}
use Rattle.asn1_rs.specs.Kinds.Writing.{OwnFirst}
use Rattle.asn1_rs.specs.Times.{IsInvalidDateTime, generalized_time_refused}
use Rattle.asn1_rs_uses.specs.Midnights.{TellsInvalidTime}

module _ (t : Moment) (refused : generalized_time_refused t ≡ true) where
  -- a writing tells it before all else
  pub first : OwnFirst (generalized_time_refused t) IsInvalidDateTime (serialize_errors.ASN1Error errors.InvalidDateTime)
  first = subst (λ (b : Bool). OwnFirst b IsInvalidDateTime (serialize_errors.ASN1Error errors.InvalidDateTime))
      (sym refused) (λ f is. sym (ap written_refusal is))

-- so does a vector
pub told : {A : Type 0} (r : Result A SerializeError) →
    r ≡ Err (vector_refusal (serialize_errors.ASN1Error errors.InvalidDateTime)) → IsErrAnd r TellsInvalidTime
told r is = rw is refl
