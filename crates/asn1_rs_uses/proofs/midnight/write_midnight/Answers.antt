use Rattle.std.proofs.Common.{◌≡◌, ◌∙◌, ap, true}
use Rattle.asn1_headers.specs.declared.error.Error.TheVariants as errors
use Rattle.asn1_headers.specs.declared.error.SerializeError.TheVariants as serialize_errors
use Rattle.asn1_rs.specs.Times.{generalized_time_refused, moment_of}
use Rattle.asn1_rs_uses.proofs.MidnightsRefused.{first, told}
use Rattle.asn1_rs_uses.proofs.midnight.write_midnight.Goals as goal

pub returns-clause-refused : goal.returns-clause-refused
returns-clause-refused c = λ is.
    let t = moment_of c.first_second.result.0 in
    let refused : generalized_time_refused t ≡ true = ap generalized_time_refused c.first_second.ensures ∙ is in
    told c.to_der_vec.result
    (c.to_der_vec.ensures.first (serialize_errors.ASN1Error errors.InvalidDateTime) (first t refused))
