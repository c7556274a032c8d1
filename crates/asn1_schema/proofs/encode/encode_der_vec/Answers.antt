use Rattle.asn1_schema.specs.declared.encode.EncodeError.TheVariants as errors
use Rattle.asn1_schema.proofs.SameErrors.{same_error}
use Rattle.asn1_schema.proofs.encode.encode_der_vec.Goals as goal

pub returns-clause-refused : goal.returns-clause-refused
returns-clause-refused c is =
    c.in-Err.ensures.refused (same_error (Unit {0}) c.in-Err.error errors.Refused is)
