use Rattle.std.proofs.Common.{inl, inr}
use Rattle.std.proofs.lemmas.Result.{err_from_is_err_and}
use Rattle.asn1_rs.specs.EmbeddedPdv.{identification_of}
use Rattle.asn1_rs.proofs.asn1_types.any.Any.as_embedded_pdv.Goals as goal

pub returns-in_err-rest : goal.returns-in_err-rest
returns-in_err-rest c =
    let p = err_from_is_err_and c.from_residual.result c.from_residual.ensures.1 in
    rw (p.1, p.2) (inl c.in_err-rest.ensures)

pub returns-in_err-data_value : goal.returns-in_err-data_value
returns-in_err-data_value c =
    let p = err_from_is_err_and c.from_residual-in_err-data_value.result c.from_residual-in_err-data_value.ensures.1 in
    rw (p.1, p.2) (inr (
      identification_of c.in_ok-rest.identification,
      c.in_ok-rest.rest.now,
      c.in_ok-rest.ensures.0,
      c.in_err-data_value.ensures,
    ))
