use Rattle.std.proofs.Common.{refl, ap, inl, inr}
use Rattle.std.proofs.lemmas.Result.{err_from_is_err_and}
use Rattle.x690.specs.Lengths.{indefinite}
use Rattle.x690.specs.Rules.{ber_rule}
use Rattle.asn1_headers.specs.Length.{form_of}
use Rattle.asn1_headers.specs.Header.Reading.{id_read, ber_violation}
use Rattle.asn1_headers.proofs.Reading.{begins_made, fault_behind, form_refused, ber_form_allowed}
use Rattle.asn1_headers.proofs.header.reading.header_by_ber.Goals as goal
use Rattle.asn1_headers.proofs.header.reading.header_by_ber.Goals.{in_default-via-in-Indefinite+else-not-identifier}
use Rattle.asn1_headers.proofs.header.reading.header_by_ber.Goals.{in_default-via-in_default}

pub returns-in_err-after : goal.returns-in_err-after
returns-in_err-after c =
    let p = err_from_is_err_and c.from_residual.result c.from_residual.ensures.1 in
    let f = c.in_err-after.ensures.err ber_violation in
    rw (p.1, p.2) (f.0, inl f.1, f.2)

pub returns-in_err-rest : goal.returns-in_err-rest
returns-in_err-rest c =
    let p = err_from_is_err_and c.from_residual-in_err-rest.result c.from_residual-in_err-rest.ensures.1 in
    let f = c.in_err-rest.ensures.err ber_violation in
    rw (p.1, p.2) (
      f.0,
      fault_behind ber_rule c.args.bytes.now c.in_ok-after.after.now c.in_ok-after.identifier c.in_ok-after.ensures.ok
          f.0 (inr (refl, inl f.1)),
      f.2,
    )

pub returns-in-Indefinite : goal.returns-in-Indefinite
returns-in-Indefinite c =
    form_refused ber_rule c.args.bytes.now c.in_ok-after.after.now c.in_ok-after.identifier c.in_ok-after.ensures.ok
    ber_violation c.in_ok-rest.rest.now c.in_ok-rest.form indefinite c.in_ok-rest.ensures.ok.0
    (ap form_of c.in-Indefinite.is) refl c.if-not-identifier.true

pub returns-in_default : goal.returns-in_default
returns-in_default c =
    let x = c.in_ok-after.identifier in
    let allowed =
    ber_form_allowed (id_read x) c.in_ok-rest.form (λ e. elim c.in_default.branch [
      | in_default-via-in-Indefinite+else-not-identifier w ↦ w.if-not-identifier.false
      | in_default-via-in_default w ↦ absurd (w.in_default.not-Indefinite e)
    ]) in
    begins_made ber_rule c.args.bytes.now c.in_ok-after.after.now x c.in_ok-after.ensures.ok c.in_ok-rest.rest.now
    c.in_ok-rest.form c.with_length.result c.in_ok-rest.ensures.ok.0 c.with_length.ensures.parts
    c.with_length.ensures.lent refl (allowed c.in_ok-rest.ensures.ok.0.0)
