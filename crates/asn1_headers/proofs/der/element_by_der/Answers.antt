use Rattle.std.proofs.Common.{arith, refl, sym}
use Rattle.std.proofs.lemmas.Result.{err_from_is_err_and}
use Rattle.x690.specs.Rules.{der_rule}
use Rattle.asn1_headers.specs.Elements.{element_parts}
use Rattle.asn1_headers.proofs.HeadersAndContents.{der_content_read, der_content_refused, identifier_kept}
use Rattle.asn1_headers.proofs.der.element_by_der.Goals as goal

pub returns-in_err-rest-2 : goal.returns-in_err-rest-2
returns-in_err-rest-2 c =
    let p = err_from_is_err_and c.from_residual-in_err-rest-2.result c.from_residual-in_err-rest-2.ensures.1 in
    rw (p.1, p.2) (der_content_refused c.args.bytes.now c.in_ok-rest.rest.now c.in_ok-rest.header c.length.result
    c.in_err-rest-2.field-0.0 c.in_ok-rest.ensures (sym c.length.ensures) c.in_err-rest-2.ensures)

pub returns : goal.returns
returns c =
    let h = c.in_ok-rest.header in
    record {
      front = der_content_read c.args.bytes.now c.in_ok-rest.rest.now (
        c.in_ok-rest-2.rest,
        c.in_ok-rest-2.content,
      ) h c.length.result (λ k. omega (arith, c.type_inv.bytes k)) c.in_ok-rest.ensures
          (sym c.length.ensures) c.in_ok-rest-2.ensures (element_parts h c.in_ok-rest-2.content.now) refl refl refl;
      kept = identifier_kept der_rule c.args.bytes.now c.in_ok-rest.rest.now h h c.in_ok-rest.ensures refl;
    }
