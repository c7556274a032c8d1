use Rattle.std.proofs.Common.{inl}
use Rattle.x690.specs.Elements.{IsDerElement}
use Rattle.asn1_schema.proofs.Lacking.{der_lacks, is_count, whole_element}
use Rattle.asn1_schema.proofs.missing.der_missing.Goals as goal

pub returns-in-Ok : goal.returns-in-Ok
returns-in-Ok c = inl (whole_element IsDerElement c.args.octets.now _ _ c.in-Ok.ensures.front)

pub returns : goal.returns
returns c = der_lacks c.args.octets.now c.in-Err.ensures.0 _ c.missing_of.result c.in-Err.ensures.1 c.in-Err.ensures.2
    (is_count _ c.missing_of.result c.missing_of.ensures.some c.missing_of.ensures.none)
