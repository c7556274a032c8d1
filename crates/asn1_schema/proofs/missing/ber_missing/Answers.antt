use Rattle.std.proofs.Common.{inl, arith}
use Rattle.x690.specs.Nested.{IsElement}
use Rattle.asn1_schema.proofs.Lacking.{ber_lacks, is_count, none_to_no_depth, whole_element}
use Rattle.asn1_schema.proofs.missing.ber_missing.Goals as goal

pub returns-then-max-eq0 : goal.returns-then-max-eq0
returns-then-max-eq0 c =
    none_to_no_depth c.args.max c.args.octets.now (omega (arith, c.if-max-eq0.true))

pub returns-in-Ok : goal.returns-in-Ok
returns-in-Ok c = inl (whole_element (IsElement c.args.max) c.args.octets.now _ _ c.in-Ok.ensures.gives.front)

pub returns : goal.returns
returns c = ber_lacks c.args.max c.args.octets.now c.in-Err.ensures.gives.0 _ c.missing_of.result c.in-Err.ensures.gives.1
    c.in-Err.ensures.gives.2 (is_count _ c.missing_of.result c.missing_of.ensures.some c.missing_of.ensures.none)
