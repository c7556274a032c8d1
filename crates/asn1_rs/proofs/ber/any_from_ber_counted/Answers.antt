use Rattle.std.proofs.Common.{ℕ, List, subst, sym}
use Rattle.x690.specs.Nested.{IsElement}
use Rattle.asn1_headers.specs.declared.header.Header.{Header}
use Rattle.asn1_headers.specs.Ber.{max_depth}
use Rattle.asn1_headers.specs.Elements.{BeginsWithHeaderAndContents}
use Rattle.asn1_headers.specs.Header.Reading.{ber_violation}
use Rattle.asn1_rs.specs.Laws.Readers.{ber_elements}
use Rattle.asn1_rs.specs.Laws.Any.{refusal_lasts, element_lasts}
use Rattle.asn1_rs.proofs.ber.any_from_ber_counted.Goals as goal

pub returns-in-Ok-clause-same : goal.returns-in-Ok-clause-same
returns-in-Ok-clause-same c =
    let made = c.new.ensures in
    let read = c.in-Ok.ensures.gives in
    let begins = subst (λ (h : Header). BeginsWithHeaderAndContents
    (IsElement max_depth) c.args.bytes.now h c.new.result.content.now c.in-Ok.rest.now) (sym made.header)
    (subst (λ (o : List ℕ). BeginsWithHeaderAndContents
    (IsElement max_depth) c.args.bytes.now c.in-Ok.header o c.in-Ok.rest.now) (sym made.content) read) in
    element_lasts _ _ _ ber_elements ber_violation c.args.bytes.now (c.in-Ok.rest.now, c.new.result) begins

pub returns-in-Err-clause-last : goal.returns-in-Err-clause-last
returns-in-Err-clause-last c =
    refusal_lasts _ _ _ ber_elements ber_violation c.args.bytes.now c.in-Err.refusal c.in-Err.ensures.gives
