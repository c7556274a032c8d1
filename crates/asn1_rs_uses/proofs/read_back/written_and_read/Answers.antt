use Rattle.std.proofs.Common.{◌≡◌, ◌∙◌, ap, sym, subst, inr, [], ◌++◌}
use Rattle.std.proofs.lemmas.List.{append-nil}
use Rattle.asn1_headers.specs.Error.{FlattenedTo}
use Rattle.asn1_headers.specs.declared.error.SerializeError.TheVariants as serialize_errors
use Rattle.asn1_rs.specs.ToDer.{whole_octets}
use Rattle.asn1_rs_uses.proofs.read_back.written_and_read.Goals as goal

pub returns-in-Ok : goal.returns-in-Ok
returns-in-Ok g c = λ der fits.
    let octets = whole_octets g.T.ToDer.writing c.args.x.now in
    let written = c.in_ok-octets.ensures.headline der fits in
    let is : c.as_slice.result.now ≡ octets ++ [] =
    c.as_slice.ensures.value ∙ written.1 ∙ sym (append-nil octets) in
    (c.in-Ok.ensures.back (g.T.Grammar.grammar.value c.args.x.now) octets [] written.0 is).0

pub returns-in-Err : goal.returns-in-Err
returns-in-Err g c = λ der fits.
    let octets = whole_octets g.T.ToDer.writing c.args.x.now in
    let written = c.in_ok-octets.ensures.headline der fits in
    let is : c.as_slice.result.now ≡ octets ++ [] =
    c.as_slice.ensures.value ∙ written.1 ∙ sym (append-nil octets) in
    let memory = (c.in-Err.ensures.back (g.T.Grammar.grammar.value c.args.x.now) octets [] written.0 is).1 in
    let flat = subst (λ r. FlattenedTo (λ e f. f ≡ e) (λ e f. f ≡ e) r c.from.result) memory.2 c.from.ensures in
    inr (c.into.ensures ∙ ap serialize_errors.ASN1Error (flat ∙ memory.1))
