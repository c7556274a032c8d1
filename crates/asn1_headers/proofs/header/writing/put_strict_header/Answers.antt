use Rattle.std.proofs.Common.{subst}
use Rattle.asn1_headers.specs.Writer.{Wrote}
use Rattle.asn1_headers.proofs.StrictHeaders.{strict_header_is}
use Rattle.asn1_headers.proofs.header.writing.put_strict_header.Goals as goal

pub returns-in-Definite-clause-wrote : goal.returns-in-Definite-clause-wrote
returns-in-Definite-clause-wrote g c =
    let same = strict_header_is c.args.header.now c.class-class.result c.number.result c.constructed-constructed.result
    c.tag-tag.result c.length.result c.in-Definite.len c.class-class.ensures c.number.ensures
    c.constructed-constructed.ensures c.tag-tag.ensures c.length.ensures c.in-Definite.is in
    subst (λ octets. Wrote octets (g.W.DerWrite.state c.args.w.now)
    (g.W.DerWrite.state c.put_header.new.w) c.put_header.result) same c.put_header.ensures.wrote
