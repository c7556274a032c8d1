use Rattle.std.proofs.Common.{◌∙◌, ◌+◌, subst, refl, [], length, IfErr, true}
use Rattle.std.proofs.lemmas.List.{append-nil}
use Rattle.asn1_headers.specs.Prepended.{Prepended, answer_of}
use Rattle.asn1_headers.specs.Writer.{MayRefuse}
use Rattle.asn1_headers.proofs.StrictHeaders.{strict_header_is}
use Rattle.asn1_headers.proofs.buffer.prepend_strict_header.Goals as goal

pub returns-in-Definite-clause-prepended : goal.returns-in-Definite-clause-prepended
returns-in-Definite-clause-prepended c =
    let same = strict_header_is c.args.header.now c.class-class.result c.number.result c.constructed-constructed.result
    c.tag-tag.result c.length.result c.in-Definite.len c.class-class.ensures c.number.ensures
    c.constructed-constructed.ensures c.tag-tag.ensures c.length.ensures c.in-Definite.is in
    rw c.answered.ensures
    (subst (λ octets. Prepended octets c.args.buf.now c.put_header.new.buf (answer_of c.put_header.result))
    (append-nil _ ∙ same) (c.put_header.ensures.prepended [] c.args.buf.now refl refl))

pub returns-in-Definite-clause-refused : goal.returns-in-Definite-clause-refused
returns-in-Definite-clause-refused c =
    let same = strict_header_is c.args.header.now c.class-class.result c.number.result c.constructed-constructed.result
    c.tag-tag.result c.length.result c.in-Definite.len c.class-class.ensures c.number.ensures
    c.constructed-constructed.ensures c.tag-tag.ensures c.length.ensures c.in-Definite.is in
    rw c.answered.ensures
    (subst (λ octets. IfErr (answer_of c.put_header.result) (MayRefuse true (length octets + length c.args.buf.now)))
    (append-nil _ ∙ same) (c.put_header.ensures.refused [] c.args.buf.now refl refl))
