use Rattle.std.proofs.Common.{false, refl, ◌++◌, length}
use Rattle.asn1_headers.specs.Class.{class_number}
use Rattle.asn1_rs.specs.Any.Writing.{content_of, element_header}
use Rattle.asn1_rs.proofs.Writing.{only_may_count}
use Rattle.asn1_rs.proofs.asn1_types.any.writing.AnyToDer.to_der_len.Goals as goal

pub returns-clause-refused : goal.returns-clause-refused
returns-clause-refused c =
    let any = c.args.self.now in
    only_may_count c.element_len.result false (length (element_header any ++ content_of any)) (λ _. ⊥)
    (rw (← c.tag.ensures) (c.element_len.ensures.why false (class_number any.header.class) any.header.constructed
    (content_of any) refl tt))
