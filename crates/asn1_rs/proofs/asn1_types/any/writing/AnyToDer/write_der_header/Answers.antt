use Rattle.std.proofs.Common.{false, ◌++◌, length}
use Rattle.asn1_rs.specs.Any.Writing.{content_of, element_header}
use Rattle.asn1_rs.proofs.Writing.{only_may}
use Rattle.asn1_rs.proofs.asn1_types.any.writing.AnyToDer.write_der_header.Goals as goal

pub returns-clause-refused : goal.returns-clause-refused
returns-clause-refused g c = λ _. only_may c.put_header.result false
    (length (element_header c.args.self.now ++ content_of c.args.self.now)) (λ _. ⊥) (c.put_header.ensures.failed _ _)
