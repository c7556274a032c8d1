use Rattle.std.proofs.Common.{false, length}
use Rattle.asn1_rs.specs.Any.Writing.{content_of}
use Rattle.asn1_rs.proofs.Writing.{only_put}
use Rattle.asn1_rs.proofs.asn1_types.any.writing.AnyToDer.write_der_content.Goals as goal

pub returns-clause-refused : goal.returns-clause-refused
returns-clause-refused g c =
    λ _. only_put c.put_all.result false (length (content_of c.args.self.now)) (λ _. ⊥) c.put_all.ensures.failed
