use Rattle.std.proofs.Common.{false, [], ◌++◌, length}
use Rattle.asn1_headers.specs.Header.Writing.{strict_header}
use Rattle.asn1_rs.proofs.Writing.{only_may}
use Rattle.asn1_rs.proofs.header.HeaderToDer.write_der_header.Goals as goal

pub returns-clause-refused : goal.returns-clause-refused
returns-clause-refused g c = λ _. only_may c.put_strict_header.result false
    (length (strict_header c.args.self.now ++ [])) (λ _. ⊥) (c.put_strict_header.ensures.failed _ _)
