use Rattle.std.proofs.Common.{false, [], ◌++◌, length}
use Rattle.asn1_headers.specs.Header.Writing.{strict_header}
use Rattle.asn1_rs.specs.ToDer.{Either}
use Rattle.asn1_rs.proofs.Writing.{only_may}
use Rattle.asn1_rs.proofs.header.HeaderToDer.write_der_raw.Goals as goal

pub returns-in-None-clause-refused : goal.returns-in-None-clause-refused
returns-in-None-clause-refused g c =
    λ none. only_may c.put_strict_header.result false (length (strict_header c.args.self.now ++ []))
    (Either (λ _. ⊥) (λ _. ⊥)) (c.put_strict_header.ensures.failed false _)
