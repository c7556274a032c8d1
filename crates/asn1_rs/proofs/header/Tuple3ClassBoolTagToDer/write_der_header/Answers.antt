use Rattle.std.proofs.Common.{false, [], ◌++◌, length}
use Rattle.x690.specs.Strict.{identifier_octets}
use Rattle.asn1_headers.specs.Header.Writing.{parts_identifier}
use Rattle.asn1_rs.proofs.Writing.{only_may}
use Rattle.asn1_rs.proofs.header.Tuple3ClassBoolTagToDer.write_der_header.Goals as goal

pub returns-clause-refused : goal.returns-clause-refused
returns-clause-refused g c = λ _. only_may c.put_identifier.result false
    (length (identifier_octets (parts_identifier c.args.self.now) ++ [])) (λ _. ⊥) (c.put_identifier.ensures.failed _ _)
