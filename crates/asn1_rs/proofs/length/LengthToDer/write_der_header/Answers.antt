use Rattle.std.proofs.Common.{false, [], ◌++◌, length}
use Rattle.x690.specs.Strict.{length_form_octets}
use Rattle.asn1_headers.specs.Length.{form_of}
use Rattle.asn1_rs.proofs.Writing.{only_may}
use Rattle.asn1_rs.proofs.length.LengthToDer.write_der_header.Goals as goal

pub returns-clause-refused : goal.returns-clause-refused
returns-clause-refused g c = λ _. only_may c.put_length.result false
    (length (length_form_octets (form_of c.args.self.now) ++ [])) (λ _. ⊥) (c.put_length.ensures.failed _ _)
