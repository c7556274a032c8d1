use Rattle.asn1_rs.specs.Laws.Any.Writing.{written_again}
use Rattle.asn1_rs.proofs.laws.elements_by_der_are_written_again.Goals as goal

pub returns : goal.returns
returns c = written_again
