use Rattle.std.proofs.Common.{arith}
use Rattle.asn1_rs_uses.specs.Refusals.{NamesNoClass}
use Rattle.asn1_rs_uses.proofs.Unwritten.{header_of_one, few_refused, two_octets}
use Rattle.asn1_rs_uses.proofs.refusals.InClassToDer.write_der_header.Goals as goal

pub returns-in-Ok-clause-wrote : goal.returns-in-Ok-clause-wrote
returns-in-Ok-clause-wrote g c =
    λ _. rw (header_of_one c.new.result c.in-Ok.class c.args.self.now.class c.in-Ok.ensures c.new.ensures) at
    (c.write_der_header.ensures.wrote tt)

pub returns-in-Ok-clause-refused : goal.returns-in-Ok-clause-refused
returns-in-Ok-clause-refused g c = λ _. few_refused _ _ (NamesNoClass c.args.self.now.class) c.write_der_header.result
    (rw (two_octets c.new.result c.in-Ok.class c.args.self.now.class c.in-Ok.ensures c.new.ensures) (omega arith))
    (c.write_der_header.ensures.refused tt)
