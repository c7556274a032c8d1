use Rattle.std.proofs.Common.{sym}
use Rattle.asn1_rs_uses.proofs.Unwritten.{three_octets}
use Rattle.asn1_rs_uses.proofs.refusals.InClassToDer.to_der_len.Goals as goal

pub returns-clause-count : goal.returns-clause-count
returns-clause-count c = λ _. sym (three_octets c.args.self.now.class c.args.self.now.octet)
