use Rattle.std.proofs.Common.{refl}
use Rattle.asn1_headers.specs.Answers.{seen}
use Rattle.asn1_rs_uses.proofs.JoinedNumbers.{no_memory}
use Rattle.asn1_rs_uses.proofs.numbers.read_number_by_ber.Goals as goal

pub returns-clause-asks_no_memory : goal.returns-clause-asks_no_memory
returns-clause-asks_no_memory c = no_memory (seen c.from_ber.result)
    (c.reader_is_exact_by_ber.ensures.asks_no_memory c.args.octets.now (seen c.from_ber.result) refl c.from_ber.ensures)
