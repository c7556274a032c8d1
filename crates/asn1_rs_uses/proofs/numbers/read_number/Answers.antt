use Rattle.std.proofs.Common.{arith, refl}
use Rattle.asn1_headers.specs.Answers.{seen}
use Rattle.asn1_rs_uses.proofs.JoinedNumbers.{no_memory}
use Rattle.asn1_rs_uses.proofs.numbers.read_number.Goals as goal

pub returns-clause-truncated : goal.returns-clause-truncated
returns-clause-truncated c = λ more word rest n d e l.
    c.reader_is_exact_by_der.ensures.beginning c.args.octets.now (seen c.from_der.result) more word rest n
    (λ k. omega (arith, c.type_inv.octets k)) c.from_der.ensures d e l

pub returns-clause-asks_no_memory : goal.returns-clause-asks_no_memory
returns-clause-asks_no_memory c = no_memory (seen c.from_der.result)
    (c.reader_is_exact_by_der.ensures.asks_no_memory c.args.octets.now (seen c.from_der.result) refl c.from_der.ensures)
