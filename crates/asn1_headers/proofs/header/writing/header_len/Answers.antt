use Rattle.std.proofs.Common.{arith}
use Rattle.x690.specs.Laws.StrictHeaders.{header_octets_count}
use Rattle.asn1_headers.proofs.header.writing.header_len.Goals as goal

pub returns : goal.returns
returns c = λ class constructed. omega (
  arith,
  header_octets_count class constructed c.args.number c.args.len,
  c.identifier_octets_count.ensures.count class constructed,
  c.length_octets_count.ensures.count,
)
