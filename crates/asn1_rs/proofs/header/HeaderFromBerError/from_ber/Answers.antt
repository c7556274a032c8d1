use Rattle.x690.specs.Rules.{ber_rule}
use Rattle.asn1_rs.specs.Laws.Header.{header_refusal_lasts}
use Rattle.asn1_rs.proofs.header.HeaderFromBerError.from_ber.Goals as goal

pub returns-clause-last : goal.returns-clause-last
returns-clause-last c = header_refusal_lasts ber_rule _ c.args.bytes.now c.header_by_ber.result c.header_by_ber.ensures
