use Rattle.x690.specs.Rules.{der_rule}
use Rattle.asn1_rs.specs.Laws.Header.{header_refusal_lasts}
use Rattle.asn1_rs.proofs.header.HeaderFromDerError.from_der.Goals as goal

pub returns-clause-last : goal.returns-clause-last
returns-clause-last c = header_refusal_lasts der_rule _ c.args.bytes.now c.header_by_der.result c.header_by_der.ensures
