use Rattle.asn1_rs.specs.Laws.Faults.{ber_header_first, ber_truncations}
use Rattle.asn1_rs.proofs.laws.faults.faults_come_first_by_ber.Goals as goal

pub returns-clause-header : goal.returns-clause-header
returns-clause-header g c = ber_header_first g.T.FromAny.any_gives _

pub returns-clause-truncated : goal.returns-clause-truncated
returns-clause-truncated g c = ber_truncations g.T.FromAny.any_gives g.E.From.from_gives
