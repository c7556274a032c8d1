use Rattle.asn1_rs.specs.Laws.Faults.{der_header_first, der_truncations}
use Rattle.asn1_rs.specs.Traits.{PassesAll}
use Rattle.asn1_rs.proofs.laws.faults.faults_come_first_by_der.Goals as goal

pub returns-clause-header : goal.returns-clause-header
returns-clause-header g c = der_header_first g.T.CheckDerConstraints.check_gives g.T.FromAny.any_gives _

pub returns-clause-truncated : goal.returns-clause-truncated
returns-clause-truncated g c = der_truncations g.T.CheckDerConstraints.check_gives g.T.FromAny.any_gives g.E.From.from_gives

pub returns-clause-unchecked : goal.returns-clause-unchecked
returns-clause-unchecked g c = der_header_first PassesAll g.T.FromAny.any_gives _

pub returns-clause-unchecked_truncated : goal.returns-clause-unchecked_truncated
returns-clause-unchecked_truncated g c = der_truncations PassesAll g.T.FromAny.any_gives g.E.From.from_gives
