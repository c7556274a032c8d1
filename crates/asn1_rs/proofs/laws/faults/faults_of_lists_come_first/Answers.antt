use Rattle.asn1_rs.specs.Laws.Faults.{der_header_first, der_truncations}
use Rattle.asn1_rs.specs.Lists.{ListConverts}
use Rattle.asn1_rs.specs.Traits.{OfParts, PassesAll}
use Rattle.asn1_rs.proofs.laws.faults.faults_of_lists_come_first.Goals as goal

pub returns-clause-header : goal.returns-clause-header
returns-clause-header g c = der_header_first PassesAll (OfParts (ListConverts
    (g.F.EncodingForm.form_gives g.L.Tagged.TAG.0) g.L.FromItems.holds g.T.FromDer.der_gives g.E.From.from_gives)) _

pub returns-clause-truncated : goal.returns-clause-truncated
returns-clause-truncated g c = der_truncations PassesAll (OfParts (ListConverts (g.F.EncodingForm.form_gives g.L.Tagged.TAG.0)
    g.L.FromItems.holds g.T.FromDer.der_gives g.E.From.from_gives)) g.E.From.from_gives
