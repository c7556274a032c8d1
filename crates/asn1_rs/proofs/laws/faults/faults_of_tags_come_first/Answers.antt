use Rattle.asn1_rs.specs.declared.asn1_types.tagged.TaggedValue.{TaggedValue}
use Rattle.asn1_rs.specs.Laws.Faults.{explicit_header_first, explicit_truncations}
use Rattle.asn1_rs.proofs.laws.faults.faults_of_tags_come_first.Goals as goal

pub returns-clause-header : goal.returns-clause-header
returns-clause-header g c = explicit_header_first g.row.CLASS g.row.TAG
    (λ (t : TaggedValue g.row.T.Denot g.row.E.Denot g.row.K.Denot g.row.CLASS g.row.TAG). t.inner)
    g.T.FromDer.der_gives _

pub returns-clause-truncated : goal.returns-clause-truncated
returns-clause-truncated g c = explicit_truncations g.row.CLASS g.row.TAG
    (λ (t : TaggedValue g.row.T.Denot g.row.E.Denot g.row.K.Denot g.row.CLASS g.row.TAG). t.inner)
    g.T.FromDer.der_gives g.E.From.from_gives
