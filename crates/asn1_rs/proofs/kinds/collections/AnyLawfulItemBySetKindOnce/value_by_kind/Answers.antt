use Rattle.asn1_rs.specs.Laws.AssertValid.{members_values}
use Rattle.asn1_rs.proofs.kinds.collections.AnyLawfulItemBySetKindOnce.value_by_kind.Goals as goal

pub returns : goal.returns
returns g c = members_values g.L.HasMembers.test g.T.Grammar.grammar.value g.T.Grammar.grammar.IsValue
    (g.L.Listed.items c.args.self.now) c.members_pass.ensures c.state_each.ensures
