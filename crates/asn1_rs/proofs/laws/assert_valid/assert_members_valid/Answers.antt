use Rattle.asn1_rs.specs.Laws.AssertValid.{members_in_der}
use Rattle.asn1_rs.specs.Laws.Set.{members_pass, pairs_differ}
use Rattle.asn1_rs.proofs.laws.assert_valid.assert_members_valid.Goals as goal

pub returns-clause-value : goal.returns-clause-value
returns-clause-value g c =
    members_pass g.S.HasMembers.test g.T.Grammar.grammar.value (g.S.Listed.items c.args.set.now) c.members_pass.ensures

pub returns-clause-differ : goal.returns-clause-differ
returns-clause-differ g c = pairs_differ g.S.HasMembers.test g.T.Grammar.grammar.value g.met.S.LawfulMembers.apart
    (g.S.Listed.items c.args.set.now) c.members_pass.ensures

pub returns-clause-der : goal.returns-clause-der
returns-clause-der g c = members_in_der g.S.HasMembers.test g.T.Grammar.grammar.value g.met.S.LawfulMembers.apart
    g.T.Grammar.grammar.IsDer (g.S.Listed.items c.args.set.now) c.members_pass.ensures
