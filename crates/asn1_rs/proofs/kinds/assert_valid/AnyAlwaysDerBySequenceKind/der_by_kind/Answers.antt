use Rattle.std.proofs.lemmas.List.Elements.{All-map}
use Rattle.asn1_rs.proofs.kinds.assert_valid.AnyAlwaysDerBySequenceKind.der_by_kind.Goals as goal

pub returns : goal.returns
returns g c =
    All-map g.T.Grammar.grammar.IsDer g.T.Grammar.grammar.value (g.L.Listed.items c.args.self.now) c.state_each.ensures
