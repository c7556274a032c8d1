use Rattle.std.proofs.Common.{map, refl}
use Rattle.std.proofs.lemmas.List.Elements.{All-map}
use Rattle.asn1_rs.specs.Set.{items_of}
use Rattle.asn1_rs.proofs.asn1_types.set.set_of.SetOfLawfulItemBySetKindRepeats.value_by_kind.Goals as goal

pub returns : goal.returns
returns g c =
    let items = items_of c.args.self.now in (
      map g.T.Grammar.grammar.value items,
      refl,
      All-map g.T.Grammar.grammar.IsValue g.T.Grammar.grammar.value items c.state_each.ensures,
    )
