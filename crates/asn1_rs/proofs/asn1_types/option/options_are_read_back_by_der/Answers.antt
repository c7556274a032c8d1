use Rattle.std.proofs.Common.{rules}
use Rattle.x690.specs.Identifiers.{IsTruncatedIdentifier}
use Rattle.x690.specs.Rules.{der_rule}
use Rattle.x690.specs.Laws.StrictElements.{der_allows_strict}
use Rattle.asn1_rs.specs.Laws.Optional.{some_is_read_back}
use Rattle.asn1_rs.proofs.asn1_types.option.options_are_read_back_by_der.Goals as goal

pub returns : goal.returns
returns g c =
    some_is_read_back der_rule der_allows_strict IsTruncatedIdentifier g.T.Grammar.grammar.Form g.T.Grammar.grammar.Der
    g.T.Grammar.grammar.value _ _ g.met.T.LawfulItem.lawful_item.one_equality
    g.met.T.LawfulItem.lawful_item.strict_der g.met.T.LawfulItem.lawful_item.der_one
    g.met.T.LawfulTagged.tag_number g.T.FromDer.der_gives
    (g.met.T.LawfulDer c.lifetimes (search rules)).der_exact
