use Rattle.std.proofs.Common.{rules}
use Rattle.x690.specs.Rules.{ber_rule}
use Rattle.x690.specs.Laws.StrictElements.{ber_allows_strict}
use Rattle.asn1_headers.specs.Ber.{EndsWithin}
use Rattle.asn1_rs.specs.Laws.Optional.{some_is_read_back}
use Rattle.asn1_rs.proofs.asn1_types.option.options_are_read_back_by_ber.Goals as goal
use Rattle.asn1_rs.specs.Laws.Words.{ber_one, strict_ber}
use Rattle.asn1_rs.specs.Grammar.Item.{ber_words}

pub returns : goal.returns
returns g c =
    some_is_read_back ber_rule ber_allows_strict EndsWithin g.T.Grammar.grammar.Form (ber_words g.T.Grammar.grammar)
    g.T.Grammar.grammar.value _ _ g.met.T.LawfulItem.lawful_item.one_equality
    (strict_ber g.T.Grammar.grammar g.met.T.LawfulItem.lawful_item)
    (ber_one g.T.Grammar.grammar g.met.T.LawfulItem.lawful_item) g.met.T.LawfulTagged.tag_number
    g.T.FromBer.ber_gives
    (g.met.T.LawfulBer c.lifetimes (search rules)).ber_exact
