use Rattle.x690.specs.Rules.{ber_rule}
use Rattle.x690.specs.Laws.StrictElements.{ber_allows_strict}
use Rattle.asn1_rs.specs.Laws.Optional.{none_before_others, none_at_end}
use Rattle.asn1_rs.proofs.asn1_types.option.options_are_left_out_by_ber.Goals as goal

pub returns-clause-before : goal.returns-clause-before
returns-clause-before g c = none_before_others ber_rule ber_allows_strict g.U.Grammar.grammar.Form _ _
    g.met.U.LawfulTagged.tag_number g.T.FromBer.ber_gives

pub returns-clause-at_end : goal.returns-clause-at_end
returns-clause-at_end g c = none_at_end ber_rule _ g.T.FromBer.ber_gives
