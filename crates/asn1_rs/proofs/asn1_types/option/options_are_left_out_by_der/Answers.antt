use Rattle.x690.specs.Rules.{der_rule}
use Rattle.x690.specs.Laws.StrictElements.{der_allows_strict}
use Rattle.asn1_rs.specs.Laws.Optional.{none_before_others, none_at_end}
use Rattle.asn1_rs.proofs.asn1_types.option.options_are_left_out_by_der.Goals as goal

pub returns-clause-before : goal.returns-clause-before
returns-clause-before g c = none_before_others der_rule der_allows_strict g.U.Grammar.grammar.Form _ _
    g.met.U.LawfulTagged.tag_number g.T.FromDer.der_gives

pub returns-clause-at_end : goal.returns-clause-at_end
returns-clause-at_end g c = none_at_end der_rule _ g.T.FromDer.der_gives
