use Rattle.std.proofs.Common.{rules}
use Rattle.x690.specs.Rules.{ber_rule}
use Rattle.asn1_headers.specs.Ber.{EndsWithin}
use Rattle.asn1_headers.specs.Header.Reading.{ber_violation}
use Rattle.asn1_rs.specs.Grammar.Item.{ber_words}
use Rattle.asn1_rs.specs.Laws.Optional.{some_is_refused, refused_stays_in}
use Rattle.asn1_rs.proofs.asn1_types.option.options_are_refused_by_ber.Goals as goal

pub returns-clause-last : goal.returns-clause-last
returns-clause-last g c = some_is_refused _ EndsWithin (ber_words g.T.Grammar.grammar) g.T.Grammar.grammar.value _
    g.T.FromBer.ber_gives (g.met.T.LawfulBer c.lifetimes (search rules)).ber_exact

pub returns-clause-stays : goal.returns-clause-stays
returns-clause-stays g c = refused_stays_in ber_rule ber_violation _ _ g.T.FromBer.ber_gives
