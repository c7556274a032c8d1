use Rattle.std.proofs.Common.{rules}
use Rattle.x690.specs.Identifiers.{IsTruncatedIdentifier}
use Rattle.x690.specs.Rules.{der_rule}
use Rattle.asn1_headers.specs.Header.Reading.{der_violation}
use Rattle.asn1_rs.specs.Laws.Optional.{some_is_refused, refused_stays_in}
use Rattle.asn1_rs.proofs.asn1_types.option.options_are_refused_by_der.Goals as goal

pub returns-clause-last : goal.returns-clause-last
returns-clause-last g c = some_is_refused _ IsTruncatedIdentifier g.T.Grammar.grammar.Der g.T.Grammar.grammar.value _
    g.T.FromDer.der_gives (g.met.T.LawfulDer c.lifetimes (search rules)).der_exact

pub returns-clause-stays : goal.returns-clause-stays
returns-clause-stays g c = refused_stays_in der_rule der_violation _ _ g.T.FromDer.der_gives
