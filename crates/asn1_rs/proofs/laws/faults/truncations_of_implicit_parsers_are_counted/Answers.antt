use Rattle.asn1_rs.specs.Laws.Faults.{ber_implicit_parser_truncations, der_implicit_parser_truncations}
use Rattle.asn1_rs.specs.Tagged.Parser.{ChecksAndConverts}
use Rattle.asn1_rs.proofs.laws.faults.truncations_of_implicit_parsers_are_counted.Goals as goal

pub returns-clause-ber : goal.returns-clause-ber
returns-clause-ber g c = ber_implicit_parser_truncations g.row.K.Denot g.T.Tagged.TAG g.T.FromAny.any_gives
    g.E.From.from_gives

pub returns-clause-der : goal.returns-clause-der
returns-clause-der g c = der_implicit_parser_truncations g.row.K.Denot g.T.Tagged.TAG
    (ChecksAndConverts g.T.CheckDerConstraints.check_gives g.T.FromAny.any_gives g.E.From.from_gives)
    g.E.From.from_gives
