use Rattle.asn1_rs.specs.Laws.Faults.{ber_explicit_parser_truncations, der_explicit_parser_truncations}
use Rattle.asn1_rs.proofs.laws.faults.truncations_of_explicit_parsers_are_counted.Goals as goal

pub returns-clause-ber : goal.returns-clause-ber
returns-clause-ber g c = ber_explicit_parser_truncations g.row.K.Denot g.T.FromBer.ber_gives g.E.From.from_gives

pub returns-clause-der : goal.returns-clause-der
returns-clause-der g c = der_explicit_parser_truncations g.row.K.Denot g.T.FromDer.der_gives g.E.From.from_gives
