use Rattle.std.proofs.Common.{rules}
use Rattle.x690.specs.Nested.{IsElement, ElementFault}
use Rattle.asn1_headers.specs.Ber.{max_depth}
use Rattle.asn1_headers.specs.Header.Reading.{ber_refusal}
use Rattle.asn1_rs.specs.Laws.Any.Decoded.{converted_in_hand, converted_reads}
use Rattle.asn1_rs.proofs.asn1_types.any.Any.decode_ber.Goals as goal

pub returns-clause-gives : goal.returns-clause-gives
returns-clause-gives g c = converted_reads (IsElement max_depth) (ElementFault max_depth) ber_refusal
    g.T.FromAny.any_gives c.args.self c.try_from_any.result c.try_from_any.ensures

pub returns-clause-exact : goal.returns-clause-exact
returns-clause-exact g c = let laws = g.met.T.LawfulBody c.lifetimes (search rules) in
    converted_in_hand g.T.Grammar.grammar g.T.FromAny.any_gives laws.body_exact c.args.self c.try_from_any.result
    c.try_from_any.ensures
