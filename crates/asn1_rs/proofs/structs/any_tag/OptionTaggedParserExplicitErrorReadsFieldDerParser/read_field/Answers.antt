use Rattle.std.proofs.Common.{rules}
use Rattle.asn1_headers.specs.Answers.{seen}
use Rattle.asn1_rs.specs.Laws.Structs.AnyTag.{explicit_by_der}
use Rattle.asn1_rs.proofs.structs.any_tag.OptionTaggedParserExplicitErrorReadsFieldDerParser.read_field.Goals as goal

pub returns-clause-exact : goal.returns-clause-exact
returns-clause-exact g c = let laws = g.met.T.LawfulDer c.lifetimes (search rules) in
    (explicit_by_der g.T.Grammar.grammar g.met.T.LawfulItem.lawful_item g.T.FromDer.der_gives laws.der_exact
    laws.der_no_memory).or_none c.args.octets.now (seen c.or_none_by_der.result) c.or_none_by_der.ensures
