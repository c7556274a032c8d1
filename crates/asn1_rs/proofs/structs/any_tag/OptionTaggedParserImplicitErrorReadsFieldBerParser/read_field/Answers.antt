use Rattle.std.proofs.Common.{rules}
use Rattle.asn1_headers.specs.Answers.{seen}
use Rattle.asn1_rs.specs.Laws.Structs.AnyTag.{implicit_by_ber}
use Rattle.asn1_rs.proofs.structs.any_tag.OptionTaggedParserImplicitErrorReadsFieldBerParser.read_field.Goals as goal

pub returns-clause-exact : goal.returns-clause-exact
returns-clause-exact g c = let laws = g.met.T.LawfulBody c.lifetimes (search rules) in
    (implicit_by_ber g.T.Grammar.grammar g.met.T.LawfulItem.lawful_item g.T.Tagged.TAG
    g.met.T.LawfulTagged.number_fits g.met.T.LawfulTagged.tag_number g.met.T.TakesEachClass.takes_each
    g.T.FromAny.any_gives laws.body_exact laws.body_no_memory).or_none
    c.args.octets.now (seen c.or_none_by_ber.result) c.or_none_by_ber.ensures
