use Rattle.asn1_headers.specs.Answers.{seen}
use Rattle.asn1_rs.specs.Laws.Structs.Readers.{struct_answers_by_ber}
use Rattle.asn1_rs.proofs.structs.reading.AnyReadsTypeByFieldsKindBerParser.read_by_kind.Goals as goal

pub returns-clause-exact : goal.returns-clause-exact
returns-clause-exact g c = struct_answers_by_ber g.T.LawfulStruct.laws g.T.ReadsFieldsByBer.fields_give_by_ber c.args.octets.now
    (seen c.from_ber.result) c.from_ber.ensures
