use Rattle.asn1_headers.specs.Answers.{seen}
use Rattle.asn1_rs.specs.Laws.Structs.Readers.{struct_answers_by_der}
use Rattle.asn1_rs.proofs.structs.reading.AnyReadsTypeByFieldsKindDerParser.read_by_kind.Goals as goal

pub returns-clause-exact : goal.returns-clause-exact
returns-clause-exact g c = struct_answers_by_der g.T.LawfulStruct.laws g.T.ReadsFields.fields_give c.args.octets.now
    (seen c.read_by_der.result) c.read_by_der.ensures
