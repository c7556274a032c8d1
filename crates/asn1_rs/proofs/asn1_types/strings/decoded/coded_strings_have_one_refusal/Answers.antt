use Rattle.asn1_rs.specs.Laws.Leaf.{leaf_one_refusal}
use Rattle.asn1_rs.specs.Laws.CodedStrings.{coded_string_lawful}
use Rattle.asn1_rs.proofs.asn1_types.strings.decoded.coded_strings_have_one_refusal.Goals as goal

pub returns : goal.returns
returns g c =
    leaf_one_refusal _ (coded_string_lawful _ _ g.met.K.StringKind.small g.met.K.StringKind.primitive
    (assumption (g.met.K.Characters.CharacterCode, g.K.Characters.CharacterCode, g.K.Characters.laws)))
