use Rattle.asn1_rs.specs.Laws.Leaf.{leaf_one_refusal}
use Rattle.asn1_rs.specs.Laws.Strings.{string_lawful}
use Rattle.asn1_rs.proofs.asn1_types.strings.in_place.strings_have_one_refusal.Goals as goal

pub returns : goal.returns
returns g c = leaf_one_refusal _
    (string_lawful _ _ g.met.K.StringKind.small g.met.K.StringKind.primitive g.met.K.Characters.Repertoire.utf8)
