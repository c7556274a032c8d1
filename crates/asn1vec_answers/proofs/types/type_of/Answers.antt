use Rattle.asn1vec_answers.proofs.NamedTypes.{named}
use Rattle.asn1vec_answers.proofs.types.type_of.Goals as goal

pub returns : goal.returns
returns c = named _ _ c.type_among.ensures
