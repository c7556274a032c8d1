use Rattle.x690.specs.Laws.Characters.{text_code}
use Rattle.x690.proofs.characters.texts_are_told_apart.Goals as goal

pub returns : goal.returns
returns g c = text_code g.C.CharacterCode.octets_of g.C.CharacterCode.is
