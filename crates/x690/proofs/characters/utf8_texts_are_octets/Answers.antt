use Rattle.x690.specs.Laws.Characters.{utf8_octets, utf8_is_code}
use Rattle.x690.proofs.characters.utf8_texts_are_octets.Goals as goal

pub returns-clause-octets : goal.returns-clause-octets
returns-clause-octets c = utf8_octets

pub returns-clause-code : goal.returns-clause-code
returns-clause-code c = utf8_is_code
