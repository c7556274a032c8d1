use Rattle.x690.specs.Laws.Characters.{utf16_number, ucs4_number}
use Rattle.x690.proofs.characters.octets_are_numbers_of_characters.Goals as goal

pub returns-clause-utf16 : goal.returns-clause-utf16
returns-clause-utf16 c = utf16_number

pub returns-clause-ucs4 : goal.returns-clause-ucs4
returns-clause-ucs4 c = ucs4_number
