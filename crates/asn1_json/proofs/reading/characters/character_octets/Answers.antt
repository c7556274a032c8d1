use Rattle.asn1_json.proofs.Coded.{numbers_found}
use Rattle.asn1_json.proofs.reading.characters.character_octets.Goals as goal

pub returns : goal.returns
returns c = numbers_found c.args.text.now c.numbers_of.result c.utf8.text c.numbers_of.ensures.octets c.numbers_of.ensures.numbers
