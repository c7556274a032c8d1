use Rattle.asn1_json.proofs.Coded.{if_text}
use Rattle.asn1_json.proofs.reading.characters.text_octets.Goals as goal

pub returns-in_default : goal.returns-in_default
returns-in_default c = if_text c.args.kind c.args.text.now c.character_octets.result c.in_default.not-Utf8 c.in_default.not-Bmp c.in_default.not-Universal
    c.character_octets.ensures
