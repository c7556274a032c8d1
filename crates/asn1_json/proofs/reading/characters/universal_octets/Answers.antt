use Rattle.asn1_json.proofs.Coded.{universal_text, universal_only}
use Rattle.asn1_json.proofs.reading.characters.universal_octets.Goals as goal

pub returns : goal.returns
returns c =
    let o = c.in_ok-octets.octets.items in
    (universal_text c.args.text.now o c.utf8.text c.in_ok-octets.ensures, universal_only c.args.text.now o c.utf8.text c.in_ok-octets.ensures)
