use Rattle.asn1_json.proofs.Coded.{bmp_text, bmp_only}
use Rattle.asn1_json.proofs.reading.characters.bmp_octets.Goals as goal

pub returns : goal.returns
returns c =
    let o = c.in_ok-octets.octets.items in
    (bmp_text c.args.text.now o c.utf8.text c.in_ok-octets.ensures, bmp_only c.args.text.now o c.utf8.text c.in_ok-octets.ensures)
