use Rattle.std.proofs.Common.{◌≡◌, false, Some, ap}
use Rattle.std.proofs.lemmas.Fmt.{hex_byte}
use Rattle.std.specs.Fmt.{styled_digits_output}
use Rattle.asn1_rs.specs.Oid.Text.{hex_octet}
use Rattle.asn1_rs.proofs.asn1_types.oid.text.write_octet.Goals as goal

pub returns : goal.returns
returns g c =
    let octet = c.args.octet in
    let e : styled_digits_output c.in_radix.result c.laid_out.result ≡ Some (hex_octet octet) =
    rw (c.in_radix.ensures, c.laid_out.ensures) (ap Some (hex_byte false octet c.ranges.octet.fits)) in
    rw e at c.write.ensures.writes
