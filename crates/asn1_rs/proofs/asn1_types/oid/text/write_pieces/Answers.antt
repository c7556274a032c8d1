use Rattle.std.proofs.Common.{ap, sym, ◌∙◌}
use Rattle.std.proofs.Output.{has_written_of_eq}
use Rattle.x690.specs.Arcs.{arcs_text}
use Rattle.asn1_rs.specs.Oid.{is_relative, oid_octets}
use Rattle.asn1_rs.specs.Oid.Text.{hex_text}
use Rattle.asn1_rs.specs.Laws.Oid.Text.{text_of_arcs, text_of_octets}
use Rattle.asn1_rs.proofs.asn1_types.oid.text.write_pieces.Goals as goal

pub returns-in-Some : goal.returns-in-Some
returns-in-Some g c = λ plain ok.
    let x = c.args.oid.now in
    let made = c.in-Some.ensures in
    has_written_of_eq _ _ _ _ _ (ap arcs_text made.1 ∙ sym (text_of_arcs (is_relative x) (oid_octets x) made.0))
    (c.write_arcs.ensures plain ok)

pub returns-in-None : goal.returns-in-None
returns-in-None g c = λ plain ok.
    let x = c.args.oid.now in
    has_written_of_eq _ _ _ _ _
    (ap hex_text c.as_bytes.ensures ∙ sym (text_of_octets (is_relative x) (oid_octets x) c.in-None.ensures))
    (c.write_octets.ensures plain ok)
