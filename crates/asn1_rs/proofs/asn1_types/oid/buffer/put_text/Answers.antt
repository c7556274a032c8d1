use Rattle.std.proofs.Common.{ℕ, List, ap, sym, ◌∙◌, subst}
use Rattle.x690.specs.Arcs.{arcs_text}
use Rattle.asn1_rs.specs.Oid.{is_relative, oid_octets}
use Rattle.asn1_rs.specs.Oid.Text.{PutsBehind, hex_text}
use Rattle.asn1_rs.specs.Laws.Oid.Text.{text_of_arcs, text_of_octets}
use Rattle.asn1_rs.proofs.asn1_types.oid.buffer.put_text.Goals as goal

pub returns-in-Some : goal.returns-in-Some
returns-in-Some c =
    let x = c.args.oid.now in
    let made = c.in-Some.ensures in
    subst (λ (text : List ℕ). PutsBehind 0 c.args.out.now text c.put_arcs.result c.put_arcs.new.out)
    (ap arcs_text made.1 ∙ sym (text_of_arcs (is_relative x) (oid_octets x) made.0)) c.put_arcs.ensures

pub returns-in-None : goal.returns-in-None
returns-in-None c =
    let x = c.args.oid.now in
    subst (λ (text : List ℕ). PutsBehind 0 c.args.out.now text c.put_octets.result c.put_octets.new.out)
    (ap hex_text c.as_bytes.ensures ∙ sym (text_of_octets (is_relative x) (oid_octets x) c.in-None.ensures))
    c.put_octets.ensures
