use Rattle.std.proofs.Common.{false, ◌≤◌, ◌++◌, length, length-append, arith}
use Rattle.asn1_headers.specs.Tag.{is_container_number}
use Rattle.asn1_rs.specs.Kinds.Writing.{universal_header}
use Rattle.asn1_rs.proofs.Refused.{element_count_refused, count_refuses, count_accepted}
use Rattle.asn1_rs.proofs.kinds.writing.AnyToDerByElementKind.element_count.Goals as goal

pub returns-clause-refused : goal.returns-clause-refused
returns-clause-refused g c = λ _.
    let octets = g.T.WritesElement.octets c.args.self.now in
    let number = c.TAG.result.0 in
    let whole = universal_header number octets ++ octets in
    let shorter : length octets ≤ length whole = simp length-append (omega arith) in
    rw (← c.TAG.ensures)
    (count_refuses (g.T.WritesElement.refusal c.args.self.now) (g.T.WritesElement.is_refused c.args.self.now)
    (length whole) c.element_len.result (element_count_refused (g.T.WritesElement.refusal c.args.self.now)
    (g.T.WritesElement.is_refused c.args.self.now) (length octets) (length whole) c.count_octets.result
    c.element_len.result shorter c.count_octets.ensures.refused (c.element_len.ensures.why false 0
    (is_container_number number) octets c.count_octets.ensures.count) c.element_len.ensures.refused))

pub returns-clause-accepted : goal.returns-clause-accepted
returns-clause-accepted g c = λ e _ o.
    let octets = g.T.WritesElement.octets c.args.self.now in
    let number = c.TAG.result.0 in
    let whole = universal_header number octets ++ octets in
    let shorter : length octets ≤ length whole = simp length-append (omega arith) in
    count_accepted (g.T.WritesElement.refusal c.args.self.now) (g.T.WritesElement.is_refused c.args.self.now)
    (length whole) c.element_len.result (element_count_refused (g.T.WritesElement.refusal c.args.self.now)
    (g.T.WritesElement.is_refused c.args.self.now) (length octets) (length whole) c.count_octets.result
    c.element_len.result shorter c.count_octets.ensures.refused (c.element_len.ensures.why false 0
    (is_container_number number) octets c.count_octets.ensures.count) c.element_len.ensures.refused) e o
