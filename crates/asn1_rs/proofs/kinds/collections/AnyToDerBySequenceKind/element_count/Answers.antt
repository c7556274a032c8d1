use Rattle.std.proofs.Common.{true, ◌++◌, ◌≤◌, length, length-append, arith}
use Rattle.std.specs.List.{flat_map}
use Rattle.x690.specs.Strict.{header_octets}
use Rattle.asn1_rs.specs.Lists.{SomeRefuses}
use Rattle.asn1_rs.proofs.Lists.{MayRefuseCount_more}
use Rattle.asn1_rs.proofs.Writing.{element_refused, element_accepted}
use Rattle.asn1_rs.proofs.kinds.collections.AnyToDerBySequenceKind.element_count.Goals as goal
use Rattle.asn1_rs.specs.ToDer.{whole_octets}

pub returns-clause-refused : goal.returns-clause-refused
returns-clause-refused g c = λ t.
    let joined = flat_map (whole_octets g.T.ToDer.writing) (g.L.Listed.items c.args.self.now) in
    let shorter : length joined ≤ length (header_octets 0 true c.TAG.result.0 (length joined) ++ joined) =
    simp length-append (omega arith) in
    rw (← c.TAG.ensures) (element_refused g.T.ToDer.writing.count_allocates _ _
    (SomeRefuses g.T.ToDer.writing.count_refuses (g.L.Listed.items c.args.self.now)) c.content_count.result
    c.element_len.result (c.content_count.ensures.refused t)
    (c.element_len.ensures.why g.T.ToDer.writing.count_allocates 0 true joined (c.content_count.ensures.count t))
    (λ e m. MayRefuseCount_more e g.T.ToDer.writing.count_allocates _ _ shorter m) c.element_len.ensures.refused)

pub returns-clause-accepted : goal.returns-clause-accepted
returns-clause-accepted g c = λ e t o. element_accepted
    (SomeRefuses g.T.ToDer.writing.count_refuses (g.L.Listed.items c.args.self.now)) c.content_count.result
    c.element_len.result (λ e. c.content_count.ensures.accepted e t) c.element_len.ensures.refused e o
