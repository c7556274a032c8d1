use Rattle.std.proofs.Common.{length-append, arith}
use Rattle.asn1_rs.specs.Kinds.Writing.{OwnWritten}
use Rattle.asn1_rs.proofs.Prepending.{handed_refused, handed_kept, second_within, prepend_refuses, prepend_first}
use Rattle.asn1_rs.proofs.kinds.writing.AnyToDerByElementKind.prepend_whole.Goals as goal

pub returns-clause-refused : goal.returns-clause-refused
returns-clause-refused g c = λ _.
    let own = g.T.WritesElement.refusal c.args.self.now in
    let is = g.T.WritesElement.is_refused c.args.self.now in
    rw (← c.TAG-tag.ensures, ← c.is_container.ensures)
    (second_within c.prepend_element.result _ (OwnWritten is own) (OwnWritten is own)
    (handed_refused c.prepend_contents-content.result c.prepend_element.result _ _ _ (OwnWritten is own)
    (simp length-append (omega arith))
    (prepend_refuses own is _ _ _ c.prepend_contents-content.result c.prepend_contents-content.ensures.refused)
    (c.prepend_element.ensures.refused _ _ c.prepend_contents-content.ensures.prepended)
    c.prepend_element.ensures.handed))

pub returns-clause-first : goal.returns-clause-first
returns-clause-first g c = λ e o.
    handed_kept c.prepend_contents-content.result c.prepend_element.result _ _ _ _
    (prepend_first (g.T.WritesElement.refusal c.args.self.now) (g.T.WritesElement.is_refused c.args.self.now) _ _ _
    c.prepend_contents-content.result c.prepend_contents-content.ensures.refused e o)
    c.prepend_element.ensures.handed
