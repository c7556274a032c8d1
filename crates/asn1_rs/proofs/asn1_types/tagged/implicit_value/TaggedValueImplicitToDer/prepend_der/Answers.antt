use Rattle.std.proofs.Common.{arith, refl, inl, inr, length-append}
use Rattle.asn1_headers.specs.declared.error.SerializeError.TheVariants.{InvalidClass}
use Rattle.asn1_headers.specs.Laws.Prepending.{Prepended_refused}
use Rattle.asn1_rs.proofs.Prepending.{handed_refused, class_within}
use Rattle.asn1_rs.proofs.asn1_types.tagged.implicit_value.TaggedValueImplicitToDer.prepend_der.Goals as goal

pub returns-then-this-gt3-clause-prepended : goal.returns-then-this-gt3-clause-prepended
returns-then-this-gt3-clause-prepended g c = λ t. Prepended_refused _ _ _ _ refl refl

pub returns-then-this-gt3-clause-refused : goal.returns-then-this-gt3-clause-refused
returns-then-this-gt3-clause-refused g c = λ t. inr (InvalidClass g.row.CLASS, inl (inl (omega arith, refl)), refl)

pub returns-clause-refused : goal.returns-clause-refused
returns-clause-refused g c = λ t.
    rw (← c.der_constructed-constructed.ensures t)
    (class_within g.row.CLASS c.prepend_element.result _ _ (g.T.ToDer.writing.content_refuses c.args.self.now.inner)
    (omega arith)
    (handed_refused c.prepend_der_content-content.result c.prepend_element.result _ _ _
    (g.T.ToDer.writing.content_refuses c.args.self.now.inner)
    (simp length-append (omega arith)) (c.prepend_der_content-content.ensures.refused t)
    (c.prepend_element.ensures.refused _ _ (c.prepend_der_content-content.ensures.prepended t))
    c.prepend_element.ensures.handed))
