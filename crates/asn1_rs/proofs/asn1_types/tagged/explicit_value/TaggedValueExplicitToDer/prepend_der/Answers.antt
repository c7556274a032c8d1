use Rattle.std.proofs.Common.{arith, refl, inl, inr, length-append}
use Rattle.asn1_headers.specs.declared.error.SerializeError.TheVariants.{InvalidClass}
use Rattle.asn1_headers.specs.Laws.Prepending.{Prepended_refused}
use Rattle.asn1_rs.specs.ToDer.{whole_refuses}
use Rattle.asn1_rs.proofs.Prepending.{handed_refused, class_within}
use Rattle.asn1_rs.proofs.asn1_types.tagged.explicit_value.TaggedValueExplicitToDer.prepend_der.Goals as goal

pub returns-then-this-gt3-clause-prepended : goal.returns-then-this-gt3-clause-prepended
returns-then-this-gt3-clause-prepended g c = λ t. Prepended_refused _ _ _ _ refl refl

pub returns-then-this-gt3-clause-refused : goal.returns-then-this-gt3-clause-refused
returns-then-this-gt3-clause-refused g c = λ t. inr (InvalidClass g.row.CLASS, inl (inl (omega arith, refl)), refl)

pub returns-clause-refused : goal.returns-clause-refused
returns-clause-refused g c = λ t.
    class_within g.row.CLASS c.prepend_element.result _ _ (whole_refuses g.T.ToDer.writing c.args.self.now.inner)
    (omega arith)
    (handed_refused c.prepend_der-content.result c.prepend_element.result _ _ _
    (whole_refuses g.T.ToDer.writing c.args.self.now.inner)
    (simp length-append (omega arith)) (c.prepend_der-content.ensures.refused t)
    (c.prepend_element.ensures.refused _ _ (c.prepend_der-content.ensures.prepended t))
    c.prepend_element.ensures.handed)
