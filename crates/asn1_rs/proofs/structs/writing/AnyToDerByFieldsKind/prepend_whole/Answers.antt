use Rattle.std.proofs.Common.{inl, inr}
use Rattle.asn1_rs.proofs.Prepending.{handed_err}
use Rattle.asn1_rs.proofs.structs.writing.AnyToDerByFieldsKind.prepend_whole.Goals as goal

pub returns-clause-accepted : goal.returns-clause-accepted
returns-clause-accepted g c = λ e t o. elim o [
  | inl h ↦ handed_err _ _ _ (c.prepend_content-content.ensures.uncounted h.0 t h.1) c.prepend_element.ensures.handed
  | inr h ↦ handed_err _ _ _ (c.prepend_content-content.ensures.accepted e t h) c.prepend_element.ensures.handed
]

pub returns-clause-uncounted : goal.returns-clause-uncounted
returns-clause-uncounted g c = λ e t o.
    handed_err _ _ _ (c.prepend_content-content.ensures.uncounted e t o) c.prepend_element.ensures.handed
