use Rattle.std.proofs.Common.{◌∙◌, ap, sym}
use Rattle.asn1_schema.specs.Same.{signs_from}
use Rattle.asn1_schema.proofs.Signs.{same_values, same_tapes}
use Rattle.asn1_schema.proofs.same.same_value.Goals as goal

pub returns : goal.returns
returns c = λ k l m n.
    let a = ap (signs_from 0) m in
    let b = ap (signs_from 0) n in (
      λ e. same_values k l (sym a ∙ (c.same_signs.ensures.0 e ∙ b)),
      λ e. c.same_signs.ensures.1 (a ∙ (same_tapes k l e ∙ sym b)),
    )
