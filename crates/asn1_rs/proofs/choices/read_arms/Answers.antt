use Rattle.std.proofs.Common.{◌∙◌, ap, sym, inr}
use Rattle.asn1_headers.specs.Class.{class_number}
use Rattle.asn1_headers.specs.declared.class.Class.{Class}
use Rattle.asn1_rs.specs.Choices.{has_a_class}
use Rattle.asn1_rs.proofs.choices.read_arms.Goals as goal

pub returns : goal.returns
returns g c = inr (
  c.in-Ok.any,
  c.in-Ok.field-0-0.now,
  c.in-Ok.ensures,
  inr (
    ap (λ (k : Class). has_a_class g.A.ReadsArms.read_arms.tags (class_number k)) (sym c.class-class.ensures)
        ∙ sym c.if-not-knows_class.ensures,
    c.in-Err-read_arm.ensures,
  ),
)
