use Rattle.std.proofs.Common.{inr}
use Rattle.x509_name.proofs.attribute.AttributeTypeAndValueFromDerError.from_der.Goals as goal

pub returns : goal.returns
returns c = inr (
  c.in_ok-rest.any,
  c.in_ok-rest.rest.now,
  c.in_ok-rest.ensures,
  inr (
    c.in_default.ensures,
    c.in-Err-parts_of.ensures,
  ),
)
