use Rattle.asn1_typed.proofs.Appended.{three}
use Rattle.asn1_typed.proofs.listing.push_unsound.Goals as goal

pub returns : goal.returns
returns c = (
  c.as_str.result.now,
  three _ _ _ _ _ _ _ c.in_ok-push_str.ensures c.in_ok-push_str-2.ensures c.in_ok-push_str-3.ensures,
)
