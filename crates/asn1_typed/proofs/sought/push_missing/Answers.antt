use Rattle.asn1_typed.proofs.Appended.{three}
use Rattle.asn1_typed.proofs.sought.push_missing.Goals as goal

pub returns : goal.returns
returns c = three _ _ _ _ _ _ _ c.in_ok-push_str.ensures c.in_ok-push.ensures c.in_ok-push_str-2.ensures
