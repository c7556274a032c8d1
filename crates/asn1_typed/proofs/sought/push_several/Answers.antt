use Rattle.asn1_typed.proofs.Appended.{two, four}
use Rattle.asn1_typed.proofs.sought.push_several.Goals as goal

pub returns : goal.returns
returns c = two _ _ _ _ _ (four _ _ _ _ _ _ _ _ _ c.in_ok-push_str.ensures c.in_ok-push.ensures c.in_ok-push_str-2.ensures
    c.in_ok-push_bearers.ensures) c.in_ok-push_str-3.ensures
