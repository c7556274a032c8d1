use Rattle.asn1_typed.proofs.Appended.{with_pair}
use Rattle.asn1_typed.proofs.refusals.push_octet.Goals as goal

pub returns : goal.returns
returns c =
    let end = c.in_ok-push_number_and_names.ensures in
    (end.0, with_pair _ _ _ _ _ _ _ _ c.in_ok-push_str.ensures c.in_ok-push_str-2.ensures end.1)
