use Rattle.asn1_typed.proofs.Appended.{three, four}
use Rattle.asn1_typed.proofs.listing.push_line.Goals as goal

pub returns : goal.returns
returns c =
    let name = four _ _ _ _ _ _ _ _ _ c.in_ok-push_str.ensures c.in_ok-push_str-2.ensures c.in_ok-push_str-3.ensures
    c.in_ok-push_str-4.ensures in
    let tags = three _ _ _ _ _ _ _ name c.in_ok-push_tags_at.ensures c.in_ok-push_str-5.ensures in
    three _ _ _ _ _ _ _ tags c.in_ok-push_type.ensures c.in_ok-push_str-6.ensures
