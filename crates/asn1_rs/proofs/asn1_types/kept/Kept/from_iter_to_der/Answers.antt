use Rattle.std.proofs.Common.{◌∙◌, ap}
use Rattle.std.specs.Cow.{cow_slice_items}
use Rattle.asn1_rs.proofs.asn1_types.kept.Kept.from_iter_to_der.Goals as goal

pub returns-in-Ok : goal.returns-in-Ok
returns-in-Ok g c =
    let joined = c.in-Ok.ensures in
    (joined.0, joined.1, λ t. (ap cow_slice_items c.new.ensures ∙ (joined.2 t).0, (joined.2 t).1))
