use Rattle.std.proofs.Common.{ap, ◌-◌, List}
use Rattle.std.specs.Prelude.{slice_set}
use Rattle.asn1_schema.specs.declared.tape.Item.{Item}
use Rattle.asn1_schema.proofs.named.end_with.Goals as goal

pub returns : goal.returns
returns c = ap (λ (z : List Item). slice_set z (c.args.end - 1) c.args.item) c.truncate.ensures.items
