use Rattle.std.proofs.Common.{◌∙◌, ap, sym, List, map, drop, arith}
use Rattle.std.proofs.lemmas.List.{take_all, drop-map}
use Rattle.asn1_schema.specs.Owned.{placed_mark}
use Rattle.asn1_schema.specs.declared.owned.Placed.{Placed}
use Rattle.asn1_schema.proofs.owned.OwnedTape.lend_from.Goals as goal

pub returns : goal.returns
returns c =
    let self = c.args.self.now in
    let end = c.loop-placed-test.false in
    let rest = drop c.args.start self.items.items in
    c.loop-placed.invariant
    ∙ ap (λ (l : List Placed). map (placed_mark self.octets.items) l) (take_all c.loop-placed.placed-index rest (grind (arith, end)))
    ∙ sym (drop-map (placed_mark self.octets.items) c.args.start self.items.items)
