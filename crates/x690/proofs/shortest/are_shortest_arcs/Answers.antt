use Rattle.std.proofs.Common.{◌≡◌, List, ℕ, length, arith, ap}
use Rattle.x690.proofs.ShortestArcs.{shortest_told}
use Rattle.x690.proofs.shortest.are_shortest_arcs.Goals as goal

pub returns-in_default : goal.returns-in_default
returns-in_default c =
    let told = shortest_told c.args.content.now c.are_shortest_from.ensures.octets in
    let some = c.in_default.len_at_least in (
      (λ yes. (
        (λ e. let none : length c.args.content.now ≡ 0 = ap (λ (octets : List ℕ). length octets) e in
            absurd (omega (arith, some, none))),
        told.0 (c.are_shortest_from.ensures.told.0 yes),
      )),
      (λ both. c.are_shortest_from.ensures.told.1 (told.1 both.1)),
    )
