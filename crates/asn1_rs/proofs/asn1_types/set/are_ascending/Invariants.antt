use Rattle.std.proofs.Common.{◌≡◌, ◌<◌, ℕ, List, [], ◌∷◌, drop, get_or}
use Rattle.std.specs.List.{concat}
use Rattle.x690.specs.Octets.{IsBeforeOrSame}
use Rattle.asn1_rs.specs.Lists.{JoinedWithLengths}
use Rattle.asn1_rs.proofs.asn1_types.set.are_ascending.Given as goal

abbrev pub invariant-loop-length : goal.invariant-loop-length
invariant-loop-length l = (strings : List (List ℕ)) → JoinedWithLengths strings l.octets l.lengths →
    (l.last ≡ get_or ([] ∷ strings) l.length-index []) × (l.rest ≡ concat (drop l.length-index strings))
    × ((k : ℕ) → k < l.length-index → IsBeforeOrSame (get_or ([] ∷ strings) k []) (get_or strings k []))
