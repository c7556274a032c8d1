use Rattle.std.proofs.Common.{◌≡◌, ℕ, List, map, take, drop}
use Rattle.std.specs.List.{concat}
use Rattle.asn1_rs.specs.Lists.{JoinedWithLengths}
use Rattle.asn1_rs.proofs.asn1_types.set.pieces_of.Given as goal

abbrev pub invariant-loop-length : goal.invariant-loop-length
invariant-loop-length l = (strings : List (List ℕ)) → JoinedWithLengths strings l.octets l.lengths →
    (map (λ s. s.now) l.pieces.items ≡ take l.length-index strings) × (l.rest ≡ concat (drop l.length-index strings))
