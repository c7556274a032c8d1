use Rattle.std.proofs.Common.{◌≡◌, take}
use Rattle.std.specs.List.{flat_map}
use Rattle.asn1_rs.proofs.asn1_types.set.join_ascending.Given as goal

abbrev pub invariant-loop-piece : goal.invariant-loop-piece
invariant-loop-piece l = l.content.items ≡ flat_map (λ s. s.now) (take l.piece-index l.piece-items)
