use Rattle.std.proofs.Common.{◌≡◌}
use Rattle.std.specs.List.{All, flat_map}
use Rattle.asn1_rs.specs.ToDer.{IsWritable, whole_octets}
use Rattle.asn1_rs.proofs.asn1_types.kept.joined.joined_encodings.Given as goal

abbrev pub invariant-loop-item : goal.invariant-loop-item
invariant-loop-item g l =
    All g.T.ToDer.writing.tells l.yielded → (l.octets.items ≡ flat_map (whole_octets g.T.ToDer.writing) l.yielded) ×
    All (IsWritable g.T.ToDer.writing) l.yielded
