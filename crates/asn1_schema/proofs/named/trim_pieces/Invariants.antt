use Rattle.std.proofs.Common.{◌≡◌, ◌≤◌, ◌++◌, List, Bool, length}
use Rattle.std.specs.Prelude.{map}
use Rattle.asn1_schema.specs.declared.pieces.Sort.TheVariants as sorts
use Rattle.asn1_schema.specs.Tape.{Mark, marks}
use Rattle.asn1_schema.specs.Pieces.{piece_mark}
use Rattle.asn1_schema.proofs.TrimmedPieces.{TrimmedSoFar}
use Rattle.asn1_schema.proofs.named.trim_pieces.Given as goal

abbrev pub invariant-loop-end : goal.invariant-loop-end
invariant-loop-end l = record {
  within : l.end ≤ length l.tape.items;
  least : l.place ≤ l.end;
  same : l.tape.items ≡ l.initial.tape.items;
  so_far : (front : List Mark) (bs : List (List Bool)) → marks l.tape.items ≡ front ++ map (piece_mark sorts.Bits) bs →
      l.place ≡ length front → TrimmedSoFar l.tape.items front bs l.end;
}

abbrev pub decreases-loop-end : goal.decreases-loop-end
decreases-loop-end l = l.end
