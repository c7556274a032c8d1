use Rattle.std.proofs.Common.{ℕ, List, length}
use Rattle.std.specs.Io.KnownBytes.{Appends}
use Rattle.asn1_typed.specs.Decodings.{ValuesBefore}
use Rattle.asn1_typed.proofs.decoding.decode_lines.Given as goal

-- The values before what is left are written.
abbrev pub invariant-loop-left : goal.invariant-loop-left
invariant-loop-left g l = (shown : List ℕ) × ValuesBefore l.by l.schema l.of l.input l.left shown ×
    Appends (g.W.Write.contents l.fn.out) (g.W.Write.contents l.out) shown

abbrev pub decreases-loop-left : goal.decreases-loop-left
decreases-loop-left g l = length l.left.octets.now
