use Rattle.std.proofs.Common.{◌≡◌, ◌++◌, List, length, IsTrue}
use Rattle.std.specs.Io.KnownBytes.{Appends}
use Rattle.asn1_headers.specs.Writer.{TookAllBut}
use Rattle.asn1_headers.proofs.writer.put_all.Given as goal

abbrev pub invariant-loop-rest : goal.invariant-loop-rest
invariant-loop-rest g l = record {
  kept : (g.W.DerWrite.state l.w).failed ≡ (g.W.DerWrite.state l.fn.w).failed;
  grown : (front : List _) × (l.piece ≡ front ++ l.rest) ×
      Appends (g.W.DerWrite.state l.fn.w).told (g.W.DerWrite.state l.w).told front;
  marked : IsTrue (g.W.DerWrite.state l.fn.w).failed → l.rest ≡ l.piece;
  calls : TookAllBut g.W.DerWrite.puts l.piece l.fn.w l.rest l.w;
}

abbrev pub decreases-loop-rest : goal.decreases-loop-rest
decreases-loop-rest g l = length l.rest
