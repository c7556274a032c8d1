use Rattle.std.proofs.Common.{ℕ, false, List, ◌++◌}
use Rattle.std.specs.Io.KnownBytes.{Appends}
use Rattle.asn1_walk.specs.declared.line.Line.{Line}
use Rattle.asn1_walk.specs.Rows.{Row, Outcome}
use Rattle.asn1_walk.specs.Walks.{Left, steps_left}
use Rattle.asn1_engine.specs.Verdicts.{AreElementVerdicts}
use Rattle.asn1_engine.proofs.verdicts.write_others.Given as goal

-- What is to come is that of all octets, and its verdicts stand behind those that are written.
abbrev pub invariant-loop-walk : goal.invariant-loop-walk
invariant-loop-walk g l = (text : List ℕ) × Appends (g.W.Write.contents l.fn.out) (g.W.Write.contents l.out) text ×
    ((lines : List Line) (outcome : Outcome) (rest : List ℕ) → Left l.walk lines outcome →
    AreElementVerdicts l.name l.octets l.first lines rest →
    (all : List Line) × Row false 0 0 l.octets all outcome ×
    AreElementVerdicts l.name l.octets l.first all (text ++ rest))

abbrev pub decreases-loop-walk : goal.decreases-loop-walk
decreases-loop-walk g l = steps_left l.walk
