use Rattle.std.proofs.Common.{ℕ, false, List, ◌++◌, ◌+◌, ◌*◌}
use Rattle.std.specs.Io.KnownBytes.{Appends}
use Rattle.asn1_walk.specs.declared.line.Line.{Line}
use Rattle.asn1_walk.specs.Rows.{Row, Outcome}
use Rattle.asn1_walk.specs.Walks.{Left, steps_left}
use Rattle.asn1_engine.specs.Trees.{AreShown}
use Rattle.asn1_engine.proofs.trees.+parts.Given as goal

abbrev pub decreases-dump_part : goal.decreases-dump_part
decreases-dump_part g l = 2 * l.strings + 1

abbrev pub decreases-write_element : goal.decreases-write_element
decreases-write_element g l = 2 * l.strings

-- What is to come is that of all octets of the part, and its lines stand behind those that are written.
abbrev pub invariant-dump_part-loop-walk : goal.invariant-dump_part-loop-walk
invariant-dump_part-loop-walk g l = (text : List ℕ) × Appends (g.W.Write.contents l.fn.out) (g.W.Write.contents l.out) text ×
    ((lines : List Line) (outcome : Outcome) (rest : List ℕ) → Left l.walk lines outcome →
    AreShown l.options l.strings l.part.offset l.part.depth lines rest →
    (all : List Line) × Row false 0 0 l.part.octets.now all outcome ×
    AreShown l.options l.strings l.part.offset l.part.depth all (text ++ rest))

abbrev pub decreases-dump_part-loop-walk : goal.decreases-dump_part-loop-walk
decreases-dump_part-loop-walk g l = steps_left l.walk
