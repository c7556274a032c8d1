use Rattle.std.proofs.Common.{◌≡◌, List, ℕ, ◌++◌}
use Rattle.std.specs.Fmt.{HasWritten, IsPlainFormatter}
use Rattle.x690.specs.Arcs.{arcs_text}
use Rattle.asn1_rs.specs.Oid.Arcs.{arcs_left}
use Rattle.asn1_rs.specs.Laws.Oid.Text.{pointed}
use Rattle.asn1_rs.proofs.asn1_types.oid.text.write_arcs.Given as goal

abbrev pub invariant-loop-arc : goal.invariant-loop-arc
invariant-loop-arc g l =
    IsPlainFormatter l.fn.f → (done : List ℕ) × HasWritten g.W.Write.write_str_gives l.fn.f done l.f ×
    (done ++ pointed (arcs_left l.others) ≡ arcs_text (arcs_left l.fn.arcs))
