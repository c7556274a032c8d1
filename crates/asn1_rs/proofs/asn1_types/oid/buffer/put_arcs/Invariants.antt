use Rattle.std.proofs.Common.{◌≡◌, ◌≤◌, ◌++◌, length, take}
use Rattle.x690.specs.Arcs.{arcs_text}
use Rattle.asn1_rs.specs.Oid.Arcs.{arcs_left}
use Rattle.asn1_rs.specs.Laws.Oid.Text.{pointed}
use Rattle.asn1_rs.proofs.asn1_types.oid.buffer.put_arcs.Given as goal

abbrev pub invariant-loop-arc : goal.invariant-loop-arc
invariant-loop-arc l = record {
  within : l.end ≤ length l.out;
  put : take l.end l.out ++ pointed (arcs_left l.others) ≡ arcs_text (arcs_left l.fn.arcs);
}
