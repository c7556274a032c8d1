use Rattle.std.proofs.Common.{◌-◌, ◌≤◌}
use Rattle.asn1_schema.specs.Writing.{LeavesUnused}
use Rattle.asn1_schema.proofs.put_bits.unused_behind.Given as goal

abbrev pub invariant-loop-rest : goal.invariant-loop-rest
invariant-loop-rest l = record {
  within : l.start ≤ l.rest;
  leaves : LeavesUnused l.tape l.rest l.end l.unused;
}

abbrev pub decreases-loop-rest : goal.decreases-loop-rest
decreases-loop-rest l = l.rest - l.start
