use Rattle.std.proofs.Common.{◌-◌, ◌≤◌}
use Rattle.asn1_schema.specs.Writing.{JoinsPieces, sort_of}
use Rattle.asn1_schema.proofs.put_strings.put_pieces.Given as goal

abbrev pub invariant-loop-rest : goal.invariant-loop-rest
invariant-loop-rest l = record {
  within : l.start ≤ l.rest;
  joins : JoinsPieces (sort_of l.sort) l.tape l.rest l.end l.initial.buf l.buf;
}

abbrev pub decreases-loop-rest : goal.decreases-loop-rest
decreases-loop-rest l = l.rest - l.start
