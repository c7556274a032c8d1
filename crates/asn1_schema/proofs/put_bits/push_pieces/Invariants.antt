use Rattle.std.proofs.Common.{◌-◌, ◌≤◌}
use Rattle.asn1_schema.specs.Writing.{JoinsBits}
use Rattle.asn1_schema.proofs.put_bits.push_pieces.Given as goal

abbrev pub invariant-loop-rest : goal.invariant-loop-rest
invariant-loop-rest l = record {
  within : l.start ≤ l.rest;
  joins : JoinsBits l.tape l.rest l.end l.fn.pending l.initial.buf l.buf l.so_far;
}

abbrev pub decreases-loop-rest : goal.decreases-loop-rest
decreases-loop-rest l = l.rest - l.start
