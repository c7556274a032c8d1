use Rattle.std.proofs.Common.{◌≡◌, ◌++◌, List, ℕ, length}
use Rattle.asn1_schema.specs.Grammar.{bits_in}
use Rattle.asn1_schema.specs.Writing.{PushesBits}
use Rattle.asn1_schema.proofs.put_bits.push_octets.Given as goal

abbrev pub invariant-loop-last : goal.invariant-loop-last
invariant-loop-last l = record {
  done : List ℕ;
  parts : l.octets ≡ l.left ++ done;
  pushes : PushesBits (bits_in done) l.fn.pending l.initial.buf l.buf l.so_far;
}

abbrev pub decreases-loop-last : goal.decreases-loop-last
decreases-loop-last l = length l.left
