use Rattle.std.proofs.Common.{◌≡◌, ◌↔◌, ◌+◌, length, reverse}
use Rattle.asn1_strict.specs.declared.requirement.Departure.{Departure}
use Rattle.asn1_strict.specs.Strict.{StrictRow, AllStrict, tails_length}
use Rattle.asn1_strict.specs.Departures.{Departs, LeftDeparts}
use Rattle.asn1_strict.proofs.walk.departure_of_row.Given as goal

-- the whole is strict exactly where all that is left is, and departs where that does
abbrev pub invariant-loop-view : goal.invariant-loop-view
invariant-loop-view l = record {
  place : l.offset + length l.view + tails_length (reverse l.tails.items) ≡ length l.octets;
  same : StrictRow l.octets ↔ AllStrict (reverse l.tails.items) l.view;
  departs : (departure : Departure) → LeftDeparts (reverse l.tails.items) l.offset l.view departure →
      Departs 0 l.octets departure;
}

abbrev pub decreases-loop-view : goal.decreases-loop-view
decreases-loop-view l = length l.view + tails_length (reverse l.tails.items) + length l.tails.items
