use Rattle.std.proofs.Common.{◌≡◌, take}
use Rattle.asn1_rs_profiles.proofs.strict.first_difference.Given as goal

abbrev pub invariant-loop-at : goal.invariant-loop-at
invariant-loop-at l = take l.at l.octets ≡ take l.at l.others
