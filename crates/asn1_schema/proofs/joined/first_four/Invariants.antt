use Rattle.std.proofs.Common.{◌≡◌, ◌≤◌, ◌-◌, ◌++◌, take, length}
use Rattle.asn1_schema.specs.Joined.{said}
use Rattle.asn1_schema.proofs.joined.first_four.Given as goal

abbrev pub invariant-loop-count : goal.invariant-loop-count
invariant-loop-count l = record {
  few : l.count ≤ 4;
  first : said l.fn.source ≡ take l.count l.four ++ said l.source;
  room : length l.four ≡ 4;
}

abbrev pub decreases-loop-count : goal.decreases-loop-count
decreases-loop-count l = 4 - l.count
