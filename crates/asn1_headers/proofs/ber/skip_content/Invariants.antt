use Rattle.std.proofs.Common.{◌≡◌, ℕ, List, ◌+◌, ◌-◌, ◌*◌, ◌≤◌, length, Result}
use Rattle.x690.specs.Octets.{IsOctets}
use Rattle.x690.specs.Faults.{Fault}
use Rattle.asn1_headers.proofs.OpenContents.{OpenContents}
use Rattle.asn1_headers.proofs.ber.skip_content.Given as goal

abbrev pub invariant-loop-opened : goal.invariant-loop-opened
invariant-loop-opened l = record {
  depths : l.depth + l.opened ≡ l.max_depth;
  few : 2 * l.steps.count + length l.rest ≤ 2 * l.fn.steps.count + length l.bytes;
  grows : l.fn.steps.count ≤ l.steps.count;
  octets : IsOctets l.rest;
  opened : (outcome : Result (List ℕ) Fault) (headers : ℕ) → OpenContents l.opened l.depth l.rest outcome headers →
      OpenContents 1 (l.max_depth - 1) l.bytes outcome ((l.steps.count - l.fn.steps.count) + headers);
}

abbrev pub decreases-loop-opened : goal.decreases-loop-opened
decreases-loop-opened l = length l.rest
