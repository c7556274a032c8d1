use Rattle.std.proofs.Common.{◌≡◌, take, None, Some, MatchOption}
use Rattle.json.specs.Find.{get_member}
use Rattle.json.specs.Value.{members_view, value_view}
use Rattle.asn1_json.proofs.reading.names.member_named.Given as goal

-- the last one so far
abbrev pub invariant-loop-place : goal.invariant-loop-place
invariant-loop-place l = MatchOption l.found (get_member l.name (members_view (take l.place l.members)) ≡ None)
    (λ found. get_member l.name (members_view (take l.place l.members)) ≡ Some (value_view found.1.now))
