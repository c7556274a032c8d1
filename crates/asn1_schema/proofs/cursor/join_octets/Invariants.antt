use Rattle.std.proofs.Common.{◌≡◌, ◌++◌, drop}
use Rattle.asn1_schema.specs.Tape.{marks}
use Rattle.asn1_schema.specs.Joined.{all_octets}
use Rattle.asn1_schema.proofs.cursor.join_octets.Given as goal

-- with the octets of the items that are left, the octets are those of all
abbrev pub invariant-loop-item : goal.invariant-loop-item
invariant-loop-item l = l.octets.items ++ all_octets (marks (drop l.item-index l.value)) ≡
    l.initial.octets.items ++ all_octets (marks l.value)
