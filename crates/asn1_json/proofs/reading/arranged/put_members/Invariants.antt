use Rattle.std.proofs.Common.{ℕ, map, take}
use Rattle.json.specs.Value.{items_of}
use Rattle.asn1_json.specs.Denotes.{Denotes, DenoteItems}
use Rattle.asn1_json.specs.Outcomes.{AreJsonMembers, MakesRow, document_of}
use Rattle.asn1_json.specs.Tokens.{Types}
use Rattle.asn1_json.proofs.reading.arranged.put_members.Given as goal

-- the members so far are put
abbrev pub invariant-loop-member : goal.invariant-loop-member
invariant-loop-member l = (types : Types) (depth nesting of : ℕ) → AreJsonMembers (Denotes types depth nesting of) l.members →
    MakesRow (DenoteItems (Denotes types depth nesting of) (items_of (map document_of (take l.member-index l.members)))) l.fn.made l.made
