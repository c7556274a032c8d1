use Rattle.std.proofs.Common.{◌≡◌, ◌*◌, ◌+◌, ℕ, Option, List, map, take, Some}
use Rattle.json.specs.Value.{items_of, members_view, value_view}
use Rattle.asn1_json.specs.Denotes.{Denotes, DenoteItems}
use Rattle.asn1_json.specs.Outcomes.{AreJsonMembers, DenoteFirst, MakesRow, document_of}
use Rattle.asn1_json.specs.Tokens.{given_types}
use Rattle.asn1_json.specs.Types.{fields_of, kind_at}
use Rattle.asn1_json.proofs.reading.values.+making.Given as goal

abbrev pub decreases-read_value : goal.decreases-read_value
decreases-read_value a = 8 * a.depth

abbrev pub decreases-read_field : goal.decreases-read_field
decreases-read_field a = 8 * a.depth + 1

abbrev pub decreases-read_array : goal.decreases-read_array
decreases-read_array a = 8 * a.depth + 1

abbrev pub decreases-read_members : goal.decreases-read_members
decreases-read_members a = 8 * a.depth + 1

abbrev pub decreases-read_choice : goal.decreases-read_choice
decreases-read_choice a = 8 * a.depth + 1

abbrev pub decreases-read_fields : goal.decreases-read_fields
decreases-read_fields a = 8 * a.depth + 2

abbrev pub decreases-read_unknown : goal.decreases-read_unknown
decreases-read_unknown a = 8 * a.depth + 2

abbrev pub decreases-read_list : goal.decreases-read_list
decreases-read_list a = 8 * a.depth + 2

abbrev pub decreases-read_set : goal.decreases-read_set
decreases-read_set a = 8 * a.depth + 2

abbrev pub decreases-read_row : goal.decreases-read_row
decreases-read_row a = 8 * a.depth + 3

abbrev pub decreases-read_kind : goal.decreases-read_kind
decreases-read_kind a = 8 * a.depth + 4

-- the fields so far are made
abbrev pub invariant-read_fields-loop-place : goal.invariant-read_fields-loop-place
invariant-read_fields-loop-place l = (unknown : Option ℕ) → MakesRow (DenoteFirst (given_types l.by.types) l.by.depth
    (Denotes (given_types l.by.types) l.by.depth l.depth) l.row unknown (members_view l.members)
    (fields_of (kind_at l.by.types.table.now (Some l.row))) l.place) l.fn.made l.made

-- the items so far are made
abbrev pub invariant-read_array-loop-place : goal.invariant-read_array-loop-place
invariant-read_array-loop-place l = MakesRow (DenoteItems (Denotes (given_types l.by.types) l.by.depth l.depth l.inner)
    (items_of (map value_view (take l.place l.items)))) l.fn.made l.made

-- the members so far are made
abbrev pub invariant-read_members-loop-place : goal.invariant-read_members-loop-place
invariant-read_members-loop-place l =
    (map document_of l.members.items ≡ map value_view (take l.place l.items)) ×
    AreJsonMembers (Denotes (given_types l.by.types) l.by.depth l.depth l.of) l.members.items
