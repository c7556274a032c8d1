use Rattle.std.proofs.Common.{suc, ◌+◌, ◌*◌, length, min}
use Rattle.asn1_schema.specs.Writing.{WrittenSoFar, ItemsSoFar}
use Rattle.asn1_schema.proofs.WrittenSets.{SetSoFar}
use Rattle.asn1_schema.proofs.writing.+writing.Given as goal

abbrev pub decreases-put_value : goal.decreases-put_value
decreases-put_value l = 7 * (l.depth * suc (length l.nodes.now) + min l.of (length l.nodes.now)) + 1

abbrev pub decreases-put_choice : goal.decreases-put_choice
decreases-put_choice l = 7 * (l.depth * suc (length l.nodes.now) + min l.of (length l.nodes.now))

abbrev pub decreases-put_within : goal.decreases-put_within
decreases-put_within l = 7 * (l.depth * suc (length l.nodes.now) + min l.of (length l.nodes.now))

abbrev pub decreases-put_element : goal.decreases-put_element
decreases-put_element l = 7 * (l.depth * suc (length l.nodes.now))

abbrev pub decreases-put_content : goal.decreases-put_content
decreases-put_content l = 7 * (l.depth * suc (length l.nodes.now) + length l.nodes.now) + 6

abbrev pub decreases-put_row : goal.decreases-put_row
decreases-put_row l = 7 * (l.depth * suc (length l.nodes.now) + length l.nodes.now) + 5

abbrev pub decreases-put_set : goal.decreases-put_set
decreases-put_set l = 7 * (l.depth * suc (length l.nodes.now) + length l.nodes.now) + 5

abbrev pub decreases-put_members : goal.decreases-put_members
decreases-put_members l = 7 * (l.depth * suc (length l.nodes.now) + length l.nodes.now) + 4

abbrev pub decreases-put_list : goal.decreases-put_list
decreases-put_list l = 7 * (l.depth * suc (length l.nodes.now) + length l.nodes.now) + 5

abbrev pub decreases-put_fields : goal.decreases-put_fields
decreases-put_fields l = 7 * (l.depth * suc (length l.nodes.now) + length l.nodes.now) + 4

abbrev pub decreases-put_unknown : goal.decreases-put_unknown
decreases-put_unknown l = 7 * (l.depth * suc (length l.nodes.now) + length l.nodes.now) + 3

abbrev pub decreases-put_items : goal.decreases-put_items
decreases-put_items l = 7 * (l.depth * suc (length l.nodes.now) + length l.nodes.now) + 2

abbrev pub decreases-put_field : goal.decreases-put_field
decreases-put_field l = 7 * (l.depth * suc (length l.nodes.now) + length l.nodes.now) + 3

abbrev pub decreases-put_default : goal.decreases-put_default
decreases-put_default l = 7 * (l.depth * suc (length l.nodes.now) + length l.nodes.now) + 2

abbrev pub invariant-put_fields-loop-field : goal.invariant-put_fields-loop-field
invariant-put_fields-loop-field l =
    WrittenSoFar l.nodes l.depth l.fn.unknown l.count l.fields l.left l.tape l.at l.rest l.fn.buf l.buf

abbrev pub decreases-put_fields-loop-field : goal.decreases-put_fields-loop-field
decreases-put_fields-loop-field l = length l.left

abbrev pub invariant-put_members-loop-field : goal.invariant-put_members-loop-field
invariant-put_members-loop-field l =
    SetSoFar l.nodes l.depth l.fn.unknown l.count l.fields l.left l.tape l.at l.rest l.fn.buf l.buf

abbrev pub decreases-put_members-loop-field : goal.decreases-put_members-loop-field
decreases-put_members-loop-field l = length l.left

abbrev pub invariant-put_items-loop-left : goal.invariant-put_items-loop-left
invariant-put_items-loop-left l =
    ItemsSoFar l.nodes l.depth l.of l.ascending l.count l.left l.first l.tape l.at l.rest l.initial.buf l.buf

abbrev pub decreases-put_items-loop-left : goal.decreases-put_items-loop-left
decreases-put_items-loop-left l = l.left
