use Rattle.std.proofs.Common.{ℕ, suc, ◌≡◌, ◌≤◌, ◌+◌, ◌*◌, ◌++◌, List, length, min, true, false}
use Rattle.asn1_schema.specs.Sound.{fields_unambiguous}
use Rattle.x690.specs.Elements.{Parts}
use Rattle.asn1_schema.specs.declared.schema.Field.{Field}
use Rattle.asn1_schema.specs.Reading.{AreFieldsOf, AreItemsOf, IsBody}
use Rattle.asn1_schema.specs.Members.{AreElements, AreMembersOf, others_than}
use Rattle.asn1_schema.proofs.TakenRows.{SoFar}
use Rattle.asn1_schema.proofs.TakenSets.{OthersSoFar}
use Rattle.asn1_schema.proofs.reading.+reading.Given as goal

abbrev pub decreases-read_choice : goal.decreases-read_choice
decreases-read_choice l = 8 * (l.depth * suc (length l.nodes.now) + min l.of (length l.nodes.now))

abbrev pub decreases-read_body : goal.decreases-read_body
decreases-read_body l = 8 * (l.depth * suc (length l.nodes.now) + min l.of (length l.nodes.now)) + 1

abbrev pub decreases-read_front : goal.decreases-read_front
decreases-read_front l = 8 * (l.depth * suc (length l.nodes.now) + min l.of (length l.nodes.now)) + 2

abbrev pub decreases-read_whole : goal.decreases-read_whole
decreases-read_whole l = 8 * (l.depth * suc (length l.nodes.now) + min l.of (length l.nodes.now)) + 3

abbrev pub decreases-read_field : goal.decreases-read_field
decreases-read_field l = 8 * (l.depth * suc (length l.nodes.now) + length l.nodes.now) + 5

abbrev pub decreases-read_items : goal.decreases-read_items
decreases-read_items l = 8 * (l.depth * suc (length l.nodes.now) + length l.nodes.now) + 4

abbrev pub decreases-read_behind : goal.decreases-read_behind
decreases-read_behind l = 8 * (l.depth * suc (length l.nodes.now) + length l.nodes.now) + 5

abbrev pub decreases-read_fields : goal.decreases-read_fields
decreases-read_fields l = 8 * (l.depth * suc (length l.nodes.now) + length l.nodes.now) + 6

abbrev pub decreases-read_row : goal.decreases-read_row
decreases-read_row l = 8 * (l.depth * suc (length l.nodes.now) + length l.nodes.now) + 7

abbrev pub decreases-read_left_out : goal.decreases-read_left_out
decreases-read_left_out l = 8 * (l.depth * suc (length l.nodes.now) + length l.nodes.now) + 4

abbrev pub decreases-read_other : goal.decreases-read_other
decreases-read_other l = 8 * (l.depth * suc (length l.nodes.now) + length l.nodes.now) + 4

abbrev pub decreases-read_others : goal.decreases-read_others
decreases-read_others l = 8 * (l.depth * suc (length l.nodes.now) + length l.nodes.now) + 5

abbrev pub decreases-read_member : goal.decreases-read_member
decreases-read_member l = 8 * (l.depth * suc (length l.nodes.now) + length l.nodes.now) + 5

abbrev pub decreases-read_members : goal.decreases-read_members
decreases-read_members l = 8 * (l.depth * suc (length l.nodes.now) + length l.nodes.now) + 6

abbrev pub decreases-read_set : goal.decreases-read_set
decreases-read_set l = 8 * (l.depth * suc (length l.nodes.now) + length l.nodes.now) + 7

abbrev pub invariant-read_items-loop-rest : goal.invariant-read_items-loop-rest
invariant-read_items-loop-rest l = (d : ℕ) → l.depth ≤ d → SoFar (AreItemsOf l.coding l.nodes d l.of l.rest)
    (AreItemsOf l.coding l.nodes d l.of l.octets) l.initial.tape.items l.tape.items

abbrev pub decreases-read_items-loop-rest : goal.decreases-read_items-loop-rest
decreases-read_items-loop-rest l = length l.rest

abbrev pub invariant-read_fields-loop-field : goal.invariant-read_fields-loop-field
invariant-read_fields-loop-field l = record {
  done : List Field;
  parts : l.fields ≡ done ++ l.left;
  told : fields_unambiguous false l.nodes l.unknown l.left ≡ true;
  so_far : (d : ℕ) → l.depth ≤ d → SoFar (AreFieldsOf l.coding l.nodes d l.unknown l.left l.rest)
      (AreFieldsOf l.coding l.nodes d l.unknown l.fields l.octets) l.initial.tape.items l.tape.items;
}

abbrev pub decreases-read_fields-loop-field : goal.decreases-read_fields-loop-field
decreases-read_fields-loop-field l = length l.left

abbrev pub invariant-read_members-loop-field : goal.invariant-read_members-loop-field
invariant-read_members-loop-field l = record {
  done : List Field;
  parts : l.fields ≡ done ++ l.left;
  so_far : (es : List Parts) → AreElements l.coding l.octets es → (d : ℕ) → l.depth ≤ d →
      SoFar (AreMembersOf l.coding l.nodes d l.unknown l.left (others_than l.nodes done es))
      (AreMembersOf l.coding l.nodes d l.unknown l.fields es) l.initial.tape.items l.tape.items;
}

abbrev pub decreases-read_members-loop-field : goal.decreases-read_members-loop-field
decreases-read_members-loop-field l = length l.left

abbrev pub invariant-read_others-loop-tail : goal.invariant-read_others-loop-tail
invariant-read_others-loop-tail l = (es : List Parts) → AreElements l.coding l.octets es → (d : ℕ) → l.depth ≤ d →
    OthersSoFar l.coding l.nodes (IsBody l.coding l.nodes d) l.unknown l.fields l.rest es l.initial.tape.items
    l.tape.items

abbrev pub decreases-read_others-loop-tail : goal.decreases-read_others-loop-tail
decreases-read_others-loop-tail l = length l.rest
