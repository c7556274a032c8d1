use Rattle.std.proofs.Common.{rules, ◌≡◌, ◌∙◌, ap, sym, subst, refl, ℕ, ◌-◌, ◌<◌, inl, inr, List, [], ◌∷◌, ◌++◌, true, false, arith, append_assoc, length}
use Rattle.std.specs.Prelude.{ℤ, Option, Some, None, Ok, Err, ◌||◌, not}
use Rattle.std.proofs.lemmas.Bool.{not-true, not-false}
use Rattle.std.proofs.lemmas.List.{nil_from_length, length-map}
use Rattle.std.proofs.lemmas.Option.{slice_get_within}
use Rattle.asn1_schema.specs.declared.schema.Kind.{Kind}
use Rattle.asn1_schema.specs.declared.schema.Kind.TheVariants as kinds
use Rattle.asn1_schema.specs.declared.schema.Field.{Field}
use Rattle.asn1_schema.specs.declared.schema.Presence.{Presence}
use Rattle.asn1_schema.specs.declared.tape.Item.{Item}
use Rattle.asn1_schema.specs.Tape.{mark, marks, tape_of}
use Rattle.asn1_schema.specs.Grammar.{AreUnknown, Says}
use Rattle.asn1_schema.specs.Sound.{is_single, kind_unambiguous, fields_unambiguous, arms_unambiguous, arms_included, all_before, field_unambiguous, may_be_left_out, node_at}
use Rattle.asn1_schema.specs.Reading.{rules_of, head_parts, IsBody, IsOfKind, IsArmOf, AreFieldsOf, AreItemsOf, IsRowOf, IsListed, Judges, ReadsValue, ReadsValues, MayNot, PutsLeftOut, PutsValue, UnlessMemory}
use Rattle.asn1_schema.specs.Values.{Value}
use Rattle.asn1_schema.specs.Members.{AreMembersOf, AreOthersOf, AreSetOf, IsSetOf, IsUnknownElement, others_than}
use Rattle.asn1_schema.specs.declared.pieces.Sort.TheVariants as sorts
use Rattle.asn1_schema.specs.Pieces.{IsStringOf}
use Rattle.asn1_schema.proofs.Depths.{least, fault_least, within, fault_within}
use Rattle.asn1_schema.proofs.Tags.{arm_before, first_holds, second_holds, node_told}
use Rattle.asn1_schema.proofs.OneValue.{tag_of_body}
use Rattle.asn1_schema.proofs.Taken.{lawful_of, written_of, no_leaf, body_some, reads_map, reads_up, kind_refused, order_of, no_type, other_tag, set_read, no_element, front_shorter, front_read, front_refused, whole_read, not_whole, whole_refused, explicit_read, no_arm, arm_read, arm_refused, choice_read, within_read, within_judged, bounds_order, leaf_read, leaf_up}
use Rattle.asn1_schema.proofs.Bounded.{bounds_refused}
use Rattle.asn1_schema.proofs.TakenRows.{nothing_yet, place_within, row_read, row_refused, item_more, items_refused, items_done, fields_further, fields_refused, fields_ended, none_behind, some_behind, SoFar, field_there, field_refused, field_away, left_absent, default_away, no_tag}
use Rattle.asn1_schema.proofs.TakenSets.{members_begun, members_refused, member_further, members_ended, member_read, member_away, other_read, other_refused, other_further, others_done, set_read_so, set_unordered}
use Rattle.asn1_schema.specs.declared.fault.Fault.TheVariants as faults
use Rattle.asn1_schema.specs.declared.refusal.Reason.TheVariants as reasons
use Rattle.asn1_schema.specs.Refusals.{IsDefault, row_fields}
use Rattle.asn1_schema.proofs.Told.{told_as, told_of_kind, told_up, told_missing, told_default, told_repeated, of_kind, of_no_type, any_tag, any_element, any_trailing, field_here, fields_there, no_fields_there, not_refused, fault_is}
use Rattle.asn1_schema.proofs.reading.+reading.Goals as goal

pub read_body-returns-then-depth-eq0-clause-value : goal.read_body-returns-then-depth-eq0-clause-value
read_body-returns-then-depth-eq0-clause-value t c = λ d h v b. body_some (rules_of c.args.coding) c.args.nodes.now d c.args.of (head_parts c.args.head c.args.content.now) v b (grind (arith, c.if-depth-eq0.true, h))

pub read_body-returns-in_default-clause-value : goal.read_body-returns-in_default-clause-value
read_body-returns-in_default-clause-value t c = λ d h. no_type (rules_of c.args.coding) c.args.nodes.now d c.args.of (head_parts c.args.head c.args.content.now) c.in_default.ensures.none

pub read_body-returns-then-not-has_a_tag-clause-value : goal.read_body-returns-then-not-has_a_tag-clause-value
read_body-returns-then-not-has_a_tag-clause-value t c = λ d h. other_tag (rules_of c.args.coding) c.args.nodes.now d c.args.of (head_parts c.args.head c.args.content.now) c.in-Some.node.now c.in-Some.ensures.some (sym c.if-not-has_a_tag.ensures)

pub read_body-read_row-requires : goal.read_body-read_row-requires
read_body-read_row-requires t c =
    let told : fields_unambiguous false c.args.nodes.now c.in-Sequence.unknown c.in-Sequence.fields.items ≡ true =
    second_holds (is_single c.in-Some.node.now.tags) (fields_unambiguous false c.args.nodes.now c.in-Sequence.unknown c.in-Sequence.fields.items)
    (subst (λ (k : Kind). kind_unambiguous c.args.nodes.now c.in-Some.node.now.tags k ≡ true) c.in-Sequence.is (node_told c.args.nodes.now c.args.of c.in-Some.node.now c.requires c.in-Some.ensures.some)) in
    let here : fields_unambiguous false c.args.nodes.now c.in-Sequence.unknown c.deref.result.now ≡ true =
    subst (λ (z : List Field). fields_unambiguous false c.args.nodes.now c.in-Sequence.unknown z ≡ true) (sym c.deref.ensures.value) told in
    search rules

pub read_body-read_choice-requires : goal.read_body-read_choice-requires
read_body-read_choice-requires t c =
    let both = (subst (λ (k : Kind). kind_unambiguous c.args.nodes.now c.in-Some.node.now.tags k ≡ true) c.in-Choice.is (node_told c.args.nodes.now c.args.of c.in-Some.node.now c.requires c.in-Some.ensures.some)) in
    let told : arms_unambiguous c.args.nodes.now c.deref-in-Choice.result.now ≡ true =
    subst (λ (z : List ℕ). arms_unambiguous c.args.nodes.now z ≡ true) (sym c.deref-in-Choice.ensures.value)
    (first_holds (arms_unambiguous c.args.nodes.now c.in-Choice.arms.items) (arms_included c.args.nodes.now c.in-Some.node.now.tags c.in-Choice.arms.items) both) in
    let order : all_before c.args.of c.deref-in-Choice.result.now ≡ true =
    subst (λ (z : List ℕ). all_before c.args.of z ≡ true) (sym c.deref-in-Choice.ensures.value)
    (order_of c.args.nodes.now c.args.of c.in-Some.node.now c.in-Choice.arms c.requires c.in-Some.ensures.some c.in-Choice.is) in
    let within : c.args.of < length c.args.nodes.now = slice_get_within c.args.nodes.now c.args.of c.in-Some.node.now c.in-Some.ensures.some in
    search rules

pub read_body-returns-in-Sequence-clause-value : goal.read_body-returns-in-Sequence-clause-value
read_body-returns-in-Sequence-clause-value t c = λ d h. let l = least c.args.depth c.read_row.result d h in reads_up (rules_of c.args.coding) c.args.nodes.now d c.args.of (head_parts c.args.head c.args.content.now) c.in-Some.node.now (kinds.Sequence c.in-Sequence.fields c.in-Sequence.unknown) c.args.tape.now.items c.read_row.new.tape.items c.read_row.result (grind (arith, c.if-depth-eq0.false, l)) c.in-Some.ensures.some (sym c.if-not-has_a_tag.ensures) c.in-Sequence.is
    (subst (λ (z : List Field). ReadsValue (IsRowOf c.args.coding c.args.nodes.now (d - 1) c.in-Sequence.unknown z c.args.head.constructed c.args.content.now)
    c.args.tape.now.items c.read_row.new.tape.items c.read_row.result) c.deref.ensures.value (c.read_row.ensures.value (d - 1) (within c.args.depth c.read_row.result d (grind (arith, c.if-depth-eq0.false)) h)))

pub read_body-returns-in-SequenceOf-clause-value : goal.read_body-returns-in-SequenceOf-clause-value
read_body-returns-in-SequenceOf-clause-value t c = λ d h. let l = least c.args.depth c.read_row-in-SequenceOf.result d h in reads_up (rules_of c.args.coding) c.args.nodes.now d c.args.of (head_parts c.args.head c.args.content.now) c.in-Some.node.now (kinds.SequenceOf c.in-SequenceOf.inner) c.args.tape.now.items c.read_row-in-SequenceOf.new.tape.items c.read_row-in-SequenceOf.result (grind (arith, c.if-depth-eq0.false, l)) c.in-Some.ensures.some (sym c.if-not-has_a_tag.ensures) c.in-SequenceOf.is
    (c.read_row-in-SequenceOf.ensures.value (d - 1) (within c.args.depth c.read_row-in-SequenceOf.result d (grind (arith, c.if-depth-eq0.false)) h))

pub read_body-returns-in-SetOf-clause-value : goal.read_body-returns-in-SetOf-clause-value
read_body-returns-in-SetOf-clause-value t c = λ d h. let l = least c.args.depth c.read_row-in-SetOf.result d h in reads_up (rules_of c.args.coding) c.args.nodes.now d c.args.of (head_parts c.args.head c.args.content.now) c.in-Some.node.now (kinds.SetOf c.in-SetOf.inner) c.args.tape.now.items c.read_row-in-SetOf.new.tape.items c.read_row-in-SetOf.result (grind (arith, c.if-depth-eq0.false, l)) c.in-Some.ensures.some (sym c.if-not-has_a_tag.ensures) c.in-SetOf.is
    (set_read c.args.coding (IsBody c.args.coding c.args.nodes.now (d - 1) c.in-SetOf.inner)
    c.args.head.constructed c.args.content.now c.args.tape.now.items c.read_row-in-SetOf.new.tape.items c.read_row-in-SetOf.result (c.read_row-in-SetOf.ensures.value (d - 1) (within c.args.depth c.read_row-in-SetOf.result d (grind (arith, c.if-depth-eq0.false)) h)))

pub read_body-returns-in-Choice-clause-value : goal.read_body-returns-in-Choice-clause-value
read_body-returns-in-Choice-clause-value t c = λ d h. let l = least c.args.depth c.read_choice.result d h in choice_read (rules_of c.args.coding) (lawful_of c.args.coding) c.args.nodes.now c.requires d c.args.of c.in-Some.node.now c.in-Choice.arms c.in-Some.ensures.some c.in-Choice.is (head_parts c.args.head c.args.content.now)
    c.args.tape.now.items c.read_choice.new.tape.items c.read_choice.result
    (subst (λ (z : List ℕ). ReadsValue (IsArmOf c.args.coding c.args.nodes.now d z (head_parts c.args.head c.args.content.now)) c.args.tape.now.items c.read_choice.new.tape.items c.read_choice.result)
    c.deref-in-Choice.ensures.value (c.read_choice.ensures.value d h))

pub read_body-returns-then-not-head-clause-value : goal.read_body-returns-then-not-head-clause-value
read_body-returns-then-not-head-clause-value t c = λ d h. kind_refused (rules_of c.args.coding) c.args.nodes.now d c.args.of (head_parts c.args.head c.args.content.now) c.in-Some.node.now (kinds.Explicit c.in-Explicit.inner) c.in-Some.ensures.some c.in-Explicit.is
    (λ v b. let y = not-true c.args.head.constructed c.if-not-head.true in let z = b.0 in cc)

pub read_body-returns-else-not-head-clause-value : goal.read_body-returns-else-not-head-clause-value
read_body-returns-else-not-head-clause-value t c = λ d h. let l = least c.args.depth c.read_whole.result d h in reads_up (rules_of c.args.coding) c.args.nodes.now d c.args.of (head_parts c.args.head c.args.content.now) c.in-Some.node.now (kinds.Explicit c.in-Explicit.inner) c.args.tape.now.items c.read_whole.new.tape.items c.read_whole.result (grind (arith, c.if-depth-eq0.false, l)) c.in-Some.ensures.some (sym c.if-not-has_a_tag.ensures) c.in-Explicit.is
    (explicit_read (rules_of c.args.coding) (lawful_of c.args.coding) (IsBody c.args.coding c.args.nodes.now (d - 1) c.in-Explicit.inner)
    c.args.head.constructed c.args.content.now c.args.tape.now.items c.read_whole.new.tape.items c.read_whole.result
    (not-false c.args.head.constructed c.if-not-head.false) (c.read_whole.ensures.value (d - 1) (within c.args.depth c.read_whole.result d (grind (arith, c.if-depth-eq0.false)) h)))

pub read_body-returns-in-Boolean-clause-value : goal.read_body-returns-in-Boolean-clause-value
read_body-returns-in-Boolean-clause-value t c = λ d h.
    let l = least c.args.depth c.put_leaf.result d h in
    leaf_up (rules_of c.args.coding) c.args.nodes.now d c.args.of (head_parts c.args.head c.args.content.now) c.in-Some.node.now
    kinds.Boolean c.boolean_item.result c.args.tape.now.items c.put_leaf.new.tape.items c.put_leaf.result
    (grind (arith, c.if-depth-eq0.false, l)) c.in-Some.ensures.some (sym c.if-not-has_a_tag.ensures) c.in-Boolean.is
    (c.boolean_item.ensures c.args.nodes.now (d - 1) c.args.of) c.put_leaf.ensures.put c.put_leaf.ensures.refused

pub read_body-returns-in-Null-clause-value : goal.read_body-returns-in-Null-clause-value
read_body-returns-in-Null-clause-value t c = λ d h.
    let l = least c.args.depth c.put_leaf-in-Null.result d h in
    leaf_up (rules_of c.args.coding) c.args.nodes.now d c.args.of (head_parts c.args.head c.args.content.now) c.in-Some.node.now
    kinds.Null c.null_item.result c.args.tape.now.items c.put_leaf-in-Null.new.tape.items c.put_leaf-in-Null.result
    (grind (arith, c.if-depth-eq0.false, l)) c.in-Some.ensures.some (sym c.if-not-has_a_tag.ensures) c.in-Null.is
    (c.null_item.ensures c.args.nodes.now (d - 1) c.args.of) c.put_leaf-in-Null.ensures.put c.put_leaf-in-Null.ensures.refused

pub read_body-returns-in-Integer-clause-value : goal.read_body-returns-in-Integer-clause-value
read_body-returns-in-Integer-clause-value t c = λ d h.
    let l = least c.args.depth c.put_leaf-in-Integer.result d h in
    leaf_up (rules_of c.args.coding) c.args.nodes.now d c.args.of (head_parts c.args.head c.args.content.now) c.in-Some.node.now
    kinds.Integer c.integer_item.result c.args.tape.now.items c.put_leaf-in-Integer.new.tape.items c.put_leaf-in-Integer.result
    (grind (arith, c.if-depth-eq0.false, l)) c.in-Some.ensures.some (sym c.if-not-has_a_tag.ensures) c.in-Integer.is
    (c.integer_item.ensures c.args.nodes.now (d - 1) c.args.of) c.put_leaf-in-Integer.ensures.put c.put_leaf-in-Integer.ensures.refused

pub read_body-returns-in-Enumerated-clause-value : goal.read_body-returns-in-Enumerated-clause-value
read_body-returns-in-Enumerated-clause-value t c = λ d h.
    let l = least c.args.depth c.put_leaf-in-Enumerated.result d h in
    leaf_up (rules_of c.args.coding) c.args.nodes.now d c.args.of (head_parts c.args.head c.args.content.now) c.in-Some.node.now
    (kinds.Enumerated c.in-Enumerated.numbers c.in-Enumerated.extensible) c.enumerated_item.result c.args.tape.now.items c.put_leaf-in-Enumerated.new.tape.items c.put_leaf-in-Enumerated.result
    (grind (arith, c.if-depth-eq0.false, l)) c.in-Some.ensures.some (sym c.if-not-has_a_tag.ensures) c.in-Enumerated.is
    (subst (λ (z : List ℤ). Judges (IsListed z c.in-Enumerated.extensible (head_parts c.args.head c.args.content.now))
    c.enumerated_item.result) c.deref-in-Enumerated.ensures.value c.enumerated_item.ensures) c.put_leaf-in-Enumerated.ensures.put c.put_leaf-in-Enumerated.ensures.refused

pub read_body-returns-in-Identifier-clause-value : goal.read_body-returns-in-Identifier-clause-value
read_body-returns-in-Identifier-clause-value t c = λ d h.
    let l = least c.args.depth c.put_leaf-in-Identifier.result d h in
    leaf_up (rules_of c.args.coding) c.args.nodes.now d c.args.of (head_parts c.args.head c.args.content.now) c.in-Some.node.now
    (kinds.Identifier c.in-Identifier.relative) c.identifier_item.result c.args.tape.now.items c.put_leaf-in-Identifier.new.tape.items c.put_leaf-in-Identifier.result
    (grind (arith, c.if-depth-eq0.false, l)) c.in-Some.ensures.some (sym c.if-not-has_a_tag.ensures) c.in-Identifier.is
    (c.identifier_item.ensures c.args.nodes.now (d - 1) c.args.of) c.put_leaf-in-Identifier.ensures.put c.put_leaf-in-Identifier.ensures.refused

pub read_body-returns-in-Octets-clause-value : goal.read_body-returns-in-Octets-clause-value
read_body-returns-in-Octets-clause-value t c = λ d h. let l = least c.args.depth c.read_string.result d h in
    let p = head_parts c.args.head c.args.content.now in
    reads_up (rules_of c.args.coding) c.args.nodes.now d c.args.of p c.in-Some.node.now kinds.Octets c.args.tape.now.items c.read_string.new.tape.items c.read_string.result (grind (arith, c.if-depth-eq0.false, l)) c.in-Some.ensures.some (sym c.if-not-has_a_tag.ensures) c.in-Octets.is
    (reads_map (IsStringOf c.args.coding sorts.Octets (d - 1) p) (IsOfKind c.args.coding c.args.nodes.now (d - 1) c.args.of kinds.Octets p)
    (λ v a. (a.0, a.1, a.2)) (λ v a. (a.0, a.1, a.2, tt)) c.args.tape.now.items c.read_string.new.tape.items c.read_string.result (c.read_string.ensures (d - 1) (within c.args.depth c.read_string.result d (grind (arith, c.if-depth-eq0.false)) h)))

pub read_body-returns-in-Text-clause-value : goal.read_body-returns-in-Text-clause-value
read_body-returns-in-Text-clause-value t c = λ d h. let l = least c.args.depth c.read_string-in-Text.result d h in reads_up (rules_of c.args.coding) c.args.nodes.now d c.args.of (head_parts c.args.head c.args.content.now) c.in-Some.node.now (kinds.Text c.in-Text.kind) c.args.tape.now.items c.read_string-in-Text.new.tape.items c.read_string-in-Text.result (grind (arith, c.if-depth-eq0.false, l)) c.in-Some.ensures.some (sym c.if-not-has_a_tag.ensures) c.in-Text.is
    (c.read_string-in-Text.ensures (d - 1) (within c.args.depth c.read_string-in-Text.result d (grind (arith, c.if-depth-eq0.false)) h))

pub read_body-returns-in-Time-clause-value : goal.read_body-returns-in-Time-clause-value
read_body-returns-in-Time-clause-value t c = λ d h. let l = least c.args.depth c.read_string-in-Time.result d h in reads_up (rules_of c.args.coding) c.args.nodes.now d c.args.of (head_parts c.args.head c.args.content.now) c.in-Some.node.now (kinds.Time c.in-Time.kind) c.args.tape.now.items c.read_string-in-Time.new.tape.items c.read_string-in-Time.result (grind (arith, c.if-depth-eq0.false, l)) c.in-Some.ensures.some (sym c.if-not-has_a_tag.ensures) c.in-Time.is
    (c.read_string-in-Time.ensures (d - 1) (within c.args.depth c.read_string-in-Time.result d (grind (arith, c.if-depth-eq0.false)) h))

pub read_body-returns-in-Bits-clause-value : goal.read_body-returns-in-Bits-clause-value
read_body-returns-in-Bits-clause-value t c = λ d h. let l = least c.args.depth c.read_bits.result d h in reads_up (rules_of c.args.coding) c.args.nodes.now d c.args.of (head_parts c.args.head c.args.content.now) c.in-Some.node.now (kinds.Bits c.in-Bits.named) c.args.tape.now.items c.read_bits.new.tape.items c.read_bits.result (grind (arith, c.if-depth-eq0.false, l)) c.in-Some.ensures.some (sym c.if-not-has_a_tag.ensures) c.in-Bits.is
    (c.read_bits.ensures c.args.nodes.now c.args.of (d - 1) (within c.args.depth c.read_bits.result d (grind (arith, c.if-depth-eq0.false)) h))

pub read_body-read_body-requires : goal.read_body-read_body-requires
read_body-read_body-requires t c =
    let b : c.in-Within.inner < c.args.of = (bounds_order c.args.nodes.now c.args.of c.in-Within.inner c.in-Within.lower c.in-Within.upper c.in-Some.node.now c.requires c.in-Some.ensures.some c.in-Within.is) in
    let within : c.args.of < length c.args.nodes.now = slice_get_within c.args.nodes.now c.args.of c.in-Some.node.now c.in-Some.ensures.some in
    search rules

pub read_body-returns-in-Ok-read_body-clause-value : goal.read_body-returns-in-Ok-read_body-clause-value
read_body-returns-in-Ok-read_body-clause-value t c = λ d h. let l = least c.args.depth c.judge_bounds.result d h in reads_up (rules_of c.args.coding) c.args.nodes.now {T = Unit {0}} d c.args.of (head_parts c.args.head c.args.content.now) c.in-Some.node.now (kinds.Within c.in-Within.inner c.in-Within.lower c.in-Within.upper) c.args.tape.now.items c.read_body.new.tape.items c.judge_bounds.result (grind (arith, c.if-depth-eq0.false, l)) c.in-Some.ensures.some (sym c.if-not-has_a_tag.ensures) c.in-Within.is
    (within_read (rules_of c.args.coding) (lawful_of c.args.coding) c.args.nodes.now c.requires {T = Unit {0}} d c.args.of c.in-Within.inner c.in-Within.lower c.in-Within.upper (head_parts c.args.head c.args.content.now) c.args.tape.now.items c.read_body.new.tape.items c.judge_bounds.result (grind (arith, c.if-depth-eq0.false, l)) (bounds_order c.args.nodes.now c.args.of c.in-Within.inner c.in-Within.lower c.in-Within.upper c.in-Some.node.now c.requires c.in-Some.ensures.some c.in-Within.is)
    (within_judged (rules_of c.args.coding) (lawful_of c.args.coding) c.args.nodes.now c.requires d c.in-Within.inner c.in-Within.lower c.in-Within.upper (head_parts c.args.head c.args.content.now) c.args.tape.now.items
    c.read_body.new.tape.items c.judge_bounds.result (c.in-Ok-read_body.ensures.value d l)
    (c.judge_bounds.ensures (marks c.args.tape.now.items) (c.in-Ok-read_body.ensures.value d l).kept
    (subst (λ (z : List Item). marks z ≡ marks c.args.tape.now.items ++ tape_of (c.in-Ok-read_body.ensures.value d l).kept) (sym c.deref-in-Ok-read_body.ensures.value) (c.in-Ok-read_body.ensures.value d l).is)
    (let m = length-map c.args.tape.now.items mark in omega (arith, c.len-place.ensures, m)))))

pub read_body-returns-in-Err-read_body-clause-value : goal.read_body-returns-in-Err-read_body-clause-value
read_body-returns-in-Err-read_body-clause-value t c = λ d h. let l = fault_least c.args.depth c.in-Err-read_body.e d h in reads_up (rules_of c.args.coding) c.args.nodes.now {T = Unit {0}} d c.args.of (head_parts c.args.head c.args.content.now) c.in-Some.node.now (kinds.Within c.in-Within.inner c.in-Within.lower c.in-Within.upper) c.args.tape.now.items c.read_body.new.tape.items (Err c.in-Err-read_body.e) (grind (arith, c.if-depth-eq0.false, l)) c.in-Some.ensures.some (sym c.if-not-has_a_tag.ensures) c.in-Within.is
    (within_read (rules_of c.args.coding) (lawful_of c.args.coding) c.args.nodes.now c.requires {T = Unit {0}} d c.args.of c.in-Within.inner c.in-Within.lower c.in-Within.upper (head_parts c.args.head c.args.content.now) c.args.tape.now.items c.read_body.new.tape.items (Err c.in-Err-read_body.e) (grind (arith, c.if-depth-eq0.false, l)) (bounds_order c.args.nodes.now c.args.of c.in-Within.inner c.in-Within.lower c.in-Within.upper c.in-Some.node.now c.requires c.in-Some.ensures.some c.in-Within.is)
    (bounds_refused (Unit {0}) (Unit {0}) (IsBody c.args.coding c.args.nodes.now d c.in-Within.inner (head_parts c.args.head c.args.content.now)) c.in-Within.lower c.in-Within.upper c.args.tape.now.items c.read_body.new.tape.items c.read_body.new.tape.items c.in-Err-read_body.e (c.in-Err-read_body.ensures.value d h)))

pub read_body-returns-in-Ok-clause-value : goal.read_body-returns-in-Ok-clause-value
read_body-returns-in-Ok-clause-value t c = λ d h. let l = least c.args.depth c.put_item.result d h in reads_up (rules_of c.args.coding) c.args.nodes.now d c.args.of (head_parts c.args.head c.args.content.now) c.in-Some.node.now kinds.Any c.args.tape.now.items c.put_item.new.tape.items c.put_item.result (grind (arith, c.if-depth-eq0.false, l)) c.in-Some.ensures.some (sym c.if-not-has_a_tag.ensures) c.in-Any.is
    (leaf_read (IsOfKind c.args.coding c.args.nodes.now (d - 1) c.args.of kinds.Any (head_parts c.args.head c.args.content.now)) c.args.tape.now.items c.put_item.new.tape.items c.in-Ok.item c.put_item.result (c.in-Ok.ensures c.args.nodes.now c.args.of (d - 1) (omega (arith, l))) c.put_item.ensures.ok c.put_item.ensures.err)

pub read_body-returns-in-Err-clause-value : goal.read_body-returns-in-Err-clause-value
read_body-returns-in-Err-clause-value t c = λ d h. let l = fault_least c.args.depth c.in-Err.e d h in reads_up (rules_of c.args.coding) c.args.nodes.now {T = Unit {0}} d c.args.of (head_parts c.args.head c.args.content.now) c.in-Some.node.now kinds.Any c.args.tape.now.items c.args.tape.now.items (Err c.in-Err.e) (grind (arith, c.if-depth-eq0.false, l)) c.in-Some.ensures.some (sym c.if-not-has_a_tag.ensures) c.in-Any.is (no_leaf (Unit {0}) (IsOfKind c.args.coding c.args.nodes.now (d - 1) c.args.of kinds.Any (head_parts c.args.head c.args.content.now)) c.args.tape.now.items c.in-Err.e (c.in-Err.ensures c.args.nodes.now c.args.of (d - 1) (fault_within c.args.depth c.in-Err.e d (grind (arith, c.if-depth-eq0.false)) h)))

pub read_choice-returns-in_default-clause-value : goal.read_choice-returns-in_default-clause-value
read_choice-returns-in_default-clause-value t c = λ d h. no_arm (rules_of c.args.coding) (lawful_of c.args.coding) c.args.nodes.now d c.args.arms.now (head_parts c.args.head c.args.content.now) c.in_default.ensures.none

pub read_choice-read_body-requires : goal.read_choice-read_body-requires
read_choice-read_body-requires t c =
    let b : c.in-Some.arm < c.args.of = arm_before c.args.of c.args.arms.now c.in-Some.k c.in-Some.arm c.requires.order c.in-Some.ensures.some.0 in
    search rules

pub read_choice-returns-in-Err-read_body-clause-value : goal.read_choice-returns-in-Err-read_body-clause-value
read_choice-returns-in-Err-read_body-clause-value t c = λ d h. arm_refused (rules_of c.args.coding) (lawful_of c.args.coding) c.args.nodes.now d c.args.arms.now (Unit {0}) (Unit {0}) (head_parts c.args.head c.args.content.now) c.in-Some.k c.in-Some.arm c.args.tape.now.items c.put_item.new.tape.items
    c.read_body.new.tape.items c.read_body.new.tape.items c.in-Err-read_body.e c.requires.told c.in-Some.ensures.some.0 c.in-Some.ensures.some.1 (c.in-Err-read_body.ensures.value d h)

pub read_choice-returns-in-Ok-read_body-clause-value : goal.read_choice-returns-in-Ok-read_body-clause-value
read_choice-returns-in-Ok-read_body-clause-value t c = λ d h. arm_read (rules_of c.args.coding) (lawful_of c.args.coding) c.args.nodes.now d c.args.arms.now (head_parts c.args.head c.args.content.now) c.in-Some.k c.in-Some.arm c.args.tape.now.items c.put_item.new.tape.items
    c.read_body.new.tape.items c.put_item-in-Ok-read_body.new.tape.items c.put_item-in-Ok-read_body.result c.in-Some.ensures.some.0 c.in-Ok.ensures.ok
    (c.in-Ok-read_body.ensures.value d (least c.args.depth c.put_item-in-Ok-read_body.result d h)) c.put_item-in-Ok-read_body.ensures.ok c.put_item-in-Ok-read_body.ensures.err

pub read_front-returns-in_default-clause-value : goal.read_front-returns-in_default-clause-value
read_front-returns-in_default-clause-value t c = λ d h. no_element (rules_of c.args.coding) (lawful_of c.args.coding) (IsBody c.args.coding c.args.nodes.now d c.args.of) c.args.octets.now c.in_default.ensures.none

pub read_front-returns-in-Err-clause-value : goal.read_front-returns-in-Err-clause-value
read_front-returns-in-Err-clause-value t c = λ d h. front_refused (rules_of c.args.coding) (lawful_of c.args.coding) (IsBody c.args.coding c.args.nodes.now d c.args.of) (Unit {0}) c.args.octets.now c.in-Some.rest.now (head_parts c.in-Some.head c.in-Some.content.now) c.args.tape.now.items c.read_body.new.tape.items c.read_body.new.tape.items c.in-Err.e c.in-Some.ensures.some (c.in-Err.ensures.value d h)

pub read_front-returns-in-Ok-clause-value : goal.read_front-returns-in-Ok-clause-value
read_front-returns-in-Ok-clause-value t c = λ d h. front_read (rules_of c.args.coding) (lawful_of c.args.coding) (IsBody c.args.coding c.args.nodes.now d c.args.of) c.args.octets.now c.in-Some.rest.now (head_parts c.in-Some.head c.in-Some.content.now) c.args.tape.now.items c.read_body.new.tape.items c.in-Some.ensures.some (c.in-Ok.ensures.value d h)

pub read_front-returns-in-Ok-clause-shorter : goal.read_front-returns-in-Ok-clause-shorter
read_front-returns-in-Ok-clause-shorter t c = front_shorter (rules_of c.args.coding) (lawful_of c.args.coding) (IsBody c.args.coding c.args.nodes.now c.args.depth c.args.of) c.args.octets.now c.in-Some.rest.now (head_parts c.in-Some.head c.in-Some.content.now) c.in-Some.ensures.some

pub read_whole-returns-then-not-is_at_end-clause-value : goal.read_whole-returns-then-not-is_at_end-clause-value
read_whole-returns-then-not-is_at_end-clause-value t c = λ d h v b. not_whole (rules_of c.args.coding) (lawful_of c.args.coding) (IsBody c.args.coding c.args.nodes.now d c.args.of) c.args.octets.now c.in-Ok.rest.now c.args.tape.now.items c.read_front.new.tape.items
    (λ e. let f = c.if-not-is_at_end.ensures.no e in absurd (cc)) (c.in-Ok.ensures.value d h) v b

pub read_whole-returns-else-not-is_at_end-clause-value : goal.read_whole-returns-else-not-is_at_end-clause-value
read_whole-returns-else-not-is_at_end-clause-value t c = λ d h. whole_read (rules_of c.args.coding) (lawful_of c.args.coding) (IsBody c.args.coding c.args.nodes.now d c.args.of) c.args.octets.now c.in-Ok.rest.now c.args.tape.now.items c.read_front.new.tape.items (c.if-not-is_at_end.ensures.yes refl) (c.in-Ok.ensures.value d h)

pub read_whole-returns-in-Err-clause-value : goal.read_whole-returns-in-Err-clause-value
read_whole-returns-in-Err-clause-value t c = λ d h. whole_refused (rules_of c.args.coding) (lawful_of c.args.coding) (IsBody c.args.coding c.args.nodes.now d c.args.of) (Unit {0}) c.args.octets.now c.args.tape.now.items c.read_front.new.tape.items c.read_front.new.tape.items c.in-Err.e (c.in-Err.ensures.value d h)

pub read_row-returns-in-Ok-read_fields-clause-value : goal.read_row-returns-in-Ok-read_fields-clause-value
read_row-returns-in-Ok-read_fields-clause-value t c = λ d h. row_read c.args.constructed (AreFieldsOf c.args.coding c.args.nodes.now d c.args.unknown c.args.fields.now c.args.octets.now) c.args.tape.now.items c.open_row.new.tape.items c.read_fields.new.tape.items c.close_row.new.tape.items c.in-Ok.place c.close_row.result
    c.if-not-constructed.false c.in-Ok.ensures.place c.in-Ok.ensures.pushed (c.in-Ok-read_fields.ensures.value d (least c.args.depth c.close_row.result d h)) c.close_row.ensures.closed c.close_row.ensures.err

pub read_row-returns-in-Err-read_fields-clause-value : goal.read_row-returns-in-Err-read_fields-clause-value
read_row-returns-in-Err-read_fields-clause-value t c = λ d h. row_refused (Unit {0}) (Unit {0}) c.args.constructed (AreFieldsOf c.args.coding c.args.nodes.now d c.args.unknown c.args.fields.now c.args.octets.now) c.args.tape.now.items c.open_row.new.tape.items c.read_fields.new.tape.items c.read_fields.new.tape.items c.in-Err-read_fields.e (c.in-Err-read_fields.ensures.value d h)

pub read_items-loop-rest-init : goal.read_items-loop-rest-init
read_items-loop-rest-init t c = λ d l. nothing_yet (AreItemsOf c.args.coding c.args.nodes.now d c.args.of c.args.octets.now) c.args.tape.now.items

pub read_items-returns-in-Err-clause-value : goal.read_items-returns-in-Err-clause-value
read_items-returns-in-Err-clause-value t c = λ d h. items_refused (rules_of c.args.coding) (lawful_of c.args.coding) (IsBody c.args.coding c.args.nodes.now d c.args.of) (Unit {0}) (AreItemsOf c.args.coding c.args.nodes.now d c.args.of c.args.octets.now) c.loop-rest.rest.now c.args.tape.now.items c.loop-rest.tape.items c.read_front.new.tape.items c.in-Err.e
    (λ e. let f = c.loop-rest-test.ensures.no e in absurd (cc)) (c.loop-rest.invariant d (fault_least c.args.depth c.in-Err.e d h)) (c.in-Err.ensures.value d h)

pub read_items-loop-rest-preserved : goal.read_items-loop-rest-preserved
read_items-loop-rest-preserved t c = λ d l. item_more (rules_of c.args.coding) (lawful_of c.args.coding) (IsBody c.args.coding c.args.nodes.now d c.args.of) (AreItemsOf c.args.coding c.args.nodes.now d c.args.of c.args.octets.now) c.loop-rest.rest.now c.in-Ok.tail.now c.args.tape.now.items c.loop-rest.tape.items c.read_front.new.tape.items
    (c.loop-rest.invariant d l) (c.in-Ok.ensures.value d l)

pub read_items-returns-clause-value : goal.read_items-returns-clause-value
read_items-returns-clause-value t c = λ d h. items_done (rules_of c.args.coding) (lawful_of c.args.coding) (IsBody c.args.coding c.args.nodes.now d c.args.of) (AreItemsOf c.args.coding c.args.nodes.now d c.args.of c.args.octets.now) c.loop-rest.rest.now c.args.tape.now.items c.loop-rest.tape.items (c.loop-rest-test.ensures.yes refl) (c.loop-rest.invariant d h)

pub read_fields-loop-field-init : goal.read_fields-loop-field-init
read_fields-loop-field-init t c = record { done = []; parts = refl; told = c.requires.told; so_far = λ d l. nothing_yet (AreFieldsOf c.args.coding c.args.nodes.now d c.args.unknown c.args.fields.now c.args.octets.now) c.args.tape.now.items }

pub read_fields-returns-in-Err-clause-value : goal.read_fields-returns-in-Err-clause-value
read_fields-returns-in-Err-clause-value t c = λ d h. fields_refused (rules_of c.args.coding) (lawful_of c.args.coding) c.args.nodes.now (IsBody c.args.coding c.args.nodes.now d) (tag_of_body (rules_of c.args.coding) (lawful_of c.args.coding) c.args.nodes.now d) (Unit {0}) c.args.unknown (AreFieldsOf c.args.coding c.args.nodes.now d c.args.unknown c.args.fields.now c.args.octets.now) c.loop-field.left.now c.in-Some.field.now c.in-Some.others.now c.loop-field.rest.now
    c.args.tape.now.items c.loop-field.tape.items c.read_field.new.tape.items c.in-Err.e c.in-Some.ensures.cases.0 c.loop-field.invariant.told (c.loop-field.invariant.so_far d (fault_least c.args.depth c.in-Err.e d h)) (c.in-Err.ensures.value d h)

pub read_fields-loop-field-preserved : goal.read_fields-loop-field-preserved
read_fields-loop-field-preserved t c = record {
  done = c.loop-field.invariant.done ++ c.in-Some.field.now ∷ [];
  parts = (c.loop-field.invariant.parts ∙ ap (λ (z : List Field). c.loop-field.invariant.done ++ z) c.in-Some.ensures.cases.0)
      ∙ sym (append_assoc c.loop-field.invariant.done (c.in-Some.field.now ∷ []) c.in-Some.others.now);
  told = second_holds (not (may_be_left_out c.in-Some.field.now.presence) || field_unambiguous false c.args.nodes.now c.args.unknown (node_at c.args.nodes.now c.in-Some.field.now.of) c.in-Some.others.now)
      (fields_unambiguous false c.args.nodes.now c.args.unknown c.in-Some.others.now)
      (subst (λ (z : List Field). fields_unambiguous false c.args.nodes.now c.args.unknown z ≡ true) c.in-Some.ensures.cases.0 c.loop-field.invariant.told);
  so_far = λ d l. fields_further (rules_of c.args.coding) (lawful_of c.args.coding) c.args.nodes.now (IsBody c.args.coding c.args.nodes.now d) (tag_of_body (rules_of c.args.coding) (lawful_of c.args.coding) c.args.nodes.now d) (written_of c.args.coding) c.args.unknown (AreFieldsOf c.args.coding c.args.nodes.now d c.args.unknown c.args.fields.now c.args.octets.now) c.loop-field.left.now c.in-Some.field.now c.in-Some.others.now
      c.loop-field.rest.now c.in-Ok.tail.now c.args.tape.now.items c.loop-field.tape.items c.read_field.new.tape.items c.in-Some.ensures.cases.0 c.loop-field.invariant.told
      (c.loop-field.invariant.so_far d l) (c.in-Ok.ensures.value d l);
}

pub read_fields-returns-clause-value : goal.read_fields-returns-clause-value
read_fields-returns-clause-value t c = λ d h. fields_ended (rules_of c.args.coding) (lawful_of c.args.coding) c.args.nodes.now (IsBody c.args.coding c.args.nodes.now d) (tag_of_body (rules_of c.args.coding) (lawful_of c.args.coding) c.args.nodes.now d) c.args.unknown
    (AreFieldsOf c.args.coding c.args.nodes.now d c.args.unknown c.args.fields.now c.args.octets.now) c.loop-field.left.now c.loop-field.rest.now
    c.args.tape.now.items c.loop-field.tape.items c.read_behind.new.tape.items c.read_behind.result
    (nil_from_length c.loop-field.left.now c.in_default.ensures.cases)
    (c.loop-field.invariant.so_far d (least c.args.depth c.read_behind.result d h)) (c.read_behind.ensures.value d h)

pub read_behind-returns-in-Some-clause-value : goal.read_behind-returns-in-Some-clause-value
read_behind-returns-in-Some-clause-value t c = λ d h.
    subst (λ (z : Option ℕ). ReadsValues (AreUnknown (rules_of c.args.coding) (IsBody c.args.coding c.args.nodes.now d) z c.args.octets.now) c.args.tape.now.items c.read_items.new.tape.items c.read_items.result)
    (sym c.in-Some.is) (c.read_items.ensures.value d h)

pub read_behind-returns-then-not-is_at_end-clause-value : goal.read_behind-returns-then-not-is_at_end-clause-value
read_behind-returns-then-not-is_at_end-clause-value t c = λ d h. some_behind (rules_of c.args.coding) (lawful_of c.args.coding) c.args.nodes.now (IsBody c.args.coding c.args.nodes.now d) (tag_of_body (rules_of c.args.coding) (lawful_of c.args.coding) c.args.nodes.now d) c.args.unknown c.args.octets.now c.in-None.is
    (λ e. let f = c.if-not-is_at_end.ensures.no e in absurd (cc))

pub read_behind-returns-else-not-is_at_end-clause-value : goal.read_behind-returns-else-not-is_at_end-clause-value
read_behind-returns-else-not-is_at_end-clause-value t c = λ d h. none_behind (rules_of c.args.coding) (lawful_of c.args.coding) c.args.nodes.now (IsBody c.args.coding c.args.nodes.now d) (tag_of_body (rules_of c.args.coding) (lawful_of c.args.coding) c.args.nodes.now d) c.args.unknown c.args.octets.now c.args.tape.now.items c.in-None.is
    (c.if-not-is_at_end.ensures.yes refl)

pub read_field-returns-in-Err-clause-value : goal.read_field-returns-in-Err-clause-value
read_field-returns-in-Err-clause-value t c = λ d h. field_refused (rules_of c.args.coding) (lawful_of c.args.coding) c.args.nodes.now (IsBody c.args.coding c.args.nodes.now d) (tag_of_body (rules_of c.args.coding) (lawful_of c.args.coding) c.args.nodes.now d) (Unit {0}) c.args.field.now.presence c.args.field.now.of c.args.octets.now c.in-Some.rest.now (head_parts c.in-Some.head c.in-Some.content.now) c.args.tape.now.items c.read_body.new.tape.items c.read_body.new.tape.items c.in-Err.e
    c.in-Some.ensures.some c.in-Some.ensures.tagged (c.in-Err.ensures.value d h)

pub read_field-returns-in-Ok-clause-value : goal.read_field-returns-in-Ok-clause-value
read_field-returns-in-Ok-clause-value t c = λ d h. field_there (rules_of c.args.coding) (lawful_of c.args.coding) c.args.nodes.now (IsBody c.args.coding c.args.nodes.now d) (tag_of_body (rules_of c.args.coding) (lawful_of c.args.coding) c.args.nodes.now d) c.args.field.now.presence c.args.field.now.of c.args.octets.now c.in-Some.rest.now (head_parts c.in-Some.head c.in-Some.content.now) c.args.tape.now.items c.read_body.new.tape.items c.in-Some.ensures.some (c.in-Ok.ensures.value d h)

pub read_field-returns-in-Ok-read_left_out-clause-value : goal.read_field-returns-in-Ok-read_left_out-clause-value
read_field-returns-in-Ok-read_left_out-clause-value t c = λ d h. inr (record {
  stays = refl;
  left = c.in-Ok-read_left_out.ensures.value d h;
  none = no_tag (rules_of c.args.coding) (lawful_of c.args.coding) c.args.nodes.now (IsBody c.args.coding c.args.nodes.now d) (tag_of_body (rules_of c.args.coding) (lawful_of c.args.coding) c.args.nodes.now d) c.args.field.now.of c.args.octets.now c.in_default.ensures.none;
})

pub read_field-returns-in-Err-read_left_out-clause-value : goal.read_field-returns-in-Err-read_left_out-clause-value
read_field-returns-in-Err-read_left_out-clause-value t c = λ d h.
    field_away (rules_of c.args.coding) (lawful_of c.args.coding) c.args.nodes.now (IsBody c.args.coding c.args.nodes.now d) (tag_of_body (rules_of c.args.coding) (lawful_of c.args.coding) c.args.nodes.now d)
    c.args.field.now.presence c.args.field.now.of c.args.octets.now c.in-Err-read_left_out.e c.in_default.ensures.none
    (c.in-Err-read_left_out.ensures.value d h)

pub read_left_out-returns-in-Required-clause-value : goal.read_left_out-returns-in-Required-clause-value
read_left_out-returns-in-Required-clause-value t c = λ d h. subst (MayNot (rules_of c.args.coding) ((IsBody c.args.coding c.args.nodes.now d) c.args.field.now.of)) (sym c.in-Required.is) tt

pub read_left_out-returns-in-Optional-clause-value : goal.read_left_out-returns-in-Optional-clause-value
read_left_out-returns-in-Optional-clause-value t c = λ d h. left_absent (rules_of c.args.coding) ((IsBody c.args.coding c.args.nodes.now d) c.args.field.now.of) c.args.field.now.presence c.args.tape.now.items c.put_item.new.tape.items c.put_item.result c.in-Optional.is c.put_item.ensures.ok c.put_item.ensures.err

pub read_left_out-returns-in-Ok-clause-value : goal.read_left_out-returns-in-Ok-clause-value
read_left_out-returns-in-Ok-clause-value t c = λ d h.
    subst (λ (z : Presence). PutsLeftOut (rules_of c.args.coding) ((IsBody c.args.coding c.args.nodes.now d) c.args.field.now.of) z c.args.tape.now.items c.read_whole.new.tape.items) (sym c.in-Default.is)
    (subst (λ (z : List ℕ). PutsValue (Says (rules_of c.args.coding) ((IsBody c.args.coding c.args.nodes.now d) c.args.field.now.of) z) c.args.tape.now.items c.read_whole.new.tape.items) c.deref.ensures.value (c.in-Ok.ensures.value d h))

pub read_left_out-returns-in-Err-clause-value : goal.read_left_out-returns-in-Err-clause-value
read_left_out-returns-in-Err-clause-value t c = λ d h.
    default_away (rules_of c.args.coding) ((IsBody c.args.coding c.args.nodes.now d) c.args.field.now.of) c.args.field.now.presence c.in-Default.default c.in-Err.e c.in-Default.is
    (subst (λ (z : List ℕ). UnlessMemory c.in-Err.e ((v : Value) → Says (rules_of c.args.coding) ((IsBody c.args.coding c.args.nodes.now d) c.args.field.now.of) z v → ⊥)) c.deref.ensures.value (c.in-Err.ensures.value d h))

pub read_body-read_set-requires : goal.read_body-read_set-requires
read_body-read_set-requires t c =
    let told : fields_unambiguous true c.args.nodes.now c.in-Set.unknown c.in-Set.fields.items ≡ true =
    second_holds (is_single c.in-Some.node.now.tags) (fields_unambiguous true c.args.nodes.now c.in-Set.unknown c.in-Set.fields.items)
    (subst (λ (k : Kind). kind_unambiguous c.args.nodes.now c.in-Some.node.now.tags k ≡ true) c.in-Set.is (node_told c.args.nodes.now c.args.of c.in-Some.node.now c.requires c.in-Some.ensures.some)) in
    let here : fields_unambiguous true c.args.nodes.now c.in-Set.unknown c.deref-in-Set.result.now ≡ true =
    subst (λ (z : List Field). fields_unambiguous true c.args.nodes.now c.in-Set.unknown z ≡ true) (sym c.deref-in-Set.ensures.value) told in
    search rules

pub read_body-returns-in-Set-clause-value : goal.read_body-returns-in-Set-clause-value
read_body-returns-in-Set-clause-value t c = λ d h. let l = least c.args.depth c.read_set.result d h in reads_up (rules_of c.args.coding) c.args.nodes.now d c.args.of (head_parts c.args.head c.args.content.now) c.in-Some.node.now (kinds.Set c.in-Set.fields c.in-Set.unknown) c.args.tape.now.items c.read_set.new.tape.items c.read_set.result (grind (arith, c.if-depth-eq0.false, l)) c.in-Some.ensures.some (sym c.if-not-has_a_tag.ensures) c.in-Set.is
    (subst (λ (z : List Field). ReadsValue (IsSetOf c.args.coding c.args.nodes.now (d - 1) c.in-Set.unknown z c.args.head.constructed c.args.content.now)
    c.args.tape.now.items c.read_set.new.tape.items c.read_set.result) c.deref-in-Set.ensures.value (c.read_set.ensures.value (d - 1) (within c.args.depth c.read_set.result d (grind (arith, c.if-depth-eq0.false)) h)))

pub read_set-returns-then-not-judge_order-clause-value : goal.read_set-returns-then-not-judge_order-clause-value
read_set-returns-then-not-judge_order-clause-value t c = λ d h v b. set_unordered c.args.coding (IsBody c.args.coding c.args.nodes.now d) c.args.unknown c.args.fields.now c.args.octets.now b.0
    (λ a. let y = c.if-not-judge_order.ensures.no a in absurd (cc)) b.3

pub read_set-returns-in-Ok-read_members-clause-value : goal.read_set-returns-in-Ok-read_members-clause-value
read_set-returns-in-Ok-read_members-clause-value t c = λ d h.
    let a = c.if-not-judge_order.ensures.yes refl in
    row_read c.args.constructed (AreSetOf c.args.coding c.args.nodes.now d c.args.unknown c.args.fields.now c.args.octets.now) c.args.tape.now.items c.open_row.new.tape.items c.read_members.new.tape.items c.close_row.new.tape.items c.in-Ok.place c.close_row.result
    c.if-not-constructed.false c.in-Ok.ensures.place c.in-Ok.ensures.pushed
    (set_read_so {T = Unit {0}} c.args.coding (IsBody c.args.coding c.args.nodes.now d) c.args.unknown c.args.fields.now c.args.octets.now a c.open_row.new.tape.items c.read_members.new.tape.items (Ok tt)
    (c.in-Ok-read_members.ensures.value a.elements a.joins d (least c.args.depth c.close_row.result d h))) c.close_row.ensures.closed c.close_row.ensures.err

pub read_set-returns-in-Err-read_members-clause-value : goal.read_set-returns-in-Err-read_members-clause-value
read_set-returns-in-Err-read_members-clause-value t c = λ d h.
    let a = c.if-not-judge_order.ensures.yes refl in
    row_refused (Unit {0}) (Unit {0}) c.args.constructed (AreSetOf c.args.coding c.args.nodes.now d c.args.unknown c.args.fields.now c.args.octets.now) c.args.tape.now.items c.open_row.new.tape.items c.read_members.new.tape.items c.read_members.new.tape.items c.in-Err-read_members.e
    (set_read_so {T = Unit {0}} c.args.coding (IsBody c.args.coding c.args.nodes.now d) c.args.unknown c.args.fields.now c.args.octets.now a c.open_row.new.tape.items c.read_members.new.tape.items (Err c.in-Err-read_members.e)
    (c.in-Err-read_members.ensures.value a.elements a.joins d h))

pub read_set-close_row-requires : goal.read_set-close_row-requires
read_set-close_row-requires t c =
    let a = c.if-not-judge_order.ensures.yes refl in
    let within = place_within c.args.tape.now.items c.open_row.new.tape.items c.read_members.new.tape.items (AreMembersOf c.args.coding c.args.nodes.now c.args.depth c.args.unknown c.args.fields.now a.elements) c.in-Ok.place
    c.in-Ok.ensures.place c.in-Ok.ensures.pushed (c.in-Ok-read_members.ensures.value a.elements a.joins c.args.depth (omega arith)) in
    let count = length-map c.read_members.new.tape.items mark in
    omega (arith, within, count)

pub read_members-loop-field-init : goal.read_members-loop-field-init
read_members-loop-field-init t c = record {
  done = [];
  parts = refl;
  so_far = λ es j d l. members_begun (rules_of c.args.coding) c.args.nodes.now (IsBody c.args.coding c.args.nodes.now d) c.args.unknown c.args.fields.now es c.args.tape.now.items;
}

pub read_members-returns-in-Err-clause-value : goal.read_members-returns-in-Err-clause-value
read_members-returns-in-Err-clause-value t c = λ es j d h.
    let i = c.loop-field.invariant in
    members_refused (rules_of c.args.coding) (lawful_of c.args.coding) c.args.nodes.now (IsBody c.args.coding c.args.nodes.now d) (tag_of_body (rules_of c.args.coding) (lawful_of c.args.coding) c.args.nodes.now d) c.args.unknown i.done c.in-Some.field.now c.in-Some.others.now
    (subst (λ (z : List Field). fields_unambiguous true c.args.nodes.now c.args.unknown z ≡ true) (i.parts ∙ ap (λ (z : List Field). i.done ++ z) c.in-Some.ensures.cases.0) c.requires.told) es (Unit {0})
    (AreMembersOf c.args.coding c.args.nodes.now d c.args.unknown c.args.fields.now es) c.args.tape.now.items c.loop-field.tape.items c.read_member.new.tape.items c.in-Err.e
    (subst (λ (z : List Field). SoFar (AreMembersOf c.args.coding c.args.nodes.now d c.args.unknown z (others_than c.args.nodes.now i.done es))
    (AreMembersOf c.args.coding c.args.nodes.now d c.args.unknown c.args.fields.now es) c.args.tape.now.items c.loop-field.tape.items) c.in-Some.ensures.cases.0
    (i.so_far es j d (fault_least c.args.depth c.in-Err.e d h))) (c.in-Err.ensures.value es j d h)

pub read_members-loop-field-preserved : goal.read_members-loop-field-preserved
read_members-loop-field-preserved t c =
    let i = c.loop-field.invariant in
    record {
      done = i.done ++ c.in-Some.field.now ∷ [];
      parts = (i.parts ∙ ap (λ (z : List Field). i.done ++ z) c.in-Some.ensures.cases.0) ∙ sym (append_assoc i.done (c.in-Some.field.now ∷ []) c.in-Some.others.now);
      so_far = λ es j d l. member_further (rules_of c.args.coding) (lawful_of c.args.coding) c.args.nodes.now (IsBody c.args.coding c.args.nodes.now d) (tag_of_body (rules_of c.args.coding) (lawful_of c.args.coding) c.args.nodes.now d) c.args.unknown i.done c.in-Some.field.now c.in-Some.others.now
          (subst (λ (z : List Field). fields_unambiguous true c.args.nodes.now c.args.unknown z ≡ true) (i.parts ∙ ap (λ (z : List Field). i.done ++ z) c.in-Some.ensures.cases.0) c.requires.told) es
          (AreMembersOf c.args.coding c.args.nodes.now d c.args.unknown c.args.fields.now es) c.args.tape.now.items c.loop-field.tape.items c.read_member.new.tape.items
          (subst (λ (z : List Field). SoFar (AreMembersOf c.args.coding c.args.nodes.now d c.args.unknown z (others_than c.args.nodes.now i.done es))
          (AreMembersOf c.args.coding c.args.nodes.now d c.args.unknown c.args.fields.now es) c.args.tape.now.items c.loop-field.tape.items) c.in-Some.ensures.cases.0
          (i.so_far es j d l)) (written_of c.args.coding) (c.in-Ok.ensures.value es j d l);
    }

pub read_members-returns-clause-value : goal.read_members-returns-clause-value
read_members-returns-clause-value t c = λ es j d h.
    let i = c.loop-field.invariant in
    members_ended (rules_of c.args.coding) c.args.nodes.now (IsBody c.args.coding c.args.nodes.now d) c.args.unknown
    (AreMembersOf c.args.coding c.args.nodes.now d c.args.unknown c.args.fields.now es) c.args.fields.now i.done c.loop-field.left.now es c.args.tape.now.items c.loop-field.tape.items c.read_others.new.tape.items c.read_others.result
    i.parts (nil_from_length c.loop-field.left.now c.in_default.ensures.cases) (i.so_far es j d (least c.args.depth c.read_others.result d h)) (c.read_others.ensures.value es j d h)

pub read_member-returns-in-One-clause-value : goal.read_member-returns-in-One-clause-value
read_member-returns-in-One-clause-value t c = λ es j d h.
    member_read (rules_of c.args.coding) c.args.nodes.now c.args.field.now.of ((IsBody c.args.coding c.args.nodes.now d) c.args.field.now.of) c.args.field.now.presence es (head_parts c.in-One.head c.in-One.content.now)
    c.args.tape.now.items c.read_body.new.tape.items c.read_body.result (c.in-One.ensures es j) (c.read_body.ensures.value d h)

pub read_member-returns-in-Nothing-clause-value : goal.read_member-returns-in-Nothing-clause-value
read_member-returns-in-Nothing-clause-value t c = λ es j d h.
    member_away (rules_of c.args.coding) c.args.nodes.now c.args.field.now.of ((IsBody c.args.coding c.args.nodes.now d) c.args.field.now.of) c.args.field.now.presence es
    c.args.tape.now.items c.read_left_out.new.tape.items c.read_left_out.result (c.in-Nothing.ensures es j) (c.read_left_out.ensures.value d h)

pub read_member-returns-in-Several-clause-value : goal.read_member-returns-in-Several-clause-value
read_member-returns-in-Several-clause-value t c = λ es j d h. inl (c.in-Several.ensures es j)

pub read_others-loop-tail-init : goal.read_others-loop-tail-init
read_others-loop-tail-init t c = λ es j d l. record {
  left = es;
  joins = j;
  so_far = nothing_yet (AreOthersOf c.args.coding c.args.nodes.now d c.args.unknown (others_than c.args.nodes.now c.args.fields.now es)) c.args.tape.now.items;
}

pub read_others-returns-in-Err-clause-value : goal.read_others-returns-in-Err-clause-value
read_others-returns-in-Err-clause-value t c = λ es j d h.
    other_refused c.args.coding c.args.nodes.now d c.args.fields.now c.args.unknown c.loop-tail.rest.now c.in-Some.tail.now c.in-Some.content.now c.in-Some.head es
    c.args.tape.now.items c.loop-tail.tape.items c.read_other.new.tape.items c.in-Err.e (c.loop-tail.invariant es j d (fault_least c.args.depth c.in-Err.e d h)) c.in-Some.ensures.some (c.in-Err.ensures.value d h)

pub read_others-loop-tail-preserved : goal.read_others-loop-tail-preserved
read_others-loop-tail-preserved t c = λ es j d l.
    other_further c.args.coding c.args.nodes.now d c.args.fields.now c.args.unknown c.loop-tail.rest.now c.in-Some.tail.now c.in-Some.content.now c.in-Some.head es
    c.args.tape.now.items c.loop-tail.tape.items c.read_other.new.tape.items (c.loop-tail.invariant es j d l) c.in-Some.ensures.some (c.in-Ok.ensures.value d l)

pub read_others-loop-tail-smaller : goal.read_others-loop-tail-smaller
read_others-loop-tail-smaller t c = front_shorter (rules_of c.args.coding) (lawful_of c.args.coding) (λ p v. ⊥) c.loop-tail.rest.now
    c.in-Some.tail.now (head_parts c.in-Some.head c.in-Some.content.now) c.in-Some.ensures.some

pub read_others-returns-clause-value : goal.read_others-returns-clause-value
read_others-returns-clause-value t c = λ es j d h.
    others_done c.args.coding c.args.nodes.now d c.args.fields.now c.args.unknown c.loop-tail.rest.now es c.args.tape.now.items c.loop-tail.tape.items (c.loop-tail.invariant es j d h) c.in_default.ensures.none

pub read_other-returns-in-Some-clause-value : goal.read_other-returns-in-Some-clause-value
read_other-returns-in-Some-clause-value t c = λ d h.
    other_read c.args.coding c.args.nodes.now d c.args.unknown c.args.fields.now (head_parts c.args.head c.args.content.now) c.in-Some.inner c.args.tape.now.items c.read_body.new.tape.items c.read_body.result
    (sym c.if-is_of_a_field.ensures) c.in-Some.is (c.read_body.ensures.value d h)

pub read_other-returns-in-None-clause-value : goal.read_other-returns-in-None-clause-value
read_other-returns-in-None-clause-value t c = λ d h. (sym c.if-is_of_a_field.ensures, λ v b. subst (λ (z : Option ℕ). IsUnknownElement c.args.coding c.args.nodes.now d z (head_parts c.args.head c.args.content.now) v) c.in-None.is b)

pub read_other-returns-then-is_of_a_field-clause-value : goal.read_other-returns-then-is_of_a_field-clause-value
read_other-returns-then-is_of_a_field-clause-value t c = λ d h. inl (sym c.if-is_of_a_field.ensures, refl)

pub read_body-returns-in_default-clause-told : goal.read_body-returns-in_default-clause-told
read_body-returns-in_default-clause-told t c = λ e. told_as c.args.nodes.now None c.tell.new.self c.args.of reasons.MissingType c.tell.ensures.of c.tell.ensures.reason c.tell.ensures.field (of_no_type (node_at c.args.nodes.now c.args.of) c.in_default.ensures.none reasons.MissingType) tt

pub read_body-returns-then-not-has_a_tag-clause-told : goal.read_body-returns-then-not-has_a_tag-clause-told
read_body-returns-then-not-has_a_tag-clause-told t c = λ e. told_as c.args.nodes.now None c.tell-then-not-has_a_tag.new.self c.args.of reasons.Tag c.tell-then-not-has_a_tag.ensures.of c.tell-then-not-has_a_tag.ensures.reason c.tell-then-not-has_a_tag.ensures.field (any_tag (node_at c.args.nodes.now c.args.of)) tt

pub read_body-returns-then-depth-eq0-clause-told : goal.read_body-returns-then-depth-eq0-clause-told
read_body-returns-then-depth-eq0-clause-told t c = λ e. absurd (cc)

pub read_body-returns-in-Octets-clause-told : goal.read_body-returns-in-Octets-clause-told
read_body-returns-in-Octets-clause-told t c = λ e. told_of_kind c.args.nodes.now c.tell-in-Octets.new.self c.args.of reasons.Contents c.in-Some.node.now kinds.Octets c.tell-in-Octets.ensures.of c.tell-in-Octets.ensures.reason c.tell-in-Octets.ensures.field c.in-Some.ensures.some c.in-Octets.is refl tt

pub read_body-returns-in-Text-clause-told : goal.read_body-returns-in-Text-clause-told
read_body-returns-in-Text-clause-told t c = λ e. told_of_kind c.args.nodes.now c.tell-in-Text.new.self c.args.of reasons.Contents c.in-Some.node.now (kinds.Text c.in-Text.kind) c.tell-in-Text.ensures.of c.tell-in-Text.ensures.reason c.tell-in-Text.ensures.field c.in-Some.ensures.some c.in-Text.is refl tt

pub read_body-returns-in-Time-clause-told : goal.read_body-returns-in-Time-clause-told
read_body-returns-in-Time-clause-told t c = λ e. told_of_kind c.args.nodes.now c.tell-in-Time.new.self c.args.of reasons.Contents c.in-Some.node.now (kinds.Time c.in-Time.kind) c.tell-in-Time.ensures.of c.tell-in-Time.ensures.reason c.tell-in-Time.ensures.field c.in-Some.ensures.some c.in-Time.is refl tt

pub read_body-returns-in-Bits-clause-told : goal.read_body-returns-in-Bits-clause-told
read_body-returns-in-Bits-clause-told t c = λ e. told_of_kind c.args.nodes.now c.tell-in-Bits.new.self c.args.of reasons.Contents c.in-Some.node.now (kinds.Bits c.in-Bits.named) c.tell-in-Bits.ensures.of c.tell-in-Bits.ensures.reason c.tell-in-Bits.ensures.field c.in-Some.ensures.some c.in-Bits.is refl tt

pub read_body-returns-in-Ok-clause-told : goal.read_body-returns-in-Ok-clause-told
read_body-returns-in-Ok-clause-told t c = λ e. told_of_kind c.args.nodes.now c.tell-in-Any.new.self c.args.of reasons.Contents c.in-Some.node.now kinds.Any c.tell-in-Any.ensures.of c.tell-in-Any.ensures.reason c.tell-in-Any.ensures.field c.in-Some.ensures.some c.in-Any.is refl tt

pub read_body-returns-in-Err-clause-told : goal.read_body-returns-in-Err-clause-told
read_body-returns-in-Err-clause-told t c = λ e. told_of_kind c.args.nodes.now c.tell-in-Any.new.self c.args.of reasons.Contents c.in-Some.node.now kinds.Any c.tell-in-Any.ensures.of c.tell-in-Any.ensures.reason c.tell-in-Any.ensures.field c.in-Some.ensures.some c.in-Any.is refl tt

pub read_body-returns-in-Ok-read_body-clause-told : goal.read_body-returns-in-Ok-read_body-clause-told
read_body-returns-in-Ok-read_body-clause-told t c = λ e. told_of_kind c.args.nodes.now c.tell-in-Ok-read_body.new.self c.args.of reasons.Bounds c.in-Some.node.now (kinds.Within c.in-Within.inner c.in-Within.lower c.in-Within.upper) c.tell-in-Ok-read_body.ensures.of c.tell-in-Ok-read_body.ensures.reason c.tell-in-Ok-read_body.ensures.field c.in-Some.ensures.some c.in-Within.is refl tt

pub read_body-returns-then-not-head-clause-told : goal.read_body-returns-then-not-head-clause-told
read_body-returns-then-not-head-clause-told t c = λ e. told_of_kind c.args.nodes.now c.tell-then-not-head.new.self c.args.of reasons.Form c.in-Some.node.now (kinds.Explicit c.in-Explicit.inner) c.tell-then-not-head.ensures.of c.tell-then-not-head.ensures.reason c.tell-then-not-head.ensures.field c.in-Some.ensures.some c.in-Explicit.is refl tt

pub read_body-returns-in-Boolean-clause-told : goal.read_body-returns-in-Boolean-clause-told
read_body-returns-in-Boolean-clause-told t c = λ e. c.put_leaf.ensures.told c.args.nodes.now (of_kind c.args.nodes.now c.args.of reasons.Contents c.in-Some.node.now kinds.Boolean c.in-Some.ensures.some c.in-Boolean.is refl) e

pub read_body-returns-in-Null-clause-told : goal.read_body-returns-in-Null-clause-told
read_body-returns-in-Null-clause-told t c = λ e. c.put_leaf-in-Null.ensures.told c.args.nodes.now (of_kind c.args.nodes.now c.args.of reasons.Contents c.in-Some.node.now kinds.Null c.in-Some.ensures.some c.in-Null.is refl) e

pub read_body-returns-in-Integer-clause-told : goal.read_body-returns-in-Integer-clause-told
read_body-returns-in-Integer-clause-told t c = λ e. c.put_leaf-in-Integer.ensures.told c.args.nodes.now (of_kind c.args.nodes.now c.args.of reasons.Contents c.in-Some.node.now kinds.Integer c.in-Some.ensures.some c.in-Integer.is refl) e

pub read_body-returns-in-Enumerated-clause-told : goal.read_body-returns-in-Enumerated-clause-told
read_body-returns-in-Enumerated-clause-told t c = λ e. c.put_leaf-in-Enumerated.ensures.told c.args.nodes.now (of_kind c.args.nodes.now c.args.of reasons.Contents c.in-Some.node.now (kinds.Enumerated c.in-Enumerated.numbers c.in-Enumerated.extensible) c.in-Some.ensures.some c.in-Enumerated.is refl) e

pub read_body-returns-in-Identifier-clause-told : goal.read_body-returns-in-Identifier-clause-told
read_body-returns-in-Identifier-clause-told t c = λ e. c.put_leaf-in-Identifier.ensures.told c.args.nodes.now (of_kind c.args.nodes.now c.args.of reasons.Contents c.in-Some.node.now (kinds.Identifier c.in-Identifier.relative) c.in-Some.ensures.some c.in-Identifier.is refl) e

pub read_body-returns-in-Sequence-clause-told : goal.read_body-returns-in-Sequence-clause-told
read_body-returns-in-Sequence-clause-told t c = λ e.
    let kind = kinds.Sequence c.in-Sequence.fields c.in-Sequence.unknown in
    c.read_row.ensures.told (record {
      form = of_kind c.args.nodes.now c.args.of reasons.Form c.in-Some.node.now kind c.in-Some.ensures.some c.in-Sequence.is refl;
      has = fields_there c.args.nodes.now c.args.of c.in-Some.node.now c.deref.result.now c.in-Some.ensures.some
          (ap row_fields c.in-Sequence.is ∙ ap (λ (z : List Field). Some z) (sym c.deref.ensures.value));
    }) e

pub read_body-returns-in-SequenceOf-clause-told : goal.read_body-returns-in-SequenceOf-clause-told
read_body-returns-in-SequenceOf-clause-told t c = λ e.
    c.read_row-in-SequenceOf.ensures.told (record {
      form = of_kind c.args.nodes.now c.args.of reasons.Form c.in-Some.node.now (kinds.SequenceOf c.in-SequenceOf.inner) c.in-Some.ensures.some c.in-SequenceOf.is refl;
      has = no_fields_there c.args.nodes.now c.args.of [] refl;
    }) e

pub read_body-returns-in-SetOf-clause-told : goal.read_body-returns-in-SetOf-clause-told
read_body-returns-in-SetOf-clause-told t c = λ e.
    c.read_row-in-SetOf.ensures.told (record {
      form = of_kind c.args.nodes.now c.args.of reasons.Form c.in-Some.node.now (kinds.SetOf c.in-SetOf.inner) c.in-Some.ensures.some c.in-SetOf.is refl;
      has = no_fields_there c.args.nodes.now c.args.of [] refl;
    }) e

pub read_body-returns-in-Set-clause-told : goal.read_body-returns-in-Set-clause-told
read_body-returns-in-Set-clause-told t c = λ e.
    let kind = kinds.Set c.in-Set.fields c.in-Set.unknown in
    c.read_set.ensures.told (record {
      form = of_kind c.args.nodes.now c.args.of reasons.Form c.in-Some.node.now kind c.in-Some.ensures.some c.in-Set.is refl;
      order = of_kind c.args.nodes.now c.args.of reasons.Order c.in-Some.node.now kind c.in-Some.ensures.some c.in-Set.is refl;
      has = fields_there c.args.nodes.now c.args.of c.in-Some.node.now c.deref-in-Set.result.now c.in-Some.ensures.some
          (ap row_fields c.in-Set.is ∙ ap (λ (z : List Field). Some z) (sym c.deref-in-Set.ensures.value));
    }) e

pub read_choice-returns-in_default-clause-told : goal.read_choice-returns-in_default-clause-told
read_choice-returns-in_default-clause-told t c = λ e. told_as c.args.nodes.now None c.tell.new.self c.args.of reasons.Tag c.tell.ensures.of c.tell.ensures.reason c.tell.ensures.field (any_tag (node_at c.args.nodes.now c.args.of)) tt

pub read_choice-returns-in-Ok-read_body-clause-told : goal.read_choice-returns-in-Ok-read_body-clause-told
read_choice-returns-in-Ok-read_body-clause-told t c = λ e. absurd (not_refused c.put_item-in-Ok-read_body.result c.put_item-in-Ok-read_body.ensures.err e)

pub read_front-returns-in_default-clause-told : goal.read_front-returns-in_default-clause-told
read_front-returns-in_default-clause-told t c = λ e. told_as c.args.nodes.now None c.tell.new.self c.args.of reasons.Element c.tell.ensures.of c.tell.ensures.reason c.tell.ensures.field (any_element (node_at c.args.nodes.now c.args.of)) tt

pub read_whole-returns-then-not-is_at_end-clause-told : goal.read_whole-returns-then-not-is_at_end-clause-told
read_whole-returns-then-not-is_at_end-clause-told t c = λ e. told_as c.args.nodes.now None c.tell.new.self c.args.of reasons.TrailingOctets c.tell.ensures.of c.tell.ensures.reason c.tell.ensures.field (any_trailing (node_at c.args.nodes.now c.args.of)) tt

pub read_row-returns-then-not-constructed-clause-told : goal.read_row-returns-then-not-constructed-clause-told
read_row-returns-then-not-constructed-clause-told t c = λ h e. told_as c.args.nodes.now None c.tell.new.self c.args.of reasons.Form c.tell.ensures.of c.tell.ensures.reason c.tell.ensures.field h.form tt

pub read_row-returns-in-Ok-read_fields-clause-told : goal.read_row-returns-in-Ok-read_fields-clause-told
read_row-returns-in-Ok-read_fields-clause-told t c = λ h e. absurd (not_refused c.close_row.result c.close_row.ensures.err e)

pub read_row-returns-in-Err-read_fields-clause-told : goal.read_row-returns-in-Err-read_fields-clause-told
read_row-returns-in-Err-read_fields-clause-told t c = λ h e. c.in-Err-read_fields.ensures.told h.has e

pub read_behind-returns-then-not-is_at_end-clause-told : goal.read_behind-returns-then-not-is_at_end-clause-told
read_behind-returns-then-not-is_at_end-clause-told t c = λ e. told_as c.args.nodes.now None c.tell.new.self c.args.of reasons.TrailingOctets c.tell.ensures.of c.tell.ensures.reason c.tell.ensures.field (any_trailing (node_at c.args.nodes.now c.args.of)) tt

pub read_fields-returns-in-Err-clause-told : goal.read_fields-returns-in-Err-clause-told
read_fields-returns-in-Err-clause-told t c = λ h e.
    let i = c.loop-field.invariant in
    let f = c.in-Some.field.now in
    let place = c.saturating_sub.result in
    let n = ap (λ (z : List Field). length z) c.in-Some.ensures.cases.0 in
    let at : place ≡ length c.args.fields.now - length (f ∷ c.in-Some.others.now) = omega (arith, n, c.saturating_sub.ensures) in
    c.tell_field.ensures c.args.nodes.now f (h place f (field_here i.done c.in-Some.others.now c.args.fields.now f place
    (i.parts ∙ ap (λ (z : List Field). i.done ++ z) c.in-Some.ensures.cases.0) at)) (c.in-Err.ensures.told (ap Err (fault_is c.in-Err.e faults.Refused (Err c.in-Err.e) refl e)))

pub read_members-returns-in-Err-clause-told : goal.read_members-returns-in-Err-clause-told
read_members-returns-in-Err-clause-told t c = λ h e.
    let i = c.loop-field.invariant in
    let f = c.in-Some.field.now in
    let place = c.saturating_sub.result in
    let n = ap (λ (z : List Field). length z) c.in-Some.ensures.cases.0 in
    let at : place ≡ length c.args.fields.now - length (f ∷ c.in-Some.others.now) = omega (arith, n, c.saturating_sub.ensures) in
    c.tell_field.ensures c.args.nodes.now f (h place f (field_here i.done c.in-Some.others.now c.args.fields.now f place
    (i.parts ∙ ap (λ (z : List Field). i.done ++ z) c.in-Some.ensures.cases.0) at)) (c.in-Err.ensures.told (ap Err (fault_is c.in-Err.e faults.Refused (Err c.in-Err.e) refl e)))

pub read_field-returns-in-Err-clause-told : goal.read_field-returns-in-Err-clause-told
read_field-returns-in-Err-clause-told t c = λ e. told_up c.args.nodes.now c.args.field.now c.read_body.new.refusal (c.in-Err.ensures.told (ap Err (fault_is c.in-Err.e faults.Refused (Err c.in-Err.e) refl e)))

pub read_left_out-returns-in-Required-clause-told : goal.read_left_out-returns-in-Required-clause-told
read_left_out-returns-in-Required-clause-told t c = λ e. told_missing c.args.nodes.now c.args.field.now c.tell.new.self c.in-Required.is c.tell.ensures.of c.tell.ensures.reason c.tell.ensures.field

pub read_left_out-returns-in-Optional-clause-told : goal.read_left_out-returns-in-Optional-clause-told
read_left_out-returns-in-Optional-clause-told t c = λ e. absurd (not_refused c.put_item.result c.put_item.ensures.err e)

pub read_left_out-returns-in-Err-clause-told : goal.read_left_out-returns-in-Err-clause-told
read_left_out-returns-in-Err-clause-told t c = λ e. told_default c.args.nodes.now c.args.field.now c.tell-in-Err.new.self (subst (λ (z : Presence). IsDefault z) (sym c.in-Default.is) tt) c.tell-in-Err.ensures.of c.tell-in-Err.ensures.reason c.tell-in-Err.ensures.field

pub read_set-returns-then-not-constructed-clause-told : goal.read_set-returns-then-not-constructed-clause-told
read_set-returns-then-not-constructed-clause-told t c = λ h e. told_as c.args.nodes.now None c.tell.new.self c.args.of reasons.Form c.tell.ensures.of c.tell.ensures.reason c.tell.ensures.field h.form tt

pub read_set-returns-then-not-judge_order-clause-told : goal.read_set-returns-then-not-judge_order-clause-told
read_set-returns-then-not-judge_order-clause-told t c = λ h e. c.if-not-judge_order.ensures.told c.args.nodes.now h.order refl

pub read_set-returns-in-Ok-read_members-clause-told : goal.read_set-returns-in-Ok-read_members-clause-told
read_set-returns-in-Ok-read_members-clause-told t c = λ h e. absurd (not_refused c.close_row.result c.close_row.ensures.err e)

pub read_set-returns-in-Err-read_members-clause-told : goal.read_set-returns-in-Err-read_members-clause-told
read_set-returns-in-Err-read_members-clause-told t c = λ h e. c.in-Err-read_members.ensures.told h.has e

pub read_member-returns-in-One-clause-told : goal.read_member-returns-in-One-clause-told
read_member-returns-in-One-clause-told t c = λ e. told_up c.args.nodes.now c.args.field.now c.read_body.new.refusal (c.read_body.ensures.told e)

pub read_member-returns-in-Several-clause-told : goal.read_member-returns-in-Several-clause-told
read_member-returns-in-Several-clause-told t c = λ e. told_repeated c.args.nodes.now c.args.field.now c.tell.new.self c.tell.ensures.of c.tell.ensures.reason c.tell.ensures.field

pub read_other-returns-in-None-clause-told : goal.read_other-returns-in-None-clause-told
read_other-returns-in-None-clause-told t c = λ e. told_as c.args.nodes.now None c.tell.new.self c.args.of reasons.TrailingOctets c.tell.ensures.of c.tell.ensures.reason c.tell.ensures.field (any_trailing (node_at c.args.nodes.now c.args.of)) tt

pub read_front-returns-in-Err-clause-told : goal.read_front-returns-in-Err-clause-told
read_front-returns-in-Err-clause-told t c = λ e.
    c.in-Err.ensures.told (ap Err (fault_is c.in-Err.e faults.Refused (Err c.in-Err.e) refl e))

pub read_whole-returns-in-Err-clause-told : goal.read_whole-returns-in-Err-clause-told
read_whole-returns-in-Err-clause-told t c = λ e.
    c.in-Err.ensures.told (ap Err (fault_is c.in-Err.e faults.Refused (Err c.in-Err.e) refl e))

pub read_items-returns-in-Err-clause-told : goal.read_items-returns-in-Err-clause-told
read_items-returns-in-Err-clause-told t c = λ e.
    c.in-Err.ensures.told (ap Err (fault_is c.in-Err.e faults.Refused (Err c.in-Err.e) refl e))

pub read_field-returns-in-Err-read_left_out-clause-told : goal.read_field-returns-in-Err-read_left_out-clause-told
read_field-returns-in-Err-read_left_out-clause-told t c = λ e.
    c.in-Err-read_left_out.ensures.told (ap Err (fault_is c.in-Err-read_left_out.e faults.Refused (Err c.in-Err-read_left_out.e) refl e))
