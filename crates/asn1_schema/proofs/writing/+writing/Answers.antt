use Rattle.std.proofs.Common.{rules, ◌≡◌, sym, subst, refl, ℕ, ◌+◌, ◌-◌, ◌<◌, ◌≤◌, List, [], Some, true, arith, slice_get, length}
use Rattle.std.specs.Prelude.{Option, ℤ}
use Rattle.asn1_schema.specs.declared.schema.Field.{Field}
use Rattle.asn1_schema.specs.declared.schema.Kind.{Kind}
use Rattle.asn1_schema.specs.Grammar.{Word, Body, AreFields, AreSet, AreItems}
use Rattle.asn1_schema.specs.Rules.{strict}
use Rattle.asn1_schema.specs.Reading.{IsListed}
use Rattle.asn1_schema.specs.Sound.{all_before}
use Rattle.asn1_schema.specs.Writing.{before, Writes, WritesRow, WritesDefault, IsContentOfKind, IsFieldRow, IsFieldSet, IsList, IsArm, AreCounted, order_of, primitive}
use Rattle.asn1_schema.proofs.Tags.{arm_before}
use Rattle.asn1_schema.proofs.Taken.{bounds_order}
use Rattle.asn1_schema.proofs.WrittenLeaves.{refused}
use Rattle.asn1_schema.proofs.WrittenElements.{single_of, classes_of, none_at_zero, none_of_none, found_within, content_refused, element_written, row_written, any_row_written, list_written, set_written, explicit_written}
use Rattle.asn1_schema.proofs.WrittenRows.{required_written, optional_written, default_written, fields_begun, field_written, fields_written, fields_unbegun, fields_stopped, fields_counted, no_row_end, row_stopped, row_ended}
use Rattle.asn1_schema.proofs.WrittenSets.{set_begun, set_unbegun, set_out_of_order, set_stopped, set_unsettled, set_counted, member_written, set_done}
use Rattle.asn1_schema.proofs.WrittenItems.{items_begun, item_written, item_stopped, item_unordered, none_written}
use Rattle.asn1_schema.proofs.WrittenChoices.{arms_before, choice_written, no_arm_end, no_arm, arm_stopped, arm_ended, bounds_written, within_stopped, within_judged}
use Rattle.asn1_schema.proofs.WrittenAny.{any_type_written}
use Rattle.asn1_schema.proofs.writing.+writing.Goals as goal

pub put_value-returns-then-depth-eq0 : goal.put_value-returns-then-depth-eq0
put_value-returns-then-depth-eq0 t c = refused (Word strict c.args.nodes.now c.args.depth c.args.of) c.args.tape.now
    c.args.at c.args.buf.now (none_at_zero c.args.nodes.now c.args.depth c.args.of (before c.args.tape.now c.args.at)
    (grind (arith, c.if-depth-eq0.true)))

pub put_value-returns-in_default : goal.put_value-returns-in_default
put_value-returns-in_default t c = refused (Word strict c.args.nodes.now c.args.depth c.args.of) c.args.tape.now
    c.args.at c.args.buf.now (none_of_none c.args.nodes.now c.args.depth c.args.of (before c.args.tape.now c.args.at)
    (search rules))

pub put_value-put_choice-requires : goal.put_value-put_choice-requires
put_value-put_choice-requires t c =
    let found : slice_get c.args.nodes.now c.args.of ≡ Some c.in-Some.node.now = search rules in
    let order : all_before c.args.of c.deref.result.now ≡ true =
    subst (λ (z : List ℕ). all_before c.args.of z ≡ true) (sym c.deref.ensures.value)
    (arms_before c.args.nodes.now c.requires.sound c.args.of c.in-Some.node.now c.in-Choice.arms found c.in-Choice.is) in
    let within : c.args.of < length c.args.nodes.now =
    found_within c.args.nodes.now c.args.of c.in-Some.node.now found in
    search rules

pub put_value-put_within-requires : goal.put_value-put_within-requires
put_value-put_within-requires t c =
    let found : slice_get c.args.nodes.now c.args.of ≡ Some c.in-Some.node.now = search rules in
    let order : c.in-Within.inner < c.args.of =
    bounds_order c.args.nodes.now c.args.of c.in-Within.inner c.in-Within.lower c.in-Within.upper c.in-Some.node.now
    c.requires.sound found c.in-Within.is in
    let within : c.args.of < length c.args.nodes.now =
    found_within c.args.nodes.now c.args.of c.in-Some.node.now found in
    search rules

pub put_value-returns-in-Choice : goal.put_value-returns-in-Choice
put_value-returns-in-Choice t c = choice_written c.args.nodes.now c.requires.sound c.args.depth c.args.of c.in-Some.node.now
    c.in-Choice.arms (search rules) c.in-Choice.is c.args.tape.now c.args.at c.args.buf.now c.put_choice.new.buf
    c.put_choice.result (subst (λ (z : List ℕ). Writes (IsArm c.args.nodes.now c.args.depth z) c.args.tape.now c.args.at
    c.args.buf.now c.put_choice.new.buf c.put_choice.result) c.deref.ensures.value c.put_choice.ensures)

pub put_value-returns-in-Within : goal.put_value-returns-in-Within
put_value-returns-in-Within t c = bounds_written c.args.nodes.now c.requires.sound c.args.depth c.args.of c.in-Within.inner
    c.in-Within.lower c.in-Within.upper c.in-Some.node.now (search rules) c.in-Within.is c.args.tape.now c.args.at
    c.args.buf.now c.put_within.new.buf c.put_within.result c.put_within.ensures

pub put_value-returns-in-Any : goal.put_value-returns-in-Any
put_value-returns-in-Any t c = any_type_written c.args.nodes.now c.args.depth c.args.of c.in-Some.node.now
    (grind (arith, c.if-depth-eq0.false)) (search rules) c.in-Any.is c.args.tape.now c.args.at
    c.args.buf.now c.put_any.new.buf c.put_any.result c.put_any.ensures

pub put_element-finish-requires-clause-single : goal.put_element-finish-requires-clause-single
put_element-finish-requires-clause-single t c = single_of c.args.nodes.now c.args.of c.args.node.now c.requires.sound
    c.requires.found c.requires.tagged

pub put_element-finish-requires-clause-classes : goal.put_element-finish-requires-clause-classes
put_element-finish-requires-clause-classes t c = classes_of c.args.nodes.now c.args.of c.args.node.now c.requires.sound
    c.requires.found

pub put_element-returns-in-Ok : goal.put_element-returns-in-Ok
put_element-returns-in-Ok t c = element_written c.args.nodes.now c.args.depth c.args.of c.args.node.now c.args.tape.now
    c.args.at c.requires.some c.requires.found c.requires.tagged c.in-Ok.rest c.len-held.result c.args.buf.now
    c.put_content.new.buf c.finish.new.buf c.is_constructed.result c.finish.result c.in-Ok.ensures c.len-held.ensures
    c.is_constructed.ensures c.finish.ensures.ok c.finish.ensures.err c.finish.ensures.grew

pub put_element-returns-in-Err : goal.put_element-returns-in-Err
put_element-returns-in-Err t c = content_refused c.args.nodes.now c.args.depth c.args.of c.args.node.now c.args.tape.now
    c.args.at c.requires.some c.requires.found c.requires.tagged c.args.buf.now c.put_content.new.buf c.in-Err.e
    c.in-Err.ensures

pub put_choice-returns-in_default : goal.put_choice-returns-in_default
put_choice-returns-in_default t c = refused (IsArm c.args.nodes.now c.args.depth c.args.arms.now) c.args.tape.now
    c.args.at c.args.buf.now (no_arm_end c.args.nodes.now c.args.depth c.args.arms.now
    (before c.args.tape.now c.args.at) c.in_default.ensures)

pub put_choice-returns-in_default-arm_at : goal.put_choice-returns-in_default-arm_at
put_choice-returns-in_default-arm_at t c = refused (IsArm c.args.nodes.now c.args.depth c.args.arms.now) c.args.tape.now
    c.args.at c.args.buf.now (no_arm c.args.nodes.now c.args.depth c.args.arms.now c.args.tape.now
    c.args.at c.in-Some.k c.in-Some.ensures.1 (search rules))

pub put_choice-put_value-requires : goal.put_choice-put_value-requires
put_choice-put_value-requires t c =
    let found : slice_get c.args.arms.now c.in-Some.k ≡ Some c.in-Some-arm_at.arm = search rules in
    let b : c.in-Some-arm_at.arm < c.args.of =
    arm_before c.args.of c.args.arms.now c.in-Some.k c.in-Some-arm_at.arm c.requires.order found in
    search rules

pub put_choice-returns-in-Err : goal.put_choice-returns-in-Err
put_choice-returns-in-Err t c = arm_stopped c.args.nodes.now c.args.depth c.args.arms.now c.args.tape.now
    c.args.at c.in-Some.k c.in-Some-arm_at.arm c.args.buf.now c.put_value.new.buf c.in-Err.e c.in-Some.ensures.1
    (search rules) c.in-Err.ensures

pub put_choice-returns-in-Ok : goal.put_choice-returns-in-Ok
put_choice-returns-in-Ok t c = arm_ended c.args.nodes.now c.args.depth c.args.arms.now c.args.tape.now
    c.args.at c.in-Some.k c.in-Some-arm_at.arm c.in-Ok.rest c.args.buf.now c.put_value.new.buf c.begin_arm.result
    c.in-Some.ensures.1 (search rules) c.in-Ok.ensures c.begin_arm.ensures

pub put_within-returns-in-Ok : goal.put_within-returns-in-Ok
put_within-returns-in-Ok t c = within_judged c.args.nodes.now c.args.depth c.args.inner c.args.lower c.args.upper
    c.args.tape.now c.args.at c.args.buf.now c.put_value.new.buf c.in-Ok.rest c.within_bounds.result c.in-Ok.ensures
    c.within_bounds.ensures.judges c.within_bounds.ensures.same

pub put_within-returns-in-Err : goal.put_within-returns-in-Err
put_within-returns-in-Err t c = within_stopped c.args.nodes.now c.args.depth c.args.inner c.args.lower c.args.upper
    c.args.tape.now c.args.at c.args.buf.now c.put_value.new.buf c.in-Err.e c.in-Err.ensures

pub put_content-returns-in-Boolean : goal.put_content-returns-in-Boolean
put_content-returns-in-Boolean t c = subst (λ (z : Kind). Writes (IsContentOfKind c.args.nodes.now c.args.depth z) c.args.tape.now c.args.at
    c.args.buf.now c.put_boolean.new.buf c.put_boolean.result) (sym c.in-Boolean.is)
    (c.put_boolean.ensures c.args.nodes.now c.args.depth)

pub put_content-returns-in-Null : goal.put_content-returns-in-Null
put_content-returns-in-Null t c = subst (λ (z : Kind). Writes (IsContentOfKind c.args.nodes.now c.args.depth z) c.args.tape.now c.args.at
    c.args.buf.now c.put_null.new.buf c.put_null.result) (sym c.in-Null.is)
    (c.put_null.ensures c.args.nodes.now c.args.depth)

pub put_content-returns-in-Integer : goal.put_content-returns-in-Integer
put_content-returns-in-Integer t c = subst (λ (z : Kind). Writes (IsContentOfKind c.args.nodes.now c.args.depth z) c.args.tape.now c.args.at
    c.args.buf.now c.put_integer.new.buf c.put_integer.result) (sym c.in-Integer.is)
    (c.put_integer.ensures c.args.nodes.now c.args.depth)

pub put_content-returns-in-Bits : goal.put_content-returns-in-Bits
put_content-returns-in-Bits t c = subst (λ (z : Kind). Writes (IsContentOfKind c.args.nodes.now c.args.depth z) c.args.tape.now c.args.at
    c.args.buf.now c.put_bits.new.buf c.put_bits.result) (sym c.in-Bits.is)
    (c.put_bits.ensures c.args.nodes.now c.args.depth)

pub put_content-returns-in-Octets : goal.put_content-returns-in-Octets
put_content-returns-in-Octets t c = subst (λ (z : Kind). Writes (IsContentOfKind c.args.nodes.now c.args.depth z) c.args.tape.now c.args.at
    c.args.buf.now c.put_octets.new.buf c.put_octets.result) (sym c.in-Octets.is)
    (c.put_octets.ensures c.args.nodes.now c.args.depth)

pub put_content-returns-in-Identifier : goal.put_content-returns-in-Identifier
put_content-returns-in-Identifier t c = subst (λ (z : Kind). Writes (IsContentOfKind c.args.nodes.now c.args.depth z) c.args.tape.now c.args.at
    c.args.buf.now c.put_identifier.new.buf c.put_identifier.result) (sym c.in-Identifier.is)
    (c.put_identifier.ensures c.args.nodes.now c.args.depth)

pub put_content-returns-in-Text : goal.put_content-returns-in-Text
put_content-returns-in-Text t c = subst (λ (z : Kind). Writes (IsContentOfKind c.args.nodes.now c.args.depth z) c.args.tape.now c.args.at
    c.args.buf.now c.put_text.new.buf c.put_text.result) (sym c.in-Text.is)
    (c.put_text.ensures c.args.nodes.now c.args.depth)

pub put_content-returns-in-Time : goal.put_content-returns-in-Time
put_content-returns-in-Time t c = subst (λ (z : Kind). Writes (IsContentOfKind c.args.nodes.now c.args.depth z) c.args.tape.now c.args.at
    c.args.buf.now c.put_time.new.buf c.put_time.result) (sym c.in-Time.is)
    (c.put_time.ensures c.args.nodes.now c.args.depth)

pub put_content-returns-in-Enumerated : goal.put_content-returns-in-Enumerated
put_content-returns-in-Enumerated t c = subst (λ (z : Kind). Writes (IsContentOfKind c.args.nodes.now c.args.depth z) c.args.tape.now c.args.at
    c.args.buf.now c.put_enumerated.new.buf c.put_enumerated.result) (sym c.in-Enumerated.is)
    (subst (λ (z : List ℤ). Writes (λ content. IsListed z c.in-Enumerated.extensible (primitive content)) c.args.tape.now
    c.args.at c.args.buf.now c.put_enumerated.new.buf c.put_enumerated.result) c.deref.ensures.value c.put_enumerated.ensures)

pub put_content-returns-in-Sequence : goal.put_content-returns-in-Sequence
put_content-returns-in-Sequence t c = subst (λ (z : Kind). Writes (IsContentOfKind c.args.nodes.now c.args.depth z) c.args.tape.now c.args.at
    c.args.buf.now c.put_row.new.buf c.put_row.result) (sym c.in-Sequence.is)
    (row_written c.args.nodes.now c.args.depth c.in-Sequence.fields c.in-Sequence.unknown c.args.tape.now c.args.at c.args.buf.now
    c.put_row.new.buf c.put_row.result
    (subst (λ (fs : List Field). Writes (IsFieldRow c.args.nodes.now c.args.depth c.in-Sequence.unknown fs) c.args.tape.now c.args.at
    c.args.buf.now c.put_row.new.buf c.put_row.result) c.deref-in-Sequence.ensures.value c.put_row.ensures))

pub put_content-returns-in-SequenceOf : goal.put_content-returns-in-SequenceOf
put_content-returns-in-SequenceOf t c = subst (λ (z : Kind). Writes (IsContentOfKind c.args.nodes.now c.args.depth z) c.args.tape.now c.args.at
    c.args.buf.now c.put_list.new.buf c.put_list.result) (sym c.in-SequenceOf.is)
    (list_written c.args.nodes.now c.args.depth c.in-SequenceOf.inner c.args.tape.now c.args.at c.args.buf.now
    c.put_list.new.buf c.put_list.result c.put_list.ensures)

pub put_content-returns-in-SetOf : goal.put_content-returns-in-SetOf
put_content-returns-in-SetOf t c = subst (λ (z : Kind). Writes (IsContentOfKind c.args.nodes.now c.args.depth z) c.args.tape.now c.args.at
    c.args.buf.now c.put_list-in-SetOf.new.buf c.put_list-in-SetOf.result) (sym c.in-SetOf.is)
    (set_written c.args.nodes.now c.args.depth c.in-SetOf.inner c.args.tape.now c.args.at c.args.buf.now
    c.put_list-in-SetOf.new.buf c.put_list-in-SetOf.result c.put_list-in-SetOf.ensures)

pub put_content-returns-in-Explicit : goal.put_content-returns-in-Explicit
put_content-returns-in-Explicit t c = subst (λ (z : Kind). Writes (IsContentOfKind c.args.nodes.now c.args.depth z) c.args.tape.now c.args.at
    c.args.buf.now c.put_value.new.buf c.put_value.result) (sym c.in-Explicit.is)
    (explicit_written c.args.nodes.now c.args.depth c.in-Explicit.inner c.args.tape.now c.args.at c.args.buf.now
    c.put_value.new.buf c.put_value.result c.put_value.ensures)

pub put_field-returns-in-Default : goal.put_field-returns-in-Default
put_field-returns-in-Default t c = default_written (Word strict c.args.nodes.now c.args.depth c.args.field.now.of)
    c.args.field.now.presence c.in-Default.default c.args.tape.now c.args.at c.args.buf.now c.put_default.new.buf
    c.put_default.result c.in-Default.is (subst (λ (z : List ℕ). WritesDefault
    (Word strict c.args.nodes.now c.args.depth c.args.field.now.of) z c.args.tape.now c.args.at c.args.buf.now
    c.put_default.new.buf c.put_default.result) c.deref.ensures.value c.put_default.ensures)

pub put_field-returns-in-Required : goal.put_field-returns-in-Required
put_field-returns-in-Required t c = required_written (Word strict c.args.nodes.now c.args.depth c.args.field.now.of)
    c.args.field.now.presence c.args.tape.now c.args.at c.args.buf.now c.put_value.new.buf c.put_value.result
    c.in-Required.is c.put_value.ensures

pub put_field-returns-in-None : goal.put_field-returns-in-None
put_field-returns-in-None t c = optional_written (Word strict c.args.nodes.now c.args.depth c.args.field.now.of)
    c.args.field.now.presence c.args.tape.now c.args.at c.args.buf.now c.put_value-in-None.new.buf
    c.put_value-in-None.result c.in-Optional.is (c.in-None.ensures tt) c.put_value-in-None.ensures

pub put_fields-returns-in-Err : goal.put_fields-returns-in-Err
put_fields-returns-in-Err t c = fields_unbegun c.args.nodes.now c.args.depth c.args.unknown c.args.count c.args.fields.now
    c.args.tape.now c.args.at c.args.buf.now c.put_unknown.new.buf c.in-Err.e c.in-Err.ensures

pub put_fields-loop-field-init : goal.put_fields-loop-field-init
put_fields-loop-field-init t c = fields_begun c.args.nodes.now c.args.depth c.args.unknown c.args.count c.args.fields.now
    c.args.tape.now c.args.at c.in-Ok.place c.args.buf.now c.put_unknown.new.buf c.in-Ok.ensures

pub put_fields-put_field-requires : goal.put_fields-put_field-requires
put_fields-put_field-requires t c =
    let w = c.loop-field.invariant.within in
    let place : c.loop-field.rest ≤ length c.args.tape.now = omega (arith, w, c.requires.place) in
    search rules

pub put_fields-returns-in-Err-put_field : goal.put_fields-returns-in-Err-put_field
put_fields-returns-in-Err-put_field t c = fields_stopped c.args.nodes.now c.args.depth c.args.unknown c.args.count
    c.args.fields.now c.loop-field.left.now c.in-Some.others.now c.in-Some.field.now c.args.tape.now c.args.at
    c.loop-field.rest c.args.buf.now c.loop-field.buf c.put_field.new.buf c.in-Err-put_field.e c.loop-field.invariant
    c.in-Some.ensures.cases.0 c.in-Err-put_field.ensures

pub put_fields-loop-field-preserved : goal.put_fields-loop-field-preserved
put_fields-loop-field-preserved t c = field_written c.args.nodes.now c.args.depth c.args.unknown c.requires.sound
    c.args.count c.args.fields.now c.loop-field.left.now c.in-Some.others.now c.in-Some.field.now c.args.tape.now c.args.at
    c.loop-field.rest c.in-Ok-put_field.place c.args.buf.now c.loop-field.buf c.put_field.new.buf c.loop-field.invariant
    c.in-Some.ensures.cases.0 c.in-Ok-put_field.ensures

pub put_fields-returns : goal.put_fields-returns
put_fields-returns t c = fields_written c.args.nodes.now c.args.depth c.args.unknown c.args.count c.args.fields.now
    c.loop-field.left.now c.args.tape.now c.args.at c.loop-field.rest c.args.buf.now c.loop-field.buf c.loop-field.invariant
    (c.in_default.ensures.cases)

pub put_unknown-returns-in-None : goal.put_unknown-returns-in-None
put_unknown-returns-in-None t c = subst (λ (z : Option ℕ). WritesRow (AreCounted c.args.nodes.now c.args.depth z c.args.count [])
    c.args.tape.now c.args.at c.args.buf.now c.args.buf.now c.none_unknown.result) (sym c.in-None.is)
    (none_written c.args.nodes.now c.args.depth c.args.count c.args.tape.now c.args.at c.args.buf.now c.none_unknown.result
    c.none_unknown.ensures.ok c.none_unknown.ensures.err)

pub put_row-returns-in_default : goal.put_row-returns-in_default
put_row-returns-in_default t c = refused (IsFieldRow c.args.nodes.now c.args.depth c.args.unknown c.args.fields.now) c.args.tape.now
    c.args.at c.args.buf.now (no_row_end (AreFields strict (Body strict c.args.nodes.now c.args.depth) c.args.unknown
    c.args.fields.now) 0 (before c.args.tape.now c.args.at) c.in_default.ensures)

pub put_row-returns-in-Err : goal.put_row-returns-in-Err
put_row-returns-in-Err t c = row_stopped (AreFields strict (Body strict c.args.nodes.now c.args.depth) c.args.unknown
    c.args.fields.now) (length c.args.fields.now + c.count_unknown-count.result) c.args.tape.now c.args.at c.in-Some.items
    c.args.buf.now c.put_fields.new.buf c.in-Err.e c.in-Some.ensures.1
    (λ octets front ks h e l. fields_counted c.args.nodes.now c.args.depth c.args.unknown c.count_unknown-count.result
    c.args.fields.now octets ks (c.count_unknown-count.ensures.some front ks e l)
    c.count_unknown-count.ensures.none h) c.in-Err.ensures

pub put_row-returns-in-Ok : goal.put_row-returns-in-Ok
put_row-returns-in-Ok t c = row_ended (AreFields strict (Body strict c.args.nodes.now c.args.depth) c.args.unknown
    c.args.fields.now) (length c.args.fields.now + c.count_unknown-count.result) c.args.tape.now c.args.at c.in-Ok.rest
    c.in-Some.items c.args.buf.now c.put_fields.new.buf c.begin_row.result c.requires.place c.in-Some.ensures.0
    c.in-Some.ensures.1
    (λ octets front ks h e l. fields_counted c.args.nodes.now c.args.depth c.args.unknown c.count_unknown-count.result
    c.args.fields.now octets ks (c.count_unknown-count.ensures.some front ks e l)
    c.count_unknown-count.ensures.none h) c.in-Ok.ensures c.begin_row.ensures

pub put_list-returns-in_default : goal.put_list-returns-in_default
put_list-returns-in_default t c = refused (IsList c.args.nodes.now c.args.depth c.args.of c.args.ascending) c.args.tape.now
    c.args.at c.args.buf.now (no_row_end (AreItems strict (Body strict c.args.nodes.now c.args.depth c.args.of)
    (order_of c.args.ascending)) 0 (before c.args.tape.now c.args.at) c.in_default.ensures)

pub put_list-returns-in-Err : goal.put_list-returns-in-Err
put_list-returns-in-Err t c = row_stopped (AreItems strict (Body strict c.args.nodes.now c.args.depth c.args.of)
    (order_of c.args.ascending)) c.count_behind-count.result c.args.tape.now c.args.at c.in-Some.items
    c.args.buf.now c.put_items.new.buf c.in-Err.e c.in-Some.ensures.1
    (λ octets front ks h e l. sym (c.count_behind-count.ensures front ks e l)) c.in-Err.ensures

pub put_list-returns-in-Ok : goal.put_list-returns-in-Ok
put_list-returns-in-Ok t c = row_ended (AreItems strict (Body strict c.args.nodes.now c.args.depth c.args.of)
    (order_of c.args.ascending)) c.count_behind-count.result c.args.tape.now c.args.at c.in-Ok.rest
    c.in-Some.items c.args.buf.now c.put_items.new.buf c.begin_row.result c.requires.place c.in-Some.ensures.0
    c.in-Some.ensures.1
    (λ octets front ks h e l. sym (c.count_behind-count.ensures front ks e l)) c.in-Ok.ensures c.begin_row.ensures

pub put_items-loop-left-init : goal.put_items-loop-left-init
put_items-loop-left-init t c = items_begun c.args.nodes.now c.requires.sound c.args.depth c.args.of c.args.ascending
    c.args.count c.args.tape.now c.args.at c.args.buf.now

pub put_items-returns-in-Err : goal.put_items-returns-in-Err
put_items-returns-in-Err t c = item_stopped c.args.nodes.now c.requires.sound c.args.depth c.args.of c.args.ascending
    c.args.count c.args.tape.now c.args.at c.args.buf.now c.loop-left.left c.loop-left.first c.loop-left.rest c.loop-left.buf
    c.loop-left.invariant c.loop-left-test.true c.put_value.new.buf c.in-Err.e c.in-Err.ensures

pub put_items-returns-then-not-may_precede : goal.put_items-returns-then-not-may_precede
put_items-returns-then-not-may_precede t c = item_unordered c.args.nodes.now c.requires.sound c.args.depth c.args.of
    c.args.ascending c.args.count c.args.tape.now c.args.at c.args.buf.now c.loop-left.left c.loop-left.first c.loop-left.rest
    c.loop-left.buf c.loop-left.invariant c.loop-left-test.true c.in-Ok.place c.len-held.result c.put_value.new.buf
    c.len-held.ensures c.in-Ok.ensures
    (λ word behind words p l f o up.
    let told = (c.may_precede.ensures word behind words p l f o).1 up in absurd (search rules))

pub put_items-loop-left-preserved : goal.put_items-loop-left-preserved
put_items-loop-left-preserved t c = item_written c.args.nodes.now c.requires.sound c.args.depth c.args.of c.args.ascending
    c.args.count c.args.tape.now c.args.at c.args.buf.now c.loop-left.left c.loop-left.first c.loop-left.rest c.in-Ok.place
    c.len-held.result c.loop-left.buf c.put_value.new.buf c.loop-left.invariant c.loop-left-test.true c.len-held.ensures
    c.in-Ok.ensures
    (λ word behind words p l f o. (c.may_precede.ensures word behind words p l f o).0 (search rules))
    (c.len.result - c.len-held.result) (omega (arith, c.len.ensures))

pub put_content-returns-in-Set : goal.put_content-returns-in-Set
put_content-returns-in-Set t c = subst (λ (z : Kind). Writes (IsContentOfKind c.args.nodes.now c.args.depth z) c.args.tape.now c.args.at
    c.args.buf.now c.put_set.new.buf c.put_set.result) (sym c.in-Set.is)
    (any_row_written c.args.nodes.now c.args.depth c.in-Set.fields c.in-Set.unknown c.args.tape.now c.args.at c.args.buf.now
    c.put_set.new.buf c.put_set.result
    (subst (λ (fs : List Field). Writes (IsFieldSet c.args.nodes.now c.args.depth c.in-Set.unknown fs) c.args.tape.now c.args.at
    c.args.buf.now c.put_set.new.buf c.put_set.result) c.deref-in-Set.ensures.value c.put_set.ensures))

pub put_set-returns-in_default : goal.put_set-returns-in_default
put_set-returns-in_default t c = refused (IsFieldSet c.args.nodes.now c.args.depth c.args.unknown c.args.fields.now) c.args.tape.now
    c.args.at c.args.buf.now (no_row_end (AreSet strict (Body strict c.args.nodes.now c.args.depth) c.args.unknown
    c.args.fields.now) 0 (before c.args.tape.now c.args.at) c.in_default.ensures)

pub put_set-returns-in-Err : goal.put_set-returns-in-Err
put_set-returns-in-Err t c = row_stopped (AreSet strict (Body strict c.args.nodes.now c.args.depth) c.args.unknown
    c.args.fields.now) (length c.args.fields.now + c.count_unknown-count.result) c.args.tape.now c.args.at c.in-Some.items
    c.args.buf.now c.put_members.new.buf c.in-Err.e c.in-Some.ensures.1
    (λ octets front ks h e l. set_counted c.args.nodes.now c.args.depth c.args.unknown c.count_unknown-count.result
    c.args.fields.now octets ks (c.count_unknown-count.ensures.some front ks e l)
    c.count_unknown-count.ensures.none h) c.in-Err.ensures

pub put_set-returns-in-Ok : goal.put_set-returns-in-Ok
put_set-returns-in-Ok t c = row_ended (AreSet strict (Body strict c.args.nodes.now c.args.depth) c.args.unknown
    c.args.fields.now) (length c.args.fields.now + c.count_unknown-count.result) c.args.tape.now c.args.at c.in-Ok.rest
    c.in-Some.items c.args.buf.now c.put_members.new.buf c.begin_row.result c.requires.place c.in-Some.ensures.0
    c.in-Some.ensures.1
    (λ octets front ks h e l. set_counted c.args.nodes.now c.args.depth c.args.unknown c.count_unknown-count.result
    c.args.fields.now octets ks (c.count_unknown-count.ensures.some front ks e l)
    c.count_unknown-count.ensures.none h) c.in-Ok.ensures c.begin_row.ensures

pub put_members-returns-in-Err : goal.put_members-returns-in-Err
put_members-returns-in-Err t c = set_unbegun c.args.nodes.now c.args.depth c.args.unknown c.args.count c.args.fields.now
    c.args.tape.now c.args.at c.args.buf.now c.put_unknown.new.buf c.in-Err.e c.in-Err.ensures

pub put_members-returns-then-not-are_ascending : goal.put_members-returns-then-not-are_ascending
put_members-returns-then-not-are_ascending t c = set_out_of_order c.args.nodes.now c.args.depth c.args.unknown c.requires.sound
    c.args.count c.args.fields.now c.args.tape.now c.args.at c.in-Ok.place c.args.buf.now c.put_unknown.new.buf
    c.in_front.result.now c.len-held.result c.len-held.ensures c.in-Ok.ensures c.in_front.ensures
    (λ a. let f = c.if-not-are_ascending.ensures.no a in absurd (cc))

pub put_members-loop-field-init : goal.put_members-loop-field-init
put_members-loop-field-init t c = set_begun c.args.nodes.now c.args.depth c.args.unknown c.args.count c.args.fields.now
    c.args.tape.now c.args.at c.in-Ok.place c.args.buf.now c.put_unknown.new.buf c.in_front.result.now c.len-held.result
    c.len-held.ensures c.in-Ok.ensures c.in_front.ensures (c.if-not-are_ascending.ensures.yes refl)

pub put_members-put_field-requires : goal.put_members-put_field-requires
put_members-put_field-requires t c =
    let w = c.loop-field.invariant.within in
    let place : c.loop-field.rest ≤ length c.args.tape.now = omega (arith, w, c.requires.place) in
    search rules

pub put_members-returns-in-Err-put_field : goal.put_members-returns-in-Err-put_field
put_members-returns-in-Err-put_field t c = set_stopped c.args.nodes.now c.args.depth c.args.unknown c.args.count
    c.args.fields.now c.loop-field.left.now c.in-Some.others.now c.in-Some.field.now c.args.tape.now c.args.at
    c.loop-field.rest c.args.buf.now c.loop-field.buf c.put_field.new.buf c.in-Err-put_field.e c.loop-field.invariant
    c.in-Some.ensures.cases.0 c.in-Err-put_field.ensures

pub put_members-returns-then-not-settle : goal.put_members-returns-then-not-settle
put_members-returns-then-not-settle t c = set_unsettled c.args.nodes.now c.args.depth c.args.unknown c.requires.sound
    c.args.count c.args.fields.now c.loop-field.left.now c.in-Some.others.now c.in-Some.field.now c.args.tape.now c.args.at
    c.loop-field.rest c.in-Ok-put_field.place c.args.buf.now c.loop-field.buf c.put_field.new.buf c.settle.new.buf
    c.len-held.result c.len-behind.result c.settle.result c.loop-field.invariant c.in-Some.ensures.cases.0
    c.in-Ok-put_field.ensures c.len-held.ensures c.len-behind.ensures c.settle.ensures.nothing c.settle.ensures.settled
    c.if-not-settle.true c.settle.ensures.stays

pub put_members-loop-field-preserved : goal.put_members-loop-field-preserved
put_members-loop-field-preserved t c = member_written c.args.nodes.now c.args.depth c.args.unknown c.requires.sound
    c.args.count c.args.fields.now c.loop-field.left.now c.in-Some.others.now c.in-Some.field.now c.args.tape.now c.args.at
    c.loop-field.rest c.in-Ok-put_field.place c.args.buf.now c.loop-field.buf c.put_field.new.buf c.settle.new.buf
    c.len-held.result c.len-behind.result c.settle.result c.loop-field.invariant c.in-Some.ensures.cases.0
    c.in-Ok-put_field.ensures c.len-held.ensures c.len-behind.ensures c.settle.ensures.nothing c.settle.ensures.settled
    c.if-not-settle.false

pub put_members-returns : goal.put_members-returns
put_members-returns t c = set_done c.args.nodes.now c.args.depth c.args.unknown c.args.count c.args.fields.now
    c.loop-field.left.now c.args.tape.now c.args.at c.loop-field.rest c.args.buf.now c.loop-field.buf c.loop-field.invariant
    (c.in_default.ensures.cases)
