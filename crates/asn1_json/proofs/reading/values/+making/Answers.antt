use Rattle.std.proofs.Common.{◌≡◌, ◌∙◌, ap, sym, refl, subst, ℕ, suc, ◌+◌, ◌-◌, ◌<◌, ◌≤◌, List, [], ◌∷◌, ◌++◌, length, map, take, drop, get_or, Option, Some, None, codes, arith}
use Rattle.std.specs.Prelude.{OnOk, IfSome, MatchOption}
use Rattle.std.proofs.lemmas.List.{drop_more, take_more, take_all, map-append}
use Rattle.json.specs.Json.{Json, object, array, member, no_members}
use Rattle.json.specs.Find.{get_member}
use Rattle.json.specs.Value.{items_of, members_view, value_view}
use Rattle.asn1_schema.specs.declared.schema.Kind.{Kind}
use Rattle.asn1_schema.specs.Values.{Value, Values, row, chosen, none, more}
use Rattle.asn1_json.specs.Denotes.{Denotes, DenoteFields, DenoteItems, DenotesChosen, DenotesKind, DenotesRow, DenoteUnknown, arm_from}
use Rattle.asn1_json.specs.Outcomes.{AreJsonMembers, IsMember, DenoteFirst, DenotesItems, DenotesList, DenotesOnce, DenotesSet, LeftOutOnce, Makes, MakesRow, document_of}
use Rattle.asn1_json.specs.Tokens.{Types, name_of_field, given_types, type_of_unknown}
use Rattle.asn1_json.specs.Types.{arms_of, fields_of, kind_at, labels_at, resolved}
use Rattle.asn1_json.proofs.Rows.{row_made, arm_made, row_of_one, row_of_none, item_made, fields_begun, field_made, fields_made, makes_as, row_as}
use Rattle.asn1_json.proofs.MadeLeaves.{simple_is_kind, some_is, none_is}
use Rattle.json.proofs.Trees.{view-Array, view-Object}
use Rattle.asn1_schema.specs.declared.schema.Field.{Field}
use Rattle.asn1_json.specs.declared.reading.arranged.Member.{Member}
use Rattle.std.proofs.lemmas.List.Sorted.{All-permutation}
use Rattle.asn1_json.proofs.ByKind.{on_ok, no_item, next_item, all_items, member_more, taken_more, none_of, no_unknown, members_in_order, sequence_is, choice_is, denotes_by}
use Rattle.asn1_json.proofs.reading.values.+making.Goals as goal

pub read_list-returns : goal.read_list-returns
read_list-returns t c =
    let Sub = Denotes (given_types c.args.by.types) c.args.by.depth c.args.depth c.args.inner in
    row_made (DenotesItems Sub (value_view c.args.value.now)) (DenotesList Sub (value_view c.args.value.now))
    c.new-items.result c.read_array.new.made c.args.made.now c.push_row.new.self c.new-items.ensures c.in_ok-read_array.ensures c.in_ok-push_row.ensures
    (λ vs d. (d.0, vs, d.1, refl, d.2))

pub read_row-returns : goal.read_row-returns
read_row-returns t c =
    let types = given_types c.args.by.types in
    let depth = c.args.by.depth in
    let Sub = Denotes types depth c.args.depth in
    let fs = fields_of (kind_at c.args.by.types.table.now (Some c.args.row)) in
    let unknown = type_of_unknown types (Some c.args.row) in
    let ms = members_view c.as_slice-members.result.now in
    row_made (DenoteFields types depth Sub c.args.row unknown ms fs 0)
    (DenotesRow types depth Sub c.args.row fs unknown (value_view c.args.value.now))
    c.new-inner.result c.read_unknown.new.made c.args.made.now c.push_row.new.self c.new-inner.ensures
    (fields_made types depth Sub c.args.row unknown ms fs c.new-inner.result c.read_fields.new.made c.read_unknown.new.made
    (c.in_ok-read_fields.ensures unknown) c.in_ok-read_unknown.ensures)
    c.in_ok-push_row.ensures
    (λ vs d. (
      ms,
      vs,
      ap value_view c.in-Object.is ∙ view-Object c.in-Object.members ∙ ap (λ l. object (members_view l)) (sym c.as_slice-members.ensures.value),
      refl,
      c.in_ok-judge_names.ensures,
      d,
    ))

pub read_choice-returns : goal.read_choice-returns
read_choice-returns t c =
    let types = given_types c.args.by.types in
    let Sub = Denotes types c.args.by.depth c.args.depth in
    let j = value_view c.args.value.now in
    let arm = c.in-Some-2.arm in
    let of = c.in-Some-of_arm.of_arm in
    arm_made (Sub of (value_view c.in-Some.inner.now))
    (DenotesChosen types Sub c.args.choice (arms_of (kind_at c.args.by.types.table.now (Some c.args.choice))) j)
    arm c.args.made.now c.push.new.self c.read_value.new.made c.push-2.new.self
    c.in_ok-push.ensures c.in_ok-read_value.ensures c.in_ok-push-2.ensures
    (λ v d. (
      c.in-Some.name.now,
      value_view c.in-Some.inner.now,
      arm,
      of,
      v,
      ap value_view c.in-Object.is ∙ view-Object c.in-Object.members ∙ ap (λ l. object (members_view l)) (sym c.as_slice.ensures.value) ∙ ap object c.in-Some.ensures,
      refl,
      some_is _ _ c.in_ok-arm.field-0 arm c.in-Some-2.is c.in_ok-arm.ensures,
      sym c.of_arm.ensures ∙ c.in-Some-of_arm.is,
      d,
    ))

pub read_fields-loop-place-init : goal.read_fields-loop-place-init
read_fields-loop-place-init t c = λ unknown.
    let types = given_types c.args.by.types in
    fields_begun types c.args.by.depth (Denotes types c.args.by.depth c.args.depth) c.args.row unknown (members_view c.args.members.now)
    (fields_of (kind_at c.args.by.types.table.now (Some c.args.row))) c.args.made.now

pub read_fields-loop-place-preserved : goal.read_fields-loop-place-preserved
read_fields-loop-place-preserved t c = λ unknown.
    let types = given_types c.args.by.types in
    let fs = fields_of (kind_at c.args.by.types.table.now (Some c.args.row)) in
    field_made types c.args.by.depth (Denotes types c.args.by.depth c.args.depth) c.args.row unknown (members_view c.args.members.now) fs
    c.loop-place.place c.fields-fields.result.now c.index-fields-place.result _ c.args.made.now c.loop-place.made c.read_field.new.made
    c.fields-fields.ensures c.index-fields-place.is c.loop-place-test.true (c.loop-place.invariant unknown) c.in_ok-read_field.ensures

pub read_fields-returns : goal.read_fields-returns
read_fields-returns t c = λ unknown.
    let types = given_types c.args.by.types in
    let fs = fields_of (kind_at c.args.by.types.table.now (Some c.args.row)) in
    let all = ap (λ (l : List Field). length l) c.fields-fields.ensures in
    let end : c.loop-place.place ≡ length fs = omega (arith, all, c.loop-place-test.false, c.loop-place.auto.place-end) in
    subst (λ (n : ℕ). MakesRow (DenoteFirst types c.args.by.depth (Denotes types c.args.by.depth c.args.depth) c.args.row unknown
    (members_view c.args.members.now) fs n) c.args.made.now c.loop-place.made) end (c.loop-place.invariant unknown)

pub read_array-loop-place-init : goal.read_array-loop-place-init
read_array-loop-place-init t c = no_item value_view c.as_slice-items.result.now (Denotes (given_types c.args.by.types) c.args.by.depth c.args.depth c.args.inner) c.args.made.now

pub read_array-loop-place-preserved : goal.read_array-loop-place-preserved
read_array-loop-place-preserved t c =
    let items = c.as_slice-items.result.now in
    let i = c.loop-place.place in
    let lt : i < length items = grind (arith, c.loop-place-test.true, c.loop-place.auto.place-end) in
    next_item value_view items (Denotes (given_types c.args.by.types) c.args.by.depth c.args.depth c.args.inner) i c.index-items-place.result _
    c.args.made.now c.loop-place.made c.read_value.new.made c.index-items-place.is lt c.loop-place.invariant c.in_ok-read_value.ensures

pub read_array-returns : goal.read_array-returns
read_array-returns t c =
    let items = c.as_slice-items.result.now in
    let Sub = Denotes (given_types c.args.by.types) c.args.by.depth c.args.depth c.args.inner in
    let le : length items ≤ c.loop-place.place = grind (arith, c.loop-place-test.false, c.loop-place.auto.place-end) in
    row_as (DenoteItems Sub (items_of (map value_view items))) (DenotesItems Sub (value_view c.args.value.now)) c.args.made.now c.loop-place.made
    (λ vs d. (items_of (map value_view items), ap value_view c.in-Array.is ∙ view-Array c.in-Array.items ∙ ap (λ l. array (items_of (map value_view l))) (sym c.as_slice-items.ensures.value), d))
    (all_items value_view items Sub c.loop-place.place c.args.made.now c.loop-place.made le c.loop-place.invariant)

pub read_members-loop-place-init : goal.read_members-loop-place-init
read_members-loop-place-init t c = (
  ap (λ (l : List Member). map document_of l) c.new-members.ensures.items,
  subst (AreJsonMembers (Denotes (given_types c.args.by.types) c.args.by.depth c.args.depth c.args.of)) (sym c.new-members.ensures.items)
      (λ k d lt. absurd (omega (arith, lt))),
)

pub read_members-loop-place-preserved : goal.read_members-loop-place-preserved
read_members-loop-place-preserved t c =
    let items = c.args.items.now in
    let i = c.loop-place.place in
    let Sub = Denotes (given_types c.args.by.types) c.args.by.depth c.args.depth c.args.of in
    let lt : i < length items = grind (arith, c.loop-place-test.true, c.loop-place.auto.place-end) in
    let inv = c.loop-place.invariant in
    let r = member_more Sub c.loop-place.members.items c.push.new.self.items _ c.new-made.result (map value_view (take i items))
    c.in_ok-push.ensures.items inv.0 inv.1 c.new-made.ensures c.in_ok-read_value.ensures in
    (r.0 ∙ sym (taken_more value_view items i c.index-items-place.result _ c.index-items-place.is lt), r.1)

pub read_set-returns : goal.read_set-returns
read_set-returns t c =
    let types = given_types c.args.by.types in
    let Sub = Denotes types c.args.by.depth c.args.depth c.args.inner in
    let items = c.as_slice-items.result.now in
    let ms = c.in_ok-members.members.items in
    let ns = c.arrange.new.members.items in
    let same = c.as_slice.ensures.value in
    let order = members_in_order ms ns (map value_view items) c.arrange.ensures c.in_ok-members.ensures.all in
    let each = All-permutation (IsMember Sub) ms ns c.arrange.ensures c.in_ok-members.ensures.each in
    row_made (DenoteItems Sub (items_of (map document_of ns))) (DenotesSet Sub (value_view c.args.value.now))
    c.new-arranged.result c.put_members.new.made c.args.made.now c.push_row.new.self c.new-arranged.ensures
    (subst (λ l. MakesRow (DenoteItems Sub (items_of (map document_of l))) c.new-arranged.result c.put_members.new.made) same
    (c.in_ok-put_members.ensures types c.args.by.depth c.args.depth c.args.inner (subst (AreJsonMembers Sub) (sym same) each)))
    c.in_ok-push_row.ensures
    (λ vs d. (
      items_of (map value_view items),
      vs,
      ap value_view c.in-Array.is ∙ view-Array c.in-Array.items ∙ ap (λ l. array (items_of (map value_view l))) (sym c.as_slice-items.ensures.value),
      refl,
      (items_of (map document_of ns), order, d),
    ))

pub read_kind-returns-in-Sequence : goal.read_kind-returns-in-Sequence
read_kind-returns-in-Sequence t c =
    let types = given_types c.args.by.types in
    let Sub = Denotes types c.args.by.depth c.args.depth in
    subst (λ k. OnOk c.read_row.result (Makes (DenotesKind types c.args.by.depth Sub c.args.at (Some k) (value_view c.args.value.now)) c.args.made.now c.read_row.new.made))
    (sym c.in-Sequence.is) (on_ok c.read_row.result _ _ (λ m. makes_as _ _ _ _
    (λ v d. sequence_is types c.args.by.depth Sub c.args.at (value_view c.args.value.now) v _ (c.requires.kind ∙ ap Some c.in-Sequence.is) d) m) c.read_row.ensures)

pub read_kind-returns-in-Set : goal.read_kind-returns-in-Set
read_kind-returns-in-Set t c =
    let types = given_types c.args.by.types in
    let Sub = Denotes types c.args.by.depth c.args.depth in
    subst (λ k. OnOk c.read_row-in-Set.result (Makes (DenotesKind types c.args.by.depth Sub c.args.at (Some k) (value_view c.args.value.now)) c.args.made.now c.read_row-in-Set.new.made))
    (sym c.in-Set.is) (on_ok c.read_row-in-Set.result _ _ (λ m. makes_as _ _ _ _
    (λ v d. sequence_is types c.args.by.depth Sub c.args.at (value_view c.args.value.now) v _ (c.requires.kind ∙ ap Some c.in-Set.is) d) m) c.read_row-in-Set.ensures)

pub read_kind-returns-in-SequenceOf : goal.read_kind-returns-in-SequenceOf
read_kind-returns-in-SequenceOf t c =
    let types = given_types c.args.by.types in
    let Sub = Denotes types c.args.by.depth c.args.depth in
    subst (λ k. OnOk c.read_list.result (Makes (DenotesKind types c.args.by.depth Sub c.args.at (Some k) (value_view c.args.value.now)) c.args.made.now c.read_list.new.made))
    (sym c.in-SequenceOf.is) c.read_list.ensures

pub read_kind-returns-in-SetOf : goal.read_kind-returns-in-SetOf
read_kind-returns-in-SetOf t c =
    let types = given_types c.args.by.types in
    let Sub = Denotes types c.args.by.depth c.args.depth in
    subst (λ k. OnOk c.read_set.result (Makes (DenotesKind types c.args.by.depth Sub c.args.at (Some k) (value_view c.args.value.now)) c.args.made.now c.read_set.new.made))
    (sym c.in-SetOf.is) c.read_set.ensures

pub read_kind-returns-in-Choice : goal.read_kind-returns-in-Choice
read_kind-returns-in-Choice t c =
    let types = given_types c.args.by.types in
    let Sub = Denotes types c.args.by.depth c.args.depth in
    subst (λ k. OnOk c.read_choice.result (Makes (DenotesKind types c.args.by.depth Sub c.args.at (Some k) (value_view c.args.value.now)) c.args.made.now c.read_choice.new.made))
    (sym c.in-Choice.is) (on_ok c.read_choice.result _ _ (λ m. makes_as _ _ _ _
    (λ v d. choice_is types c.args.by.depth Sub c.args.at (value_view c.args.value.now) v _ (c.requires.kind ∙ ap Some c.in-Choice.is) d) m) c.read_choice.ensures)

pub read_kind-returns-in_default : goal.read_kind-returns-in_default
read_kind-returns-in_default t c =
    let types = given_types c.args.by.types in
    let Sub = Denotes types c.args.by.depth c.args.depth in
    on_ok c.read_leaf.result _ _ (λ m. makes_as _ _ _ _
    (λ v d. simple_is_kind types c.args.by.depth Sub c.args.at c.args.kind.now (value_view c.args.value.now) v d) m) c.read_leaf.ensures

pub read_value-returns : goal.read_value-returns
read_value-returns t c =
    let types = given_types c.args.by.types in
    makes_as _ _ _ _ (λ v d. denotes_by types c.args.by.depth c.args.depth c.args.of c.in-Some.at c.in-Some-kind.kind.now
    (value_view c.args.value.now) v c.if-depth-eq0.false (sym c.resolved.ensures ∙ c.in-Some.is)
    (some_is _ _ c.kind.result c.in-Some-kind.kind c.in-Some-kind.is c.kind.ensures) d) c.in_ok-read_kind.ensures

pub read_field-returns-in-None : goal.read_field-returns-in-None
read_field-returns-in-None t c =
    let types = given_types c.args.by.types in
    let Sub = Denotes types c.args.by.depth c.args.depth in
    let found = get_member (name_of_field types (Some c.args.row) c.args.place) (members_view c.args.members.now) in
    let e : found ≡ None = none_is _ _ c.in_ok-member_of_field.field-0 c.in-None.is c.in_ok-member_of_field.ensures in
    subst (λ o. OnOk c.leave_out.result (MakesRow (DenotesOnce types c.args.by.depth Sub c.args.field.now o) c.args.made.now c.leave_out.new.made))
    (sym e) c.leave_out.ensures

pub read_field-returns-in_ok-read_value-in-Some : goal.read_field-returns-in_ok-read_value-in-Some
read_field-returns-in_ok-read_value-in-Some t c =
    let types = given_types c.args.by.types in
    let Sub = Denotes types c.args.by.depth c.args.depth in
    let f = c.args.field.now in
    let j = value_view c.in-Some.value.now in
    let found = get_member (name_of_field types (Some c.args.row) c.args.place) (members_view c.args.members.now) in
    let e : found ≡ Some j = some_is _ _ c.in_ok-member_of_field.field-0 _ c.in-Some.is c.in_ok-member_of_field.ensures in
    subst (λ o. MakesRow (DenotesOnce types c.args.by.depth Sub f o) c.args.made.now c.read_value.new.made)
    (sym e) (row_of_one (Sub f.of j) (DenotesOnce types c.args.by.depth Sub f (Some j)) c.args.made.now c.read_value.new.made
    c.in_ok-read_value-in-Some.ensures (λ v d. (d, refl)))

pub read_unknown-returns : goal.read_unknown-returns
read_unknown-returns t c =
    let types = given_types c.args.by.types in
    let Sub = Denotes types c.args.by.depth c.args.depth in
    let t = c.in-Some.of in
    let j = value_view c.in-Some-member_named.value.now in
    let found = get_member (codes "...") (members_view c.args.members.now) in
    let e : type_of_unknown types (Some c.args.row) ≡ Some t = sym c.of_unknown.ensures ∙ c.in-Some.is in
    let is : found ≡ Some j = some_is _ _ c.member_named.result _ c.in-Some-member_named.is c.member_named.ensures in
    subst (λ u. MakesRow (DenoteUnknown Sub u found) c.args.made.now c.read_array.new.made) (sym e)
    (subst (λ o. MakesRow (DenoteUnknown Sub (Some t) o) c.args.made.now c.read_array.new.made) (sym is) c.in_ok-read_array.ensures)

pub read_unknown-returns-in_default : goal.read_unknown-returns-in_default
read_unknown-returns-in_default t c =
    let types = given_types c.args.by.types in
    let Sub = Denotes types c.args.by.depth c.args.depth in
    let found = get_member (codes "...") (members_view c.args.members.now) in
    let e : type_of_unknown types (Some c.args.row) ≡ None = sym c.of_unknown.ensures ∙ none_of c.of_unknown.result c.in_default.not-Some in
    subst (λ u. MakesRow (DenoteUnknown Sub u found) c.args.made.now c.args.made.now) (sym e)
    (row_of_none (DenoteUnknown Sub None found) c.args.made.now refl)

pub read_unknown-returns-in_default-member_named : goal.read_unknown-returns-in_default-member_named
read_unknown-returns-in_default-member_named t c =
    let types = given_types c.args.by.types in
    let Sub = Denotes types c.args.by.depth c.args.depth in
    let u = type_of_unknown types (Some c.args.row) in
    let found = get_member (codes "...") (members_view c.args.members.now) in
    let e : found ≡ None = none_is _ _ c.member_named.result (none_of c.member_named.result c.in_default-member_named.not-Some) c.member_named.ensures in
    subst (λ o. MakesRow (DenoteUnknown Sub u o) c.args.made.now c.args.made.now) (sym e)
    (row_of_none (DenoteUnknown Sub u None) c.args.made.now (no_unknown Sub u))
