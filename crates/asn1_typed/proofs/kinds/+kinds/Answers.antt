use Rattle.std.proofs.Common.{◌≡◌, ◌++◌, ◌-◌, ℕ, zero, suc, List, refl, ap, sym, subst, ◌∙◌, arith, slice_get, Some}
use Rattle.std.proofs.lemmas.Option.{slice_get_read}
use Rattle.asn1_schema.specs.declared.schema.Node.{Node}
use Rattle.asn1_schema.specs.declared.names.TypeNames.{TypeNames}
use Rattle.asn1_typed.specs.Kinds.{kind_text, labels_in, named_text, type_text}
use Rattle.asn1_typed.proofs.Appended.{three}
use Rattle.asn1_typed.proofs.kinds.+kinds.Goals as goal

-- a kind by one type at least
type_by_more : (depth : ℕ) (table : List Node) (names : List TypeNames) (of : ℕ) → (depth ≡ 0 → ⊥) →
    type_text depth table names of ≡ kind_text (named_text (depth - 1) table names) (type_text (depth - 1) table names)
    (labels_in (slice_get names of)) (slice_get table of)
unfolding type_text
type_by_more zero table names of some = absurd (some refl)
type_by_more (suc depth) table names of some =
    let e : depth ≡ suc depth - 1 = omega arith in
    ap (λ d. kind_text (named_text d table names) (type_text d table names) (labels_in (slice_get names of)) (slice_get table of)) e

pub push_type-returns : goal.push_type-returns
push_type-returns t c =
    let table = c.args.schema.now.nodes.items in
    let names = c.args.schema.now.names.items in
    let of : ℕ = c.args.of in
    let depth : ℕ = c.args.depth in
    let named = named_text (depth - 1) table names in
    let plain = type_text (depth - 1) table names in
    let labels = labels_in (slice_get names of) in
    let old = c.args.text.now.items in
    let found : slice_get table of ≡ Some c.in-Some.node.now =
    ap (λ l. slice_get l of) (sym c.deref.ensures.value) ∙
    slice_get_read _ _ of c.in-Some.node.now refl c.in-Some.ensures.lookup.3.0 c.in-Some.ensures.lookup.1 in
    let is : type_text depth table names of ≡ kind_text named plain labels (Some c.in-Some.node.now) =
    type_by_more depth table names of c.if-depth-eq0.false ∙ ap (kind_text named plain labels) found in
    subst (λ l. c.push_end.new.text.items ≡ old ++ l) (sym is)
    (three _ _ _ _ _ _ _ (c.in_ok-push_str.ensures ∙ ap (λ l. old ++ l) c.kind_word.ensures)
    c.in_ok-push_inner.ensures c.in_ok-push_end.ensures)
