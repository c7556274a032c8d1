use Rattle.std.proofs.Common.{◌≡◌, List, [], drop, subst, sym, arith, append-nil}
use Rattle.std.proofs.lemmas.List.{drop_all}
use Rattle.asn1_schema.specs.declared.schema.Field.{Field}
use Rattle.asn1_schema.specs.Build.{AreSameFields}
use Rattle.asn1_schema.proofs.copies.copied_fields.Goals as goal

pub returns : goal.returns
returns c =
    let items = c.args.fields.now in
    let end = c.loop-field-test.false in
    let most = c.loop-field.auto.field-index-end in
    let none : drop c.loop-field.field-index items ≡ [] =
    drop_all c.loop-field.field-index items (grind (arith, end, most)) in
    subst (AreSameFields items) (append-nil c.loop-field.copies.items)
    (c.loop-field.invariant [] (subst (λ (xs : List Field). AreSameFields xs []) (sym none) tt))
