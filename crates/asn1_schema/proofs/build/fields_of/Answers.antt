use Rattle.std.proofs.Common.{◌≡◌, List, [], drop, subst, sym, arith, append-nil}
use Rattle.std.proofs.lemmas.List.{drop_all}
use Rattle.asn1_schema.specs.declared.parts.Part.{Part}
use Rattle.asn1_schema.specs.Build.{AreParts}
use Rattle.asn1_schema.proofs.build.fields_of.Goals as goal

pub returns : goal.returns
returns c =
    let items = c.args.parts.now in
    let end = c.loop-part-test.false in
    let most = c.loop-part.auto.part-index-end in
    let none : drop c.loop-part.part-index items ≡ [] =
    drop_all c.loop-part.part-index items (grind (arith, end, most)) in
    subst (AreParts items) (append-nil c.loop-part.fields.items)
    (c.loop-part.invariant [] (subst (λ (xs : List Part). AreParts xs []) (sym none) tt))
