use Rattle.std.proofs.Common.{◌≡◌, subst, [], ◌∷◌, ◌++◌}
use Rattle.std.specs.Prelude.{OnOk, IfErr}
use Rattle.asn1_schema.specs.declared.fault.Fault.TheVariants as faults
use Rattle.asn1_schema.specs.declared.tape.Item.{Item}
use Rattle.asn1_schema.specs.Tape.{mark, marks}
use Rattle.asn1_schema.proofs.leaves.put_leaf.Goals as goal

pub returns-in-Ok-clause-put : goal.returns-in-Ok-clause-put
returns-in-Ok-clause-put c = λ item e.
    let same : c.in-Ok.item ≡ item = cc in
    subst (λ (i : Item). OnOk c.put_item.result (marks c.put_item.new.tape.items ≡ marks c.args.tape.now.items ++ mark i ∷ []) ×
    IfErr c.put_item.result (λ f. f ≡ faults.Memory)) same (c.put_item.ensures.ok, c.put_item.ensures.err)
