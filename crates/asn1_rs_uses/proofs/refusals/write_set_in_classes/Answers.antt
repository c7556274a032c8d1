use Rattle.asn1_rs.specs.Set.{items_of}
use Rattle.asn1_rs_uses.proofs.Unwritten.{names_some, set_refused}
use Rattle.asn1_rs_uses.proofs.refusals.write_set_in_classes.Goals as goal

pub returns-clause-some : goal.returns-clause-some
returns-clause-some g c = λ a.
    let some = names_some (items_of c.args.xs.now) a in
    c.write_der.ensures.accepted some.0 (λ k d h. tt) some.2

pub returns-clause-why : goal.returns-clause-why
returns-clause-why g c =
    set_refused _ _ (items_of c.args.xs.now) c.write_der.result (c.write_der.ensures.refused (λ k d h. tt))
