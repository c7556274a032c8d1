use Rattle.asn1_rs_uses.proofs.Unwritten.{list_refused, names_some}
use Rattle.asn1_rs_uses.proofs.refusals.write_list_in_classes.Goals as goal

pub returns-clause-some : goal.returns-clause-some
returns-clause-some g c = λ a.
    let some = names_some c.args.xs.now.items a in
    c.write_der.ensures.accepted some.0 (λ k d h. tt) some.1

pub returns-clause-why : goal.returns-clause-why
returns-clause-why g c =
    list_refused _ _ c.args.xs.now.items c.write_der.result (c.write_der.ensures.refused (λ k d h. tt))
