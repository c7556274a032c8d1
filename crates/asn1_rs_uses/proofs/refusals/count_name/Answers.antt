use Rattle.asn1_rs_uses.proofs.Unwritten.{empty_part, name_uncounted}
use Rattle.asn1_rs_uses.proofs.refusals.count_name.Goals as goal

pub returns : goal.returns
returns c = λ a.
    let some = empty_part c.args.parts.now.items a in
    name_uncounted _ c.args.parts.now.items c.to_der_len.result
    (c.to_der_len.ensures.accepted some.0 (λ k d h. tt) some.1) (c.to_der_len.ensures.refused (λ k d h. tt))
