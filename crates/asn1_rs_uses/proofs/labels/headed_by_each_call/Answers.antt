use Rattle.asn1_rs_uses.proofs.labels.headed_by_each_call.Goals as goal

pub returns-clause-refused : goal.returns-clause-refused
returns-clause-refused g c = λ constructed.
    let value = c.has_value.ensures in c.by_each_call.ensures.refused (value.0, constructed, value.1)
