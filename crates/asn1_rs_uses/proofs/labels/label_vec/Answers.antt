use Rattle.asn1_rs_uses.proofs.LabelsUnwritten.{label_in_vector, told}
use Rattle.asn1_rs_uses.proofs.labels.label_vec.Goals as goal

pub returns : goal.returns
returns c =
    let l = c.args.label.now in
    label_in_vector l (λ v. v.items) c.to_der_vec.result (c.to_der_vec.ensures.wrote (told l))
    c.to_der_vec.ensures.memory (c.to_der_vec.ensures.refused (told l))
