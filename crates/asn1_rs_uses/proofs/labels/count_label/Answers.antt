use Rattle.asn1_rs_uses.proofs.LabelsUnwritten.{label_counted, told}
use Rattle.asn1_rs_uses.proofs.labels.count_label.Goals as goal

pub returns : goal.returns
returns c =
    let l = c.args.label.now in
    label_counted l c.to_der_len.result (c.to_der_len.ensures.count (told l)) (c.to_der_len.ensures.refused (told l))
