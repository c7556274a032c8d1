use Rattle.asn1_rs_uses.proofs.LabelsUnwritten.{label_written, told}
use Rattle.asn1_rs_uses.proofs.labels.write_label.Goals as goal

pub returns-clause-refused : goal.returns-clause-refused
returns-clause-refused g c =
    let l = c.args.label.now in
    label_written l c.write_der.result (c.write_der.ensures.refused (told l))
