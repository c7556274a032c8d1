use Rattle.std.proofs.Common.{length}
use Rattle.asn1_rs_uses.proofs.LabelsUnwritten.{label_in_front, told}
use Rattle.asn1_rs_uses.proofs.labels.prepend_label.Goals as goal

pub returns-clause-refused : goal.returns-clause-refused
returns-clause-refused c =
    let l = c.args.label.now in
    label_in_front l (length c.args.buf.now) c.prepend_der.result (c.prepend_der.ensures.refused (told l))
