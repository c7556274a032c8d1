use Rattle.asn1_rs.proofs.laws.functions.strict_parts_are_read.Goals as goal

pub returns : goal.returns
returns g c = record {
  check = g.met.T.LawfulItem.lawful_item.form_check;
  body = g.met.T.LawfulItem.lawful_item.form_body;
}
