use Rattle.asn1_rs.proofs.laws.functions.strict_parts_have_the_number.Goals as goal

pub returns : goal.returns
returns g c = record {
  number = g.met.T.LawfulTagged.tag_number;
  fits = g.met.T.LawfulTagged.number_fits;
}
