use Rattle.asn1_rs.proofs.laws.functions.strict_parts_take_the_class.Goals as goal

pub returns : goal.returns
returns g c = g.met.T.TakesClass.takes_class
