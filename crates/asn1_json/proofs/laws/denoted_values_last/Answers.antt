use Rattle.asn1_json.proofs.Deeper.{one_deeper}
use Rattle.asn1_json.proofs.laws.denoted_values_last.Goals as goal

pub returns : goal.returns
returns c = one_deeper
