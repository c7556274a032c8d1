use Rattle.asn1vec_answers.proofs.Split.{requests_same}
use Rattle.asn1vec_answers.proofs.request.one_request.Goals as goal

pub returns : goal.returns
returns c = requests_same
