use Rattle.asn1vec_answers.proofs.OneAnswer.{answered_alike, answered_once, takes_no_memory}
use Rattle.asn1vec_answers.proofs.answer.one_answer.Goals as goal

pub returns-clause-alike : goal.returns-clause-alike
returns-clause-alike c = answered_alike

pub returns-clause-one : goal.returns-clause-one
returns-clause-one c = answered_once

pub returns-clause-none : goal.returns-clause-none
returns-clause-none c = takes_no_memory
