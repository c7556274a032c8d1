use Rattle.asn1vec_answers.proofs.options.is_told_if_held.Goals as goal

pub returns-in-Some-clause-written : goal.returns-in-Some-clause-written
returns-in-Some-clause-written g c = rw c.in-Some.is c.is_told.ensures.written
