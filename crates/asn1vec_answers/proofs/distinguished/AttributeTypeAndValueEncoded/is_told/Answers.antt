use Rattle.std.proofs.Common.{inl, inr, refl}
use Rattle.asn1vec_answers.proofs.distinguished.AttributeTypeAndValueEncoded.is_told.Goals as goal

pub returns-clause-written : goal.returns-clause-written
returns-clause-written c = λ none few. (few, refl, none)

pub returns-clause-refused : goal.returns-clause-refused
returns-clause-refused c = λ e may io. (inl may, io)

pub returns-clause-own : goal.returns-clause-own
returns-clause-own c = λ e has io. (inr has, io)
