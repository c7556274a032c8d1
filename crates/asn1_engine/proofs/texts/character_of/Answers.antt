use Rattle.std.proofs.Common.{sym, subst, IsUtf8}
use Rattle.std.proofs.lemmas.Str.{IsUtf8-encode}
use Rattle.asn1_engine.proofs.texts.character_of.Goals as goal

pub returns-in-Err-clause-none : goal.returns-in-Err-clause-none
returns-in-Err-clause-none c = λ x s e. c.in-Err.ensures.cases.0 (subst IsUtf8 (sym e) (IsUtf8-encode x s))
