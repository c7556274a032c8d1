use Rattle.std.proofs.Common.{[], inl, refl}
use Rattle.asn1vec_engine.proofs.Appended.{appends_none, on_err}
use Rattle.asn1vec_engine.proofs.engine.write_answer.Goals as goal

pub returns-in_err-answer_line-clause-err : goal.returns-in_err-answer_line-clause-err
returns-in_err-answer_line-clause-err g c = on_err c.from_residual.result ([], inl refl, appends_none _)
