use Rattle.asn1vec_answers.proofs.Gained.{answer_ended}
use Rattle.asn1vec_answers.proofs.answer.answer_line.Goals as goal

pub returns : goal.returns
returns c =
    answer_ended c.args.line.now _ _ _ c.clear.ensures.items c.in_ok-push_answer.ensures c.in_ok-push_str.ensures
