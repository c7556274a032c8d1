use Rattle.std.proofs.Common.{arith}
use Rattle.std.proofs.lemmas.Result.{on_ok_weaker}
use Rattle.asn1vec_answers.proofs.Gained.{line_answered}
use Rattle.asn1vec_answers.proofs.answer.push_answer.Goals as goal

pub returns-in-Some : goal.returns-in-Some
returns-in-Some c =
    let request = rw c.in-Some.is at c.in_ok-request.ensures in
    on_ok_weaker c.push_requested.result
    (line_answered c.args.line.now c.in-Some.request.rule c.in-Some.request.name.now c.as_slice.result.now
    c.read_request.new.octets.items _ _ (omega arith) request c.as_slice.ensures.value)
    c.push_requested.ensures
