use Rattle.std.proofs.lemmas.Result.{on_ok_weaker}
use Rattle.asn1vec_answers.proofs.Gained.{reading_said}
use Rattle.asn1vec_answers.proofs.answer.push_optional.Goals as goal

pub returns-in-Ber : goal.returns-in-Ber
returns-in-Ber g c = rw c.in-Ber.is (on_ok_weaker c.push_reading.result
    (reading_said _ _ _ c.args.octets.now _ _ _ c.optional_by_ber.ensures) c.push_reading.ensures)

pub returns-in-Der : goal.returns-in-Der
returns-in-Der g c = rw c.in-Der.is (on_ok_weaker c.push_reading-in-Der.result
    (reading_said _ _ _ c.args.octets.now _ _ _ c.optional_by_der.ensures) c.push_reading-in-Der.ensures)
