use Rattle.std.proofs.lemmas.Result.{on_ok_weaker}
use Rattle.asn1vec_answers.proofs.ShownLaws.{encoding_said}
use Rattle.asn1vec_answers.proofs.shown.AnyShown.tell_encoding.Goals as goal

pub returns : goal.returns
returns g c =
    let told = c.is_told.ensures in
    on_ok_weaker c.push_written.result (encoding_said g.T.ToDer.writing c.args.self.now
    (g.T.Encoded.Encodes c.args.self.now) told.written told.refused told.own _ _) c.push_written.ensures
