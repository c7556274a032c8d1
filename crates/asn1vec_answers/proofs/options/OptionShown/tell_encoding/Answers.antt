use Rattle.std.proofs.lemmas.Result.{on_ok_weaker}
use Rattle.asn1_rs.specs.Optional.{option_writing}
use Rattle.asn1_rs.specs.ToDer.{whole_allocates}
use Rattle.asn1vec_answers.specs.Shown.{EncodingOfSome}
use Rattle.asn1vec_answers.proofs.ShownLaws.{encoding_said}
use Rattle.asn1vec_answers.proofs.options.OptionShown.tell_encoding.Goals as goal

pub returns : goal.returns
returns g c =
    let w = g.T.ToDer.writing in
    let told = c.is_told_if_held.ensures in
    on_ok_weaker c.push_written.result (encoding_said (option_writing w) c.args.self.now
    (EncodingOfSome (whole_allocates w) g.T.Encoded.Encodes c.args.self.now) told.written told.refused told.own _ _)
    c.push_written.ensures
