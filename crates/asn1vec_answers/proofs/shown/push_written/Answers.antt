use Rattle.std.proofs.Common.{◌++◌, ◌∙◌, ℕ, length, Vec, Global, ap}
use Rattle.std.proofs.lemmas.Result.{IfOk-weaker}
use Rattle.asn1vec_answers.proofs.ShownLaws.{written_said, whole_refused}
use Rattle.asn1vec_answers.proofs.shown.push_written.Goals as goal
use Rattle.asn1_rs.specs.ToDer.{whole_allocates, whole_octets, whole_refuses}

pub returns : goal.returns
returns g c =
    let w = g.T.ToDer.writing in
    let o = whole_octets w c.args.x.now in
    let written = c.as_slice.result.now in
    let answer = c.write_der-answer.result in
    let items = λ (v : Vec ℕ Global). v.items in
    let empty =
    ap (λ l. l ++ o) (ap items (c.new-output.ensures.inner ∙ c.replace.ensures.value) ∙ c.clear.ensures.items) in
    let bytes = c.as_slice.ensures.value ∙ ap items c.into_inner.ensures in
    let told = c.requires in
    let whole =
    IfOk-weaker answer _ _ (λ n wrote. bytes ∙ wrote.0 ∙ empty) (c.write_der-answer.ensures.wrote told).ok in
    let refuses = whole_refused w c.args.x.now (whole_allocates w) (length o) _ _ answer
    (λ e. c.write_der-answer.ensures.at_once e told) (λ e. c.write_der-answer.ensures.accepted e told) in
    written_said (whole_allocates w) o written (whole_refuses w c.args.x.now) c.as_slice.type_inv.0 answer whole
    (c.write_der-answer.ensures.refused told) refuses c.args.text.now.items _ _ c.in_ok-push_str.ensures
    c.in_ok-push_writing.ensures
