use Rattle.asn1vec_answers.proofs.Gained.{value_said}
use Rattle.asn1vec_answers.proofs.shown.push_value.Goals as goal

pub returns : goal.returns
returns g c =
    value_said g.T.Shown.text_of g.T.Shown.Encodes c.args.x.now c.args.rest.now c.args.text.now.items _ _ _ _ _
    c.in_ok-push_str.ensures c.in_ok-show.ensures c.in_ok-push_str-2.ensures c.in_ok-push_hexadecimal.ensures
    c.in_ok-tell_encoding.ensures
