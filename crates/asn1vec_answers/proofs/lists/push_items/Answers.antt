use Rattle.std.proofs.lemmas.Result.{on_ok_weaker}
use Rattle.std.proofs.Common.{codes}
use Rattle.std.specs.List.{join_by}
use Rattle.asn1vec_answers.proofs.Gained.{in_brackets}
use Rattle.asn1vec_answers.proofs.lists.push_items.Goals as goal

pub returns : goal.returns
returns g c = λ xs gives. on_ok_weaker c.push_str-2.result
    (in_brackets c.args.text.now.items _ _ _ (join_by g.T.Encoded.text_of (codes ",") xs) c.in_ok-push_str.ensures
    (c.in_ok-push_joined.ensures xs gives)) c.push_str-2.ensures
