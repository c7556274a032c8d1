use Rattle.std.proofs.Common.{[], sym, ◌∙◌, append-nil}
use Rattle.x690.specs.Laws.Octets.Padded.{padded_order}
use Rattle.x690.proofs.collections.encodings_have_one_order.Goals as goal

pub returns : goal.returns
returns g c = λ v w one other a b.
    let words = g.E.Encodings.are.words in
    padded_order one other
    (λ rest e. (words.one one other [] rest v w a b (append-nil one ∙ e)).0)
    (λ rest e. (words.one one other rest [] v w a b (sym e ∙ sym (append-nil other))).0)
