use Rattle.std.proofs.Common.{sym, ◌∙◌}
use Rattle.x690.specs.Laws.Nested.{words_unique}
use Rattle.x690.proofs.nested.contents_split_in_one_way.Goals as goal

pub returns : goal.returns
returns c =
    λ depth input words others rest tail g h a s b t. words_unique depth words others rest tail g h a b (sym s ∙ t)
