use Rattle.x690.specs.Laws.Ascending.{Ascending-unique}
use Rattle.x690.specs.Laws.Ascending.Arranged.{arranged_moves, arranged_ascends, only_arranged}
use Rattle.x690.proofs.ascending.strings_have_one_ascending_arrangement.Goals as goal

pub returns : goal.returns
returns c = record {
  exists = λ os. (arranged_moves os, arranged_ascends os);
  no_other = only_arranged;
  same = Ascending-unique;
}
