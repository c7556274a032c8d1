use Rattle.x690.specs.Laws.Arcs.TextLengths.{short_texts}
use Rattle.x690.proofs.arcs.arc_texts_are_short.Goals as goal

pub returns : goal.returns
returns c = short_texts
