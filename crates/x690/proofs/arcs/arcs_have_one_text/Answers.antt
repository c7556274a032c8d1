use Rattle.x690.specs.Laws.Arcs.Texts.{one_text}
use Rattle.x690.proofs.arcs.arcs_have_one_text.Goals as goal

pub returns : goal.returns
returns c = one_text
