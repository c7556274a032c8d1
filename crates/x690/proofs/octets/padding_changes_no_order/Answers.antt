use Rattle.x690.specs.Laws.Octets.Padded.{padded_order}
use Rattle.x690.proofs.octets.padding_changes_no_order.Goals as goal

pub returns : goal.returns
returns c = padded_order
