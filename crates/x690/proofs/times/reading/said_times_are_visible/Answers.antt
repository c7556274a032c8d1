use Rattle.x690.specs.Laws.Times.Visible.{utc_said_visible, generalized_said_visible}
use Rattle.x690.proofs.times.reading.said_times_are_visible.Goals as goal

pub returns : goal.returns
returns c = record { utc = utc_said_visible; generalized = generalized_said_visible }
