use Rattle.x690.specs.Laws.Times.{utc_time_in_range, generalized_time_in_range}
use Rattle.x690.proofs.times.reading.said_times_are_in_range.Goals as goal

pub returns-clause-utc : goal.returns-clause-utc
returns-clause-utc c = utc_time_in_range

pub returns-clause-generalized : goal.returns-clause-generalized
returns-clause-generalized c = generalized_time_in_range
