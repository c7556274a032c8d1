use Rattle.x690.specs.Laws.Times.{utc_times_unique, generalized_times_unique}
use Rattle.x690.proofs.times.reading.texts_say_one_time.Goals as goal

pub returns-clause-utc : goal.returns-clause-utc
returns-clause-utc c = utc_times_unique

pub returns-clause-generalized : goal.returns-clause-generalized
returns-clause-generalized c = generalized_times_unique
