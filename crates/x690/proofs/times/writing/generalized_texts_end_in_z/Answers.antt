use Rattle.x690.specs.Laws.TimeTexts.{generalized_ends_in_z, generalized_no_comma}
use Rattle.x690.proofs.times.writing.generalized_texts_end_in_z.Goals as goal

pub returns-clause-zone : goal.returns-clause-zone
returns-clause-zone c = generalized_ends_in_z

pub returns-clause-point : goal.returns-clause-point
returns-clause-point c = generalized_no_comma
