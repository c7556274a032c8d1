use Rattle.x690.specs.Laws.TimeTexts.{fraction_ends_in_digit, generalized_omits_zeros}
use Rattle.x690.proofs.times.writing.fractions_omit_zeros.Goals as goal

pub returns-clause-fraction : goal.returns-clause-fraction
returns-clause-fraction c = fraction_ends_in_digit

pub returns-clause-text : goal.returns-clause-text
returns-clause-text c = generalized_omits_zeros
