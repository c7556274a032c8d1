use Rattle.x690.specs.Laws.StrictLengths.{strict_length, only_strict_length, fewest_length}
use Rattle.x690.proofs.strict.one_strict_length.Goals as goal

pub returns : goal.returns
returns c = record { exists = strict_length; no_other = only_strict_length; fewest = fewest_length }
