use Rattle.x690.specs.Laws.StrictIdentifiers.{strict_identifier, only_strict_identifier, fewest_identifier}
use Rattle.x690.proofs.strict.one_strict_identifier.Goals as goal

pub returns : goal.returns
returns c = record { exists = strict_identifier; no_other = only_strict_identifier; fewest = fewest_identifier }
