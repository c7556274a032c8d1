use Rattle.x690.specs.Laws.StrictElements.{der_allows_strict, ber_allows_strict}
use Rattle.x690.proofs.strict.rules_allow_strict.Goals as goal

pub returns : goal.returns
returns c = record { der = der_allows_strict; ber = ber_allows_strict }
