use Rattle.x690.specs.Laws.StrictElements.{der_header_strict}
use Rattle.x690.proofs.elements.der_headers_are_ber_headers.Goals as goal

pub returns-clause-strict : goal.returns-clause-strict
returns-clause-strict c = der_header_strict
