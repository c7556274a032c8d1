use Rattle.x690.specs.Laws.Shortest.{shortest_identifier_strict, shortest_length_strict}
use Rattle.x690.specs.Laws.StrictElements.{der_element_strict}
use Rattle.x690.proofs.strict.der_allows_strict_alone.Goals as goal

pub returns : goal.returns
returns c = record {
  identifier = shortest_identifier_strict;
  length = shortest_length_strict;
  element = der_element_strict;
}
