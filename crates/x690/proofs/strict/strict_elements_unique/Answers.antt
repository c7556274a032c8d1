use Rattle.x690.specs.Laws.StrictElements.{made_strict_element, strict_element_octets, strict_is_definite}
use Rattle.x690.specs.Laws.StrictElements.{strict_element_unique}
use Rattle.x690.proofs.strict.strict_elements_unique.Goals as goal

pub returns : goal.returns
returns c = record {
  exists = made_strict_element;
  no_other = strict_element_octets;
  lenient = strict_is_definite;
  apart = strict_element_unique;
}
