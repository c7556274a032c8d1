use Rattle.x690.specs.Laws.Faults.Beginnings.{element_beginning, within_fault}
use Rattle.x690.proofs.nested.nested_beginnings_lack_octets.Goals as goal

pub returns : goal.returns
returns c = record {
  lacking = λ depth input more front rest parts headers fault why b e.
      element_beginning depth input more front rest parts headers fault why b e;
  within = within_fault;
}
