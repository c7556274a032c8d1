use Rattle.x690.specs.Laws.Faults.Beginnings.{header_beginning, der_beginning, truncated_header_fault}
use Rattle.x690.proofs.elements.beginnings_lack_octets.Goals as goal

pub returns : goal.returns
returns c = record {
  header = λ rule input more front rest id form fault why h e.
      header_beginning rule input more front rest id form fault why h e;
  der_element = λ input more front rest parts fault why b e. der_beginning input more front rest parts fault why b e;
  within = truncated_header_fault;
}
