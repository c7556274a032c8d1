use Rattle.asn1_rs.specs.Laws.BitString.{bit_string_lawful}
use Rattle.asn1_rs.specs.Laws.Boolean.{boolean_lawful, bool_lawful}
use Rattle.asn1_rs.specs.Laws.EndOfContent.{end_lawful}
use Rattle.asn1_rs.specs.Laws.Enumerated.{enumerated_lawful}
use Rattle.asn1_rs.specs.Laws.Integer.Octets.{any_integer_lawful}
use Rattle.asn1_rs.specs.Laws.Kept.{sequence_lawful, set_lawful}
use Rattle.asn1_rs.specs.Laws.Leaf.{leaf_one_refusal}
use Rattle.asn1_rs.specs.Laws.Null.{null_lawful, unit_lawful}
use Rattle.asn1_rs.specs.Laws.OctetString.{octet_string_lawful, slice_lawful}
use Rattle.asn1_rs.proofs.laws.functions.leaves_have_one_refusal.Goals as goal

pub returns : goal.returns
returns c = record {
  boolean = leaf_one_refusal _ boolean_lawful;
  bool = leaf_one_refusal _ bool_lawful;
  null = leaf_one_refusal _ null_lawful;
  unit = leaf_one_refusal _ unit_lawful;
  end_of_content = leaf_one_refusal _ end_lawful;
  octet_string = leaf_one_refusal _ octet_string_lawful;
  octets = leaf_one_refusal _ slice_lawful;
  bit_string = leaf_one_refusal _ bit_string_lawful;
  enumerated = leaf_one_refusal _ enumerated_lawful;
  integer = leaf_one_refusal _ any_integer_lawful;
  sequence = leaf_one_refusal _ sequence_lawful;
  set = leaf_one_refusal _ set_lawful;
}
