use Rattle.x690.specs.Laws.Integers.{integer_content_unique, integer_content_one_value}
use Rattle.x690.specs.Laws.Integers.Unsigned.{unsigned_octets_content}
use Rattle.x690.specs.Laws.Signed.{signed_octets_content}
use Rattle.x690.proofs.integers.integers_have_one_content.Goals as goal

pub returns : goal.returns
returns c = record {
  exists = signed_octets_content;
  of_natural = unsigned_octets_content;
  no_other = integer_content_unique;
  one_value = integer_content_one_value;
}
