-- Elements of any type whose octets are borrowed or owned are as lawful as elements are.
use Rattle.std.proofs.Common.{◌≡◌}
use Rattle.std.specs.Prelude.{IsTrue, ◌↔◌}
use Rattle.std.specs.Cmp.{unsigned_Decides}
use Rattle.std.specs.Cmp.Lexicographic.{pointwise_decides}
use Rattle.asn1_rs.specs.declared.asn1_types.any.kept.KeptAny.{KeptAny}
use Rattle.asn1_rs.specs.Any.{IsTheElement}
use Rattle.asn1_rs.specs.Any.Kept.{as_element, kept_content, kept_element, kept_element_writing, kept_value}
use Rattle.asn1_rs.specs.Any.Kept.{same_elements}
use Rattle.asn1_rs.specs.Any.Value.{any_element}
use Rattle.asn1_rs.specs.Any.Writing.{element_writing}
use Rattle.asn1_rs.specs.Grammar.Item.{IsLawfulWriting}
use Rattle.asn1_rs.specs.Kinds.{InnerGives, IsExactConversion, IsLawfulElement, item_grammar}
use Rattle.asn1_rs.specs.Laws.Any.Value.{element_converts, element_lawful}
use Rattle.asn1_rs.specs.Laws.Any.Writing.{element_lawful_writing, same_elements_say}
use Rattle.asn1_rs.specs.Laws.Kinds.{holding_converts, holding_lawful}
use Rattle.asn1_rs.specs.Laws.Writing.{inner_lawful_writing}

-- They are lawful.
pub kept_element_lawful : IsLawfulElement kept_element
kept_element_lawful = holding_lawful as_element any_element element_lawful

-- Their conversion is exact.
pub kept_element_converts : IsExactConversion (InnerGives as_element IsTheElement) kept_element
kept_element_converts = holding_converts as_element any_element IsTheElement element_converts

-- What is written for them is lawful.
pub kept_element_lawful_writing : IsLawfulWriting (item_grammar kept_element) kept_element_writing
kept_element_lawful_writing =
    inner_lawful_writing as_element (item_grammar any_element) element_writing element_lawful_writing

-- Two are equal exactly where they say the same.
pub kept_elements_same : (x y : KeptAny) →
    IsTrue (same_elements x y) ↔ (kept_value x ≡ kept_value y)
kept_elements_same x y = same_elements_say x.header y.header (kept_content x) (kept_content y) _
    (pointwise_decides unsigned_Decides (kept_content x) (kept_content y))
