-- Texts in UTF-8 are lawful leaves.
use Rattle.std.specs.Prelude.{◌≡◌, ℕ, List, ◌↔◌, IsTrue, string_bytes, nat_eq, refl}
use Rattle.std.specs.Borrow.{Bor}
use Rattle.std.specs.Cmp.{unsigned_Decides}
use Rattle.std.specs.Cmp.Lexicographic.{pointwise, pointwise_decides}
use Rattle.std.specs.declared.alloc.Global.{Global}
use Rattle.std.specs.declared.string.String.{String}
use Rattle.std.proofs.Common.{lit<}
use Rattle.asn1_rs.specs.Leaf.{IsLawfulLeaf}
use Rattle.asn1_rs.specs.Laws.Strings.{text_lawful}
use Rattle.asn1_rs.specs.Texts.{utf8_string_number, lent_text_leaf, owned_text_leaf}

-- Texts that are borrowed are lawful.
pub lent_text_lawful : IsLawfulLeaf lent_text_leaf
lent_text_lawful = text_lawful utf8_string_number _ (λ x. x.now) (lit< tt) refl (λ octets text. text)

-- Texts that are owned are lawful.
pub owned_text_lawful : IsLawfulLeaf owned_text_leaf
owned_text_lawful = text_lawful utf8_string_number _ string_bytes (lit< tt) refl (λ octets text. text)

-- texts are equal where their octets are
pub lent_text_equal : (x y : Bor (List ℕ)) → IsTrue (pointwise nat_eq x.now y.now) ↔ (x.now ≡ y.now)
lent_text_equal x y = pointwise_decides unsigned_Decides x.now y.now

-- Texts that are owned are equal exactly where their octets are.
pub owned_text_equal : (x y : String Global) →
    IsTrue (pointwise nat_eq (string_bytes x) (string_bytes y)) ↔ (string_bytes x ≡ string_bytes y)
owned_text_equal x y = pointwise_decides unsigned_Decides (string_bytes x) (string_bytes y)
