-- Texts in UTF-8 as elements: `&str` and `String` (X.690 8.23, X.680 41).
use Rattle.std.specs.Prelude.{ℕ, List, IsUtf8, string_bytes}
use Rattle.std.specs.Borrow.{Bor}
use Rattle.std.specs.declared.alloc.Global.{Global}
use Rattle.std.specs.declared.string.String.{String}
use Rattle.asn1_rs.specs.Leaf.{Leaf}
use Rattle.asn1_rs.specs.Strings.{text_leaf}

-- the number of the tag of UTF8String
abbrev pub utf8_string_number : ℕ
utf8_string_number = 12

-- a text that is borrowed
abbrev pub lent_text_leaf : Leaf (Bor (List ℕ))
lent_text_leaf = text_leaf utf8_string_number IsUtf8 (λ x. x.now)

-- one that is owned
abbrev pub owned_text_leaf : Leaf (String Global)
owned_text_leaf = text_leaf utf8_string_number IsUtf8 string_bytes
