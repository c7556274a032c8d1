-- The text of an element of any of several types of strings.
use Rattle.std.specs.Prelude.{◌≡◌, ◌≢◌, ◌⊎◌, ℕ, Bool, true, false, List, ◌||◌, nat_eq, None, Result, Ok, Err, IsUtf8}
use Rattle.std.specs.Borrow.{Bor}
use Rattle.std.specs.Cow.{cow_str_bytes, IsBorrowedStr, IsOwnedStr}
use Rattle.std.specs.declared.alloc.Global.{Global}
use Rattle.std.specs.declared.borrow.CowStr.{CowStr}
use Rattle.x690.specs.Characters.{ucs4_octets}
use Rattle.x690.specs.Elements.{Parts}
use Rattle.asn1_headers.specs.declared.error.Error.{Error}
use Rattle.asn1_headers.specs.declared.error.Error.TheVariants.{StringInvalidCharset, UnexpectedTag}
use Rattle.asn1_rs.specs.Checks.{CheckGives, ◌before◌, check, content_check}
use Rattle.asn1_rs.specs.CodedStrings.{coded_leaf}
use Rattle.asn1_rs.specs.Leaf.{Leaf, LeafGives, LeafConverts}

-- The tag numbers of the types of strings whose contents octets are taken as UTF-8. They are Utf8String, NumericString,
-- PrintableString, TeletexString, VideotexString, Ia5String, GraphicString, VisibleString and GeneralString.
abbrev pub is_utf8_number : ℕ → Bool
is_utf8_number n = nat_eq n 12 || nat_eq n 18 || nat_eq n 19 || nat_eq n 20 || nat_eq n 21 || nat_eq n 22 ||
    nat_eq n 25 || nat_eq n 26 || nat_eq n 27

-- the tag number is one of them; no one number is expected
abbrev pub has_utf8_number : CheckGives
has_utf8_number = check (λ p. is_utf8_number p.id.number ≡ true) (λ p. is_utf8_number p.id.number ≡ false)
    (λ p. UnexpectedTag None (record { 0 = p.id.number }))

-- the tag number, and then that the contents octets are UTF-8
abbrev pub utf8_checks : CheckGives
utf8_checks = has_utf8_number before content_check IsUtf8 StringInvalidCharset

-- what the text of an element may be that is borrowed: its contents octets;
-- or the refusal of the first check that is broken
abbrev pub LendsAnyText : Parts → Result (Bor (List ℕ)) Error → Type 0
LendsAnyText p (Ok text) = utf8_checks p (Ok tt) × (text.now ≡ p.content)
LendsAnyText p (Err e) = utf8_checks p (Err e)

-- the text of a UniversalString
abbrev pub universal_text_leaf : Leaf (CowStr Global)
universal_text_leaf = coded_leaf 28 ucs4_octets cow_str_bytes

-- What the text of an element may be that is borrowed, or decoded and owned where the tag number is that of
-- UniversalString. There alone memory may be refused, where the octets say a text.
abbrev pub GivesAnyText : Parts → Result (CowStr Global) Error → Type 0
GivesAnyText p (Ok text) =
    (utf8_checks p (Ok tt) × (cow_str_bytes text ≡ p.content) × IsBorrowedStr text) ⊎
    (LeafGives universal_text_leaf p (Ok text) × IsOwnedStr text)
GivesAnyText p (Err e) =
    ((p.id.number ≢ 28) × utf8_checks p (Err e)) ⊎ ((p.id.number ≡ 28) × LeafConverts universal_text_leaf p (Err e))
