-- Taking the text of an element of any of several types of strings has one refusal.
use Rattle.std.proofs.Common.{◌≡◌, ◌∙◌, ap, inl, inr, sym}
use Rattle.std.specs.Prelude.{Ok, Err, IsUtf8, false}
use Rattle.std.specs.declared.alloc.Global.{Global}
use Rattle.std.specs.declared.borrow.CowStr.{CowStr}
use Rattle.x690.specs.Characters.{ucs4_octets}
use Rattle.x690.specs.Elements.{Parts}
use Rattle.asn1_headers.specs.declared.error.Error.{Error}
use Rattle.asn1_headers.specs.declared.error.Error.TheVariants.{OutOfMemory, StringInvalidCharset}
use Rattle.asn1_rs.specs.Any.Text.{GivesAnyText, LendsAnyText, has_utf8_number, is_utf8_number, utf8_checks}
use Rattle.asn1_rs.specs.Any.Text.{universal_text_leaf}
use Rattle.asn1_rs.specs.Checks.{IsCheck, content_check, has_number}
use Rattle.asn1_rs.specs.CodedStrings.{IsCoded}
use Rattle.asn1_rs.specs.Leaf.{HasOneRefusalUpTo, LeafGives, LeafConverts, leaf_checks}
use Rattle.asn1_rs.specs.Laws.Checks.{before_is, check_is, content_check_is, has_number_is, one_refusal_of_checks}

-- The checks of a text in UTF-8 are a check.
utf8_checks_are : IsCheck utf8_checks
utf8_checks_are = before_is has_utf8_number (content_check IsUtf8 StringInvalidCharset)
    (check_is _ _ _ (λ p m b. cc) (λ p e. cc))
    (content_check_is IsUtf8 StringInvalidCharset (λ e. cc))

-- Taking the text that is borrowed has one refusal.
pub lent_any_text_one_refusal : HasOneRefusalUpTo (λ (e : Error). e) LendsAnyText
lent_any_text_one_refusal =
    one_refusal_of_checks utf8_checks utf8_checks_are LendsAnyText (λ p x h. h.0) (λ p e h. h)

-- Texts that may be decoded.

-- The checks of the text of a UniversalString are a check.
universal_checks_are : IsCheck (leaf_checks universal_text_leaf)
universal_checks_are = before_is (has_number 28) universal_text_leaf.checks (has_number_is 28)
    (content_check_is (IsCoded ucs4_octets) StringInvalidCharset (λ e. cc))

universal_one : (p : Parts) (e f : Error) → LeafConverts universal_text_leaf p (Err e) →
    LeafConverts universal_text_leaf p (Err f) → e ≡ f
universal_one p e f (inl a) (inl b) = universal_checks_are.one p e f a b
universal_one p e f (inl a) (inr b) = absurd (universal_checks_are.apart p e b.0 a)
universal_one p e f (inr a) (inl b) = absurd (universal_checks_are.apart p f a.0 b)
universal_one p e f (inr a) (inr b) = a.1 ∙ sym b.1

universal_none : (p : Parts) (text : CowStr Global) (e : Error) → LeafGives universal_text_leaf p (Ok text) →
    LeafConverts universal_text_leaf p (Err e) → e ≡ OutOfMemory
universal_none p text e h (inl a) = absurd (universal_checks_are.apart p e h.0 a)
universal_none p text e h (inr a) = a.1

-- Taking such a text has one refusal.
pub any_text_one : (p : Parts) (e f : Error) → GivesAnyText p (Err e) → GivesAnyText p (Err f) → e ≡ f
any_text_one p e f (inl a) (inl b) = utf8_checks_are.one p e f a.1 b.1
any_text_one p e f (inl a) (inr b) = absurd (a.0 b.0)
any_text_one p e f (inr a) (inl b) = absurd (b.0 a.0)
any_text_one p e f (inr a) (inr b) = universal_one p e f a.1 b.1

-- Beside a text none but for out of memory.
pub any_text_none : (p : Parts) (text : CowStr Global) (e : Error) → GivesAnyText p (Ok text) → GivesAnyText p (Err e) →
    e ≡ OutOfMemory
any_text_none p text e (inl h) (inl a) = absurd (utf8_checks_are.apart p e h.0 a.1)
any_text_none p text e (inl h) (inr a) =
    let number = h.0.0 in
    let other : is_utf8_number p.id.number ≡ false = ap is_utf8_number a.0 in
    absurd cc
any_text_none p text e (inr h) (inl a) = absurd (a.0 h.0.0.0)
any_text_none p text e (inr h) (inr a) = universal_none p text e h.0 a.1
