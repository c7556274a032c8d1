-- Octets that are no value of a type.
use Rattle.std.proofs.Common.{◌≡◌, ℕ, List, [], ◌++◌, true, sym, ◌∙◌}
use Rattle.std.proofs.lemmas.List.{append-nil, append_cancel_left}
use Rattle.x690.specs.Joined.{IsPrefixFree, NoPrefix}
use Rattle.asn1_schema.specs.declared.coding.Coding.{Coding}
use Rattle.asn1_schema.specs.declared.coding.Coding.TheVariants as codings
use Rattle.asn1_schema.specs.declared.schema.Node.{Node}
use Rattle.asn1_schema.specs.Decoding.{IsFollowed}
use Rattle.asn1_schema.specs.Reading.{IsWordOf}
use Rattle.asn1_schema.specs.Sound.{is_sound}
use Rattle.asn1_schema.proofs.Lawful.{front_ber, front_der}
use Rattle.asn1_typed.specs.Readings.{IsNoValue}

-- no word begins them
pub none_in_front : (coding : Coding) (table : List Node) (of : ℕ) (octets : List ℕ) →
    NoPrefix (IsWordOf coding table 64 of) octets → IsNoValue coding table of octets
none_in_front coding table of octets none value word = none octets [] value (sym (append-nil octets)) word

-- octets begin with one word
pub one_front : (coding : Coding) (table : List Node) (depth of : ℕ) → is_sound table ≡ true →
    IsPrefixFree (IsWordOf coding table depth of)
one_front codings.Der table depth of sound = front_der table sound depth of
one_front (codings.Ber max) table depth of sound = front_ber table sound max depth of

-- a word begins them, and some octets follow it
pub none_if_followed : (coding : Coding) (table : List Node) (of : ℕ) (octets : List ℕ) → is_sound table ≡ true →
    IsFollowed (IsWordOf coding table 64 of) octets → IsNoValue coding table of octets
none_if_followed coding table of octets sound followed value word =
    let front = followed.front in
    let both : octets ++ [] ≡ front.word ++ followed.rest = append-nil octets ∙ front.is in
    let same = (one_front coding table 64 of sound).one octets front.word [] followed.rest value followed.value word front.fits both in
    followed.some (append_cancel_left front.word followed.rest [] (sym front.is ∙ same.0 ∙ sym (append-nil front.word)))
