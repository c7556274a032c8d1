-- The texts of values are UTF-8, without the space before them.
use Rattle.std.proofs.Common.{◌≡◌, ℕ, zero, suc, ◌/◌, Bool, true, false, nat_eq, nat_lt, nat_le, ◌&&◌, ◌||◌, if◌then◌else◌}
use Rattle.std.proofs.Common.{Option, Some, None, IfSome, List, [], ◌∷◌, ◌++◌, length, take, drop, codes, IsUtf8, refl, subst}
use Rattle.std.proofs.Common.{sym, arith, inl, inr, encode_utf8, ◌*◌, ◌-◌}
use Rattle.std.specs.Str.{bytes_eq}
use Rattle.std.specs.Char.{IsScalar}
use Rattle.std.specs.Fmt.{radix_digits}
use Rattle.std.proofs.Math.Utf8.{low_scalar}
use Rattle.std.proofs.lemmas.Bool.{and_parts}
use Rattle.std.proofs.lemmas.Str.{IsUtf8-append, IsUtf8-nil, IsUtf8-encode}
use Rattle.hex.specs.Hex.{encode_lower}
use Rattle.json.proofs.Printed.Utf8.{are_ascii, IsUtf8-are_ascii}
use Rattle.asn1_names.specs.Names.{name_in, name_under, named, tables}
use Rattle.asn1_walk.specs.declared.line.Line.{Line}
use Rattle.x690.specs.Digits.{twos_complement_value}
use Rattle.asn1_engine.specs.declared.texts.Coding.{Coding}
use Rattle.asn1_engine.specs.declared.texts.Coding.TheVariants.{Utf8, Ascii, Utf16, Ucs4}
use Rattle.asn1_words.specs.Words.{number_text, integer_text, left_out_text, truncated_text}
use Rattle.asn1_words.specs.Numbers.{arcs, dotted_arcs, are_shown}
use Rattle.asn1_engine.specs.Visible.{is_shown_as_it_is}
use Rattle.asn1_engine.specs.Texts.{BeginsByCoding, ShowsFirst, Shows, IsQuoted, character_text, end_text, escape_text, is_marked_character}
use Rattle.asn1_engine.specs.Values.{octets_text, truth_text, whole_number_text, bits_text, name_text, shown_arcs_text}
use Rattle.asn1_engine.specs.Values.{identifier_text}
use Rattle.asn1_engine.specs.Lines.{ShownAs, of_truth, of_number, of_bits, of_null, of_identifier, of_string, of_octets}
use Rattle.asn1_engine.specs.Lines.{IsContentText, IsShownName, IsValueText, shown_as}
use Rattle.asn1_engine.proofs.Utf8Texts.{IsAsciiText, both, either, number_is_ascii, integer_is_ascii, left_out_is_ascii}
use Rattle.asn1_engine.proofs.Utf8Texts.{truncated_is_ascii, arcs_are_ascii, hexadecimal_is_ascii, radix_digits_are_ascii}

octets_are_ascii : (width : ℕ) (octets : List ℕ) → IsAsciiText (octets_text width octets)
octets_are_ascii width [] = refl
octets_are_ascii width (o ∷ os) =
    both (encode_lower (take (width / 2) (o ∷ os)))
    (if nat_lt (width / 2) (length (o ∷ os)) then left_out_text (length (o ∷ os)) else [])
    (hexadecimal_is_ascii (take (width / 2) (o ∷ os)))
    (either (nat_lt (width / 2) (length (o ∷ os))) (left_out_text (length (o ∷ os))) [] (left_out_is_ascii (length (o ∷ os))) refl)

truth_is_ascii : (width : ℕ) (content : List ℕ) → IsAsciiText (truth_text width content)
truth_is_ascii width [] = refl
truth_is_ascii width (o ∷ []) =
    let other : List ℕ = codes "TRUE (" ++ encode_lower (o ∷ []) ++ codes ")" in
    either (nat_eq o 0) (codes "FALSE") (if nat_eq o 255 then codes "TRUE" else other) refl
    (either (nat_eq o 255) (codes "TRUE") other refl
    (both (codes "TRUE (" ++ encode_lower (o ∷ [])) (codes ")") (both (codes "TRUE (") (encode_lower (o ∷ [])) refl (hexadecimal_is_ascii (o ∷ []))) refl))
truth_is_ascii width (o ∷ p ∷ ps) = octets_are_ascii width (o ∷ p ∷ ps)

whole_number_is_ascii : (width : ℕ) (content : List ℕ) → IsAsciiText (whole_number_text width content)
whole_number_is_ascii width [] = refl
whole_number_is_ascii width (o ∷ os) =
    either (nat_le (length (o ∷ os)) 40) (integer_text (twos_complement_value (o ∷ os))) (octets_text width (o ∷ os))
    (integer_is_ascii (twos_complement_value (o ∷ os))) (octets_are_ascii width (o ∷ os))

bits_are_ascii : (width : ℕ) (content : List ℕ) → IsAsciiText (bits_text width content)
bits_are_ascii width [] = refl
bits_are_ascii width (unused ∷ octets) =
    let count : ℕ = 8 * length octets - unused in
    either (nat_lt unused 8 && (nat_lt 0 (length octets) || nat_eq unused 0))
    (number_text count ++ codes " bits " ++ octets_text width octets) (octets_text width (unused ∷ octets))
    (both (number_text count ++ codes " bits ") (octets_text width octets) (both (number_text count) (codes " bits ") (number_is_ascii count) refl) (octets_are_ascii width octets))
    (octets_are_ascii width (unused ∷ octets))

-- names of identifiers
abbrev IsAsciiName : Option (List ℕ) → Type 0
IsAsciiName found = IfSome found (λ name. IsAsciiText name)

one_of : (first : Bool) (found other : Option (List ℕ)) → IsAsciiName found → IsAsciiName other →
    IsAsciiName (if first then found else other)
one_of true found other h k = h
one_of false found other h k = k

abbrev are_ascii_names : List (ℕ × List ℕ) → Bool
are_ascii_names [] = true
are_ascii_names (row ∷ rows) = are_ascii row.1 && are_ascii_names rows

abbrev are_ascii_tables : List (List ℕ × List (ℕ × List ℕ)) → Bool
are_ascii_tables [] = true
are_ascii_tables (row ∷ rows) = are_ascii_names row.1 && are_ascii_tables rows

named_is_ascii : (rows : List (ℕ × List ℕ)) (last : ℕ) → are_ascii_names rows ≡ true → IsAsciiName (named rows last)
named_is_ascii [] last e = tt
named_is_ascii (row ∷ rows) last e =
    let p = and_parts (are_ascii row.1) (are_ascii_names rows) e in
    one_of (nat_eq last row.0) (Some row.1) (named rows last) p.0 (named_is_ascii rows last p.1)

name_in_is_ascii : (rows : List (List ℕ × List (ℕ × List ℕ))) (front : List ℕ) (last : ℕ) → are_ascii_tables rows ≡ true →
    IsAsciiName (name_in rows front last)
name_in_is_ascii [] front last e = tt
name_in_is_ascii (row ∷ rows) front last e =
    let p = and_parts (are_ascii_names row.1) (are_ascii_tables rows) e in
    one_of (bytes_eq front row.0) (named row.1 last) (name_in rows front last) (named_is_ascii row.1 last p.0)
    (name_in_is_ascii rows front last p.1)

name_under_is_ascii : (front : List ℕ) (last : ℕ) → IsAsciiName (name_under front last)
unfolding name_under
name_under_is_ascii front last = name_in_is_ascii tables front last refl

shown_name_is_ascii : (relative : Bool) (content : List ℕ) (name : Option (List ℕ)) → IsShownName relative content name →
    IsAsciiText (name_text name)
shown_name_is_ascii relative content None h = refl
shown_name_is_ascii true content (Some name) h = absurd (subst (λ (found : Option (List ℕ)). IfSome found (λ (n : List ℕ). ⊥)) (sym h) tt)
shown_name_is_ascii false content (Some name) (front, last, is, found) =
    both (codes " (" ++ name) (codes ")")
    (both (codes " (") name refl (subst IsAsciiName found (name_under_is_ascii front last))) refl

identifier_is_ascii : (width : ℕ) (relative : Bool) (name : Option (List ℕ)) (content : List ℕ) (shown : Bool) →
    are_shown relative content ≡ shown → (are_shown relative content ≡ true → IsShownName relative content name) →
    IsAsciiText (if shown then shown_arcs_text width relative content ++ name_text name else octets_text width content)
identifier_is_ascii width relative name content true e h =
    let text : List ℕ = dotted_arcs (arcs relative content) in
    both (shown_arcs_text width relative content) (name_text name)
    (either (nat_le (length content) 40) text (truncated_text width (length content) text) (arcs_are_ascii (arcs relative content))
    (truncated_is_ascii width (length content) text (arcs_are_ascii (arcs relative content))))
    (shown_name_is_ascii relative content name (h e))
identifier_is_ascii width relative name content false e h = octets_are_ascii width content

-- strings
one_text : (first : Bool) (xs ys : List ℕ) → IsUtf8 xs → IsUtf8 ys → IsUtf8 (if first then xs else ys)
one_text true xs ys h k = h
one_text false xs ys h k = k

character_is_utf8 : (c : ℕ) → IsScalar c → IsUtf8 (character_text c)
character_is_utf8 c s =
    let plain : IsUtf8 (encode_utf8 c) = IsUtf8-encode c s in
    let escape : IsAsciiText (escape_text c) =
    both (codes "\\u{" ++ radix_digits 16 false c) (codes "}") (both (codes "\\u{") (radix_digits 16 false c) refl (radix_digits_are_ascii c)) refl in
    one_text (is_marked_character c) (codes "\\" ++ encode_utf8 c) (if is_shown_as_it_is c then encode_utf8 c else escape_text c)
    (IsUtf8-append (codes "\\") (encode_utf8 c) (IsUtf8-are_ascii (codes "\\") refl) plain)
    (one_text (is_shown_as_it_is c) (encode_utf8 c) (escape_text c) plain (IsUtf8-are_ascii (escape_text c) escape))

scalar_begins : (coding : Coding) (octets rest : List ℕ) (c : ℕ) → BeginsByCoding coding octets c rest → IsScalar c
scalar_begins Utf8 octets rest c h = h.scalar
scalar_begins Ascii octets rest c h = low_scalar c (omega (arith, h.0))
scalar_begins Utf16 octets rest c h = h.scalar
scalar_begins Ucs4 octets rest c h = h.scalar

first_is_utf8 : (coding : Coding) (octets text rest : List ℕ) → ShowsFirst coding octets text rest → IsUtf8 text
first_is_utf8 coding octets text rest (inl (c, begins, is)) =
    subst IsUtf8 (sym is) (character_is_utf8 c (scalar_begins coding octets rest c begins))
first_is_utf8 coding octets text rest (inr (o, here, none, is)) =
    subst IsUtf8 (sym is) (IsUtf8-are_ascii (codes "\\x" ++ encode_lower (o ∷ [])) (both (codes "\\x") (encode_lower (o ∷ [])) refl (hexadecimal_is_ascii (o ∷ []))))

shown_is_utf8 : (coding : Coding) (width : ℕ) (octets text left : List ℕ) → Shows coding width octets text left → IsUtf8 text
shown_is_utf8 coding zero octets text left h = subst IsUtf8 (sym h.0) IsUtf8-nil
shown_is_utf8 coding (suc width) [] text left h = subst IsUtf8 (sym h.0) IsUtf8-nil
shown_is_utf8 coding (suc width) (o ∷ os) text left (first, more, rest, shows, others, is) =
    subst IsUtf8 (sym is) (IsUtf8-append first more (first_is_utf8 coding (o ∷ os) first rest shows)
    (shown_is_utf8 coding width rest more left others))

end_is_ascii : (count : ℕ) (left : List ℕ) → IsAsciiText (end_text count left)
end_is_ascii count [] = refl
end_is_ascii count (o ∷ os) = both (codes "\"") (left_out_text count) refl (left_out_is_ascii count)

quoted_is_utf8 : (coding : Coding) (width : ℕ) (octets text : List ℕ) → IsQuoted coding width octets text → IsUtf8 text
quoted_is_utf8 coding width octets text (inner, left, shows, is) =
    subst IsUtf8 (sym is) (IsUtf8-append (codes "\"" ++ inner) (end_text (length octets) left)
    (IsUtf8-append (codes "\"") inner (IsUtf8-are_ascii (codes "\"") refl) (shown_is_utf8 coding width octets inner left shows))
    (IsUtf8-are_ascii (end_text (length octets) left) (end_is_ascii (length octets) left)))

-- behind a space
behind_space : (text shown : List ℕ) → text ≡ codes " " ++ shown → IsUtf8 shown → IsUtf8 (drop 1 text)
behind_space text shown is h = subst (λ (l : List ℕ). IsUtf8 (drop 1 l)) (sym is) h

ascii_behind : (text shown : List ℕ) → text ≡ codes " " ++ shown → IsAsciiText shown → IsUtf8 (drop 1 text)
ascii_behind text shown is h = behind_space text shown is (IsUtf8-are_ascii shown h)

content_is_utf8 : (sort : ShownAs) (width : ℕ) (content text : List ℕ) → IsContentText sort width content text → IsUtf8 (drop 1 text)
content_is_utf8 of_truth width content text h = ascii_behind text (truth_text width content) h (truth_is_ascii width content)
content_is_utf8 of_number width content text h = ascii_behind text (whole_number_text width content) h (whole_number_is_ascii width content)
content_is_utf8 of_bits width content text h = ascii_behind text (bits_text width content) h (bits_are_ascii width content)
content_is_utf8 of_null width [] text h = subst (λ (l : List ℕ). IsUtf8 (drop 1 l)) (sym h) IsUtf8-nil
content_is_utf8 of_null width (o ∷ os) text h = ascii_behind text (octets_text width (o ∷ os)) h (octets_are_ascii width (o ∷ os))
content_is_utf8 (of_identifier relative) width content text (name, named, is) =
    ascii_behind text (identifier_text width relative name content) is
    (identifier_is_ascii width relative name content (are_shown relative content) refl named)
content_is_utf8 (of_string coding) width content text (quoted, shows, is) =
    behind_space text quoted is (quoted_is_utf8 coding width content quoted shows)
content_is_utf8 of_octets width content text h = ascii_behind text (octets_text width content) h (octets_are_ascii width content)

pub value_is_utf8 : (width : ℕ) (line : Line) (constructed is_entered : Bool) (text : List ℕ) →
    IsValueText width line constructed is_entered text → IsUtf8 (drop 1 text)
value_is_utf8 width line true is_entered text h = subst (λ (l : List ℕ). IsUtf8 (drop 1 l)) (sym h) IsUtf8-nil
value_is_utf8 width line false true text h = ascii_behind text (codes "holds") h refl
value_is_utf8 width line false false text h = content_is_utf8 (shown_as line.class line.number) width line.content.now text h
