-- Texts of digits and words are ASCII, and so UTF-8.
use Rattle.std.proofs.Common.{◌≡◌, ℕ, zero, suc, ℤ, pos, negsuc, ◌+◌, ◌/◌, ◌%◌, ◌<◌, Bool, true, false, nat_lt, if◌then◌else◌}
use Rattle.std.proofs.Common.{List, [], ◌∷◌, ◌++◌, length, get_or, map, take, codes, refl, arith, nat_eq}
use Rattle.std.specs.Fmt.{digits, digits_onto, digit_glyph, radix_digits}
use Rattle.std.specs.Int.Digits.{digits_of, AllBelowBase}
use Rattle.std.proofs.lemmas.Bool.{and_parts, ltb-true, lt-ltb}
use Rattle.std.proofs.lemmas.Int.Digits.{all_below_base_digits_of}
use Rattle.hex.specs.Hex.{encode_lower, encode_with, lower_digits}
use Rattle.json.proofs.Printed.Utf8.{are_ascii}
use Rattle.asn1_words.specs.Words.{number_text, integer_text, left_out_text, truncated_text}
use Rattle.asn1_words.specs.Numbers.{dotted_arcs, more_arcs_text}

abbrev pub IsAsciiText : List ℕ → Type 0
IsAsciiText text = are_ascii text ≡ true

-- two texts, one of two, and the front of one
pub both : (xs ys : List ℕ) → IsAsciiText xs → IsAsciiText ys → IsAsciiText (xs ++ ys)
both [] ys h k = k
both (x ∷ xs) ys h k =
    let p = and_parts (nat_lt x 128) (are_ascii xs) h in rw p.0 (both xs ys p.1 k)

pub either : (first : Bool) (xs ys : List ℕ) → IsAsciiText xs → IsAsciiText ys → IsAsciiText (if first then xs else ys)
either true xs ys h k = h
either false xs ys h k = k

front : (n : ℕ) (xs : List ℕ) → IsAsciiText xs → IsAsciiText (take n xs)
front zero xs h = refl
front (suc n) [] h = refl
front (suc n) (x ∷ xs) h = let p = and_parts (nat_lt x 128) (are_ascii xs) h in rw p.0 (front n xs p.1)

-- decimal digits
digits_are_ascii : (digits : List ℕ) → AllBelowBase 10 digits → IsAsciiText (map (λ digit. 48 + digit) digits)
digits_are_ascii [] h = refl
digits_are_ascii (digit ∷ digits) h =
    let e : nat_lt (48 + digit) 128 ≡ true = lt-ltb (48 + digit) 128 (omega (arith, h.0)) in
    rw e (digits_are_ascii digits h.1)

pub number_is_ascii : (n : ℕ) → IsAsciiText (number_text n)
number_is_ascii zero = refl
number_is_ascii (suc n) = digits_are_ascii (digits_of 10 (suc n)) (all_below_base_digits_of 10 (suc n) (omega arith))

pub integer_is_ascii : (z : ℤ) → IsAsciiText (integer_text z)
integer_is_ascii (pos n) = number_is_ascii n
integer_is_ascii (negsuc n) = both (codes "-") (number_text (suc n)) refl (number_is_ascii (suc n))

pub left_out_is_ascii : (count : ℕ) → IsAsciiText (left_out_text count)
left_out_is_ascii count =
    both (codes ".. (" ++ number_text count) (codes " octets)") (both (codes ".. (") (number_text count) refl (number_is_ascii count)) refl

pub truncated_is_ascii : (width count : ℕ) (text : List ℕ) → IsAsciiText text → IsAsciiText (truncated_text width count text)
truncated_is_ascii width count text h = either (nat_lt width (length text)) (take width text ++ left_out_text count) text
    (both (take width text) (left_out_text count) (front width text h) (left_out_is_ascii count)) h

more_arcs_are_ascii : (arcs : List ℕ) → IsAsciiText (more_arcs_text arcs)
more_arcs_are_ascii [] = refl
more_arcs_are_ascii (arc ∷ arcs) = both (codes "." ++ number_text arc) (more_arcs_text arcs)
    (both (codes ".") (number_text arc) refl (number_is_ascii arc)) (more_arcs_are_ascii arcs)

pub arcs_are_ascii : (arcs : List ℕ) → IsAsciiText (dotted_arcs arcs)
arcs_are_ascii [] = refl
arcs_are_ascii (arc ∷ arcs) = both (number_text arc) (more_arcs_text arcs) (number_is_ascii arc) (more_arcs_are_ascii arcs)

-- hexadecimal digits
each_below : (xs : List ℕ) → IsAsciiText xs → (i : ℕ) → get_or xs i 0 < 128
each_below [] e i = omega arith
each_below (x ∷ xs) e zero = ltb-true x 128 (and_parts (nat_lt x 128) (are_ascii xs) e).0
each_below (x ∷ xs) e (suc i) = each_below xs (and_parts (nat_lt x 128) (are_ascii xs) e).1 i

pub hexadecimal_is_ascii : (octets : List ℕ) → IsAsciiText (encode_lower octets)
unfolding encode_with
hexadecimal_is_ascii [] = refl
hexadecimal_is_ascii (o ∷ os) =
    let a : nat_lt (get_or lower_digits (o / 16) 0) 128 ≡ true = lt-ltb (get_or lower_digits (o / 16) 0) 128 (each_below lower_digits refl (o / 16)) in
    let b : nat_lt (get_or lower_digits (o % 16) 0) 128 ≡ true = lt-ltb (get_or lower_digits (o % 16) 0) 128 (each_below lower_digits refl (o % 16)) in
    rw (a, b) (hexadecimal_is_ascii os)

glyph_below : (d : ℕ) → d < 16 → digit_glyph false d < 128
glyph_below d h = grind arith

digits_onto_are_ascii : (k n : ℕ) (behind : List ℕ) → IsAsciiText behind → IsAsciiText (digits_onto k 16 false n behind)
digits_onto_are_ascii zero n behind h = h
digits_onto_are_ascii (suc k) n behind h =
    let e : nat_lt (digit_glyph false (n % 16)) 128 ≡ true = lt-ltb (digit_glyph false (n % 16)) 128 (glyph_below (n % 16) (omega arith)) in
    let more : IsAsciiText (digit_glyph false (n % 16) ∷ behind) = rw e h in
    either (nat_eq (n / 16) 0) (digit_glyph false (n % 16) ∷ behind) (digits_onto k 16 false (n / 16) (digit_glyph false (n % 16) ∷ behind))
    more (digits_onto_are_ascii k (n / 16) (digit_glyph false (n % 16) ∷ behind) more)

pub radix_digits_are_ascii : (n : ℕ) → IsAsciiText (radix_digits 16 false n)
unfolding digits
radix_digits_are_ascii n = digits_onto_are_ascii 64 n [] refl
