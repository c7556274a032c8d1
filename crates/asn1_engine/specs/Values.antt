-- The value of an element in its line.
use Rattle.std.specs.Prelude.{ℕ, ◌*◌, ◌-◌, ◌/◌, Bool, List, [], ◌∷◌, ◌++◌, length, take, codes}
use Rattle.std.specs.Prelude.{nat_lt, nat_le, nat_eq, if◌then◌else◌, ◌&&◌, ◌||◌, Option, Some, None}
use Rattle.hex.specs.Hex.{encode_lower}
use Rattle.x690.specs.Digits.{twos_complement_value}
use Rattle.asn1_words.specs.Words.{number_text, integer_text, left_out_text, truncated_text}
use Rattle.asn1_words.specs.Numbers.{dotted_arcs, arcs, are_shown}

-- octets in hexadecimal within so many columns, and how many they are where not all are shown
abbrev pub octets_text : ℕ → List ℕ → List ℕ
octets_text width [] = codes "(empty)"
octets_text width (octet ∷ octets) = encode_lower (take (width / 2) (octet ∷ octets)) ++
    (if nat_lt (width / 2) (length (octet ∷ octets))
    then left_out_text (length (octet ∷ octets)) else [])

-- BOOLEAN (X.690 8.2): octets that are none by DER stand behind the word
abbrev pub truth_text : ℕ → List ℕ → List ℕ
truth_text width (octet ∷ []) =
    if nat_eq octet 0 then codes "FALSE" else if nat_eq octet 255 then codes "TRUE"
    else codes "TRUE (" ++ encode_lower (octet ∷ []) ++ codes ")"
truth_text width content = octets_text width content

-- INTEGER and ENUMERATED (8.3, 8.4): all decimals of 40 octets at most, and else the octets in hexadecimal
abbrev pub whole_number_text : ℕ → List ℕ → List ℕ
whole_number_text width [] = octets_text width []
whole_number_text width (octet ∷ octets) =
    if nat_le (length (octet ∷ octets)) 40 then integer_text (twos_complement_value (octet ∷ octets))
    else octets_text width (octet ∷ octets)

-- BIT STRING (8.6.2): the number of bits, and the octets behind the count of unused ones
abbrev pub bits_text : ℕ → List ℕ → List ℕ
bits_text width [] = octets_text width []
bits_text width (unused ∷ octets) =
    if nat_lt unused 8 && (nat_lt 0 (length octets) || nat_eq unused 0)
    then number_text (8 * length octets - unused) ++ codes " bits " ++ octets_text width octets
    else octets_text width (unused ∷ octets)

-- a name in parentheses, where there is one
abbrev pub name_text : Option (List ℕ) → List ℕ
name_text None = []
name_text (Some name) = codes " (" ++ name ++ codes ")"

-- arcs with points between them: all of 40 octets at most, and else as many columns as the width has
abbrev pub shown_arcs_text : ℕ → Bool → List ℕ → List ℕ
shown_arcs_text width relative content =
    if nat_le (length content) 40 then dotted_arcs (arcs relative content)
    else truncated_text width (length content) (dotted_arcs (arcs relative content))

-- OBJECT IDENTIFIER and RELATIVE-OID (8.19, 8.20)
abbrev pub identifier_text : ℕ → Bool → Option (List ℕ) → List ℕ → List ℕ
identifier_text width relative name content =
    if are_shown relative content then shown_arcs_text width relative content ++ name_text name
    else octets_text width content
