-- Strings between quotation marks.
use Rattle.std.specs.Prelude.{ℕ, zero, suc, ◌≡◌, ◌<◌, ◌⊎◌, Bool, false, List, [], ◌∷◌, ◌++◌, length, codes}
use Rattle.std.specs.Prelude.{encode_utf8, nat_eq, ◌||◌, if◌then◌else◌}
use Rattle.std.specs.Fmt.{radix_digits}
use Rattle.hex.specs.Hex.{encode_lower}
use Rattle.x690.specs.Characters.{BeginsWithCharacter, utf16_octets_of, ucs4_octets_of}
use Rattle.asn1_words.specs.Words.{left_out_text}
use Rattle.asn1_engine.specs.Visible.{is_shown_as_it_is}
use Rattle.asn1_engine.specs.declared.texts.Coding.{Coding}
use Rattle.asn1_engine.specs.declared.texts.Coding.TheVariants.{Utf8, Ascii, Utf16, Ucs4}

-- a character begins the octets, and the rest follows
abbrev pub BeginsByCoding : Coding → List ℕ → ℕ → List ℕ → Type 0
BeginsByCoding Utf8 octets c rest = BeginsWithCharacter encode_utf8 octets c rest
BeginsByCoding Ascii octets c rest = (c < 128) × (octets ≡ c ∷ rest)
BeginsByCoding Utf16 octets c rest = BeginsWithCharacter utf16_octets_of octets c rest
BeginsByCoding Ucs4 octets c rest = BeginsWithCharacter ucs4_octets_of octets c rest

-- a character as it is shown: quotation marks and backslashes behind a backslash, what is not visible by its number
abbrev pub is_marked_character : ℕ → Bool
is_marked_character c = nat_eq c 34 || nat_eq c 92

abbrev pub escape_text : ℕ → List ℕ
escape_text c = codes "\\u{" ++ radix_digits 16 false c ++ codes "}"

abbrev pub character_text : ℕ → List ℕ
character_text c =
    if is_marked_character c then codes "\\" ++ encode_utf8 c
    else if is_shown_as_it_is c then encode_utf8 c else escape_text c

-- The first character as it is shown, and the octets behind it. An octet that begins no character is shown by its
-- hexadecimal digits.
abbrev pub ShowsFirst : Coding → List ℕ → List ℕ → List ℕ → Type 0
ShowsFirst coding octets text rest =
    ((c : ℕ) × BeginsByCoding coding octets c rest × (text ≡ character_text c)) ⊎
    ((o : ℕ) × (octets ≡ o ∷ rest) × ((c : ℕ) (others : List ℕ) → BeginsByCoding coding octets c others → ⊥) ×
    (text ≡ codes "\\x" ++ encode_lower (o ∷ [])))

-- so many characters of octets at most, as they are shown, and the octets that are left
abbrev pub Shows : Coding → ℕ → List ℕ → List ℕ → List ℕ → Type 0
Shows coding zero octets text left = (text ≡ []) × (left ≡ octets)
Shows coding (suc width) [] text left = (text ≡ []) × (left ≡ [])
Shows coding (suc width) (o ∷ os) text left = (first more rest : List ℕ) × ShowsFirst coding (o ∷ os) first rest ×
    Shows coding width rest more left × (text ≡ first ++ more)

-- the mark at the end, and how many octets the string has where not all of them are shown
abbrev pub end_text : ℕ → List ℕ → List ℕ
end_text count [] = codes "\""
end_text count (o ∷ os) = codes "\"" ++ left_out_text count

-- a string within so many characters
abbrev pub IsQuoted : Coding → ℕ → List ℕ → List ℕ → Type 0
IsQuoted coding width octets text = (inner left : List ℕ) × Shows coding width octets inner left ×
    (text ≡ codes "\"" ++ inner ++ end_text (length octets) left)
