-- The line of an element.
use Rattle.std.specs.Prelude.{ℕ, ◌≡◌, Bool, true, false, List, [], ◌∷◌, ◌++◌, Option, Some, None, codes, nat_eq, nat_le, ◌&&◌}
use Rattle.std.specs.Prelude.{◌||◌, if◌then◌else◌}
use Rattle.asn1_headers.specs.declared.class.Class.{Class}
use Rattle.asn1_headers.specs.declared.class.Class.TheVariants.{Universal}
use Rattle.asn1_names.specs.Names.{IsNameOf}
use Rattle.asn1_walk.specs.declared.line.Line.{Line}
use Rattle.asn1_engine.specs.declared.texts.Coding.{Coding}
use Rattle.asn1_engine.specs.declared.texts.Coding.TheVariants.{Utf8, Ascii, Utf16, Ucs4}
use Rattle.asn1_engine.specs.Heads.{head_text}
use Rattle.asn1_words.specs.Numbers.{are_shown}
use Rattle.asn1_engine.specs.Texts.{IsQuoted}
use Rattle.asn1_engine.specs.Values.{octets_text, truth_text, whole_number_text, bits_text, identifier_text}

-- as what the contents octets of a primitive element are shown
pub data ShownAs : Type 0 where
  of_truth : ShownAs
  of_number : ShownAs
  of_bits : ShownAs
  of_null : ShownAs
  of_identifier : (relative : Bool) → ShownAs
  of_string : Coding → ShownAs
  of_octets : ShownAs

abbrev pub is_in_range : ℕ → ℕ → ℕ → Bool
is_in_range first last number = nat_le first number && nat_le number last

-- strings and times whose octets from 80 on are not judged
abbrev pub is_plain_string : ℕ → Bool
is_plain_string number = nat_eq number 7 || nat_eq number 14 || is_in_range 18 27 number || is_in_range 31 34 number

-- by the number of a universal tag (X.680 8.6, table 1)
abbrev pub number_shown_as : ℕ → ShownAs
number_shown_as number =
    if nat_eq number 1 then of_truth
    else if nat_eq number 2 || nat_eq number 10 then of_number
    else if nat_eq number 3 then of_bits
    else if nat_eq number 5 then of_null
    else if nat_eq number 6 then of_identifier false
    else if nat_eq number 13 then of_identifier true
    else if nat_eq number 12 || nat_eq number 35 || nat_eq number 36 then of_string Utf8
    else if nat_eq number 28 then of_string Ucs4
    else if nat_eq number 30 then of_string Utf16
    else if is_plain_string number then of_string Ascii
    else of_octets

abbrev pub shown_as : Class → ℕ → ShownAs
shown_as Universal number = number_shown_as number
shown_as _ number = of_octets

-- the name of an identifier that is not relative, where it has one
abbrev pub IsShownName : (relative : Bool) → List ℕ → Option (List ℕ) → Type 0
IsShownName true content name = name ≡ None
IsShownName false content None = (name : List ℕ) → IsNameOf content name → ⊥
IsShownName false content (Some name) = IsNameOf content name

-- the text of contents octets; a NULL has none
abbrev pub IsContentText : ShownAs → ℕ → List ℕ → List ℕ → Type 0
IsContentText of_truth width content text = text ≡ codes " " ++ truth_text width content
IsContentText of_number width content text = text ≡ codes " " ++ whole_number_text width content
IsContentText of_bits width content text = text ≡ codes " " ++ bits_text width content
IsContentText of_null width [] text = text ≡ []
IsContentText of_null width (o ∷ os) text = text ≡ codes " " ++ octets_text width (o ∷ os)
IsContentText (of_identifier relative) width content text =
    (name : Option (List ℕ)) × (are_shown relative content ≡ true → IsShownName relative content name) ×
    (text ≡ codes " " ++ identifier_text width relative name content)
IsContentText (of_string coding) width content text =
    (quoted : List ℕ) × IsQuoted coding width content quoted × (text ≡ codes " " ++ quoted)
IsContentText of_octets width content text = text ≡ codes " " ++ octets_text width content

-- the value behind the front: nothing where the element is constructed, a word where lines of what it holds follow
abbrev pub IsValueText : ℕ → Line → (constructed is_entered : Bool) → List ℕ → Type 0
IsValueText width line true is_entered text = text ≡ []
IsValueText width line false true text = text ≡ codes " holds"
IsValueText width line false false text = IsContentText (shown_as line.class line.number) width line.content.now text

-- the line, with its end
abbrev pub IsLineText : ℕ → Line → Bool → List ℕ → Type 0
IsLineText width line is_entered text = (value : List ℕ) × IsValueText width line line.constructed is_entered value ×
    (text ≡ head_text line ++ value ++ 10 ∷ [])
