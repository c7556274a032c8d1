-- The front of an element's line: all but its value.
use Rattle.std.specs.Prelude.{ℕ, ◌*◌, Bool, true, false, List, [], ◌∷◌, ◌++◌, min, get_or, codes, nat_lt, nat_eq}
use Rattle.std.specs.Prelude.{if◌then◌else◌, ◌||◌}
use Rattle.asn1_headers.specs.Tag.{text_or}
use Rattle.asn1_headers.specs.declared.class.Class.{Class}
use Rattle.asn1_headers.specs.declared.class.Class.TheVariants.{Universal, Application, ContextSpecific, Private}
use Rattle.asn1_headers.specs.declared.length.Length.{Length}
use Rattle.asn1_headers.specs.declared.length.Length.TheVariants.{Definite, Indefinite}
use Rattle.asn1_walk.specs.declared.line.Line.{Line}
use Rattle.asn1_words.specs.Words.{spaces, right, left, number_text}

-- the names of the universal types by their tag numbers, empty where there is none (X.680 8.6, table 1)
abbrev pub type_names : List (List ℕ)
type_names = [] ∷ codes "BOOLEAN" ∷ codes "INTEGER" ∷ codes "BIT STRING" ∷ codes "OCTET STRING" ∷ codes "NULL" ∷
    codes "OBJECT IDENTIFIER" ∷ codes "ObjectDescriptor" ∷ codes "EXTERNAL" ∷ codes "REAL" ∷ codes "ENUMERATED" ∷
    codes "EMBEDDED PDV" ∷ codes "UTF8String" ∷ codes "RELATIVE-OID" ∷ codes "TIME" ∷ [] ∷ codes "SEQUENCE" ∷
    codes "SET" ∷ codes "NumericString" ∷ codes "PrintableString" ∷ codes "TeletexString" ∷ codes "VideotexString" ∷
    codes "IA5String" ∷ codes "UTCTime" ∷ codes "GeneralizedTime" ∷ codes "GraphicString" ∷ codes "VisibleString" ∷
    codes "GeneralString" ∷ codes "UniversalString" ∷ codes "CHARACTER STRING" ∷ codes "BMPString" ∷ codes "DATE" ∷
    codes "TIME-OF-DAY" ∷ codes "DATE-TIME" ∷ codes "DURATION" ∷ codes "OID-IRI" ∷ codes "RELATIVE-OID-IRI" ∷ []

abbrev pub type_name : ℕ → List ℕ
type_name number = get_or type_names number []

-- a tag by its type's name, or by class and number (X.680 8)
abbrev pub tag_text : Class → ℕ → List ℕ
tag_text Universal number = text_or (type_name number) (codes "UNIVERSAL " ++ number_text number)
tag_text Application number = codes "APPLICATION " ++ number_text number
tag_text ContextSpecific number = codes "[" ++ number_text number ++ codes "]"
tag_text Private number = codes "PRIVATE " ++ number_text number

-- whether elements of a universal type are constructed in DER
abbrev pub is_mostly_constructed : ℕ → Bool
is_mostly_constructed number =
    nat_eq number 8 || nat_eq number 11 || nat_eq number 16 || nat_eq number 17 || nat_eq number 29

-- a word for the form, where the type's elements mostly have the other one
abbrev pub form_text : Class → ℕ → Bool → List ℕ
form_text Universal number true = if is_mostly_constructed number then [] else codes " (constructed)"
form_text Universal number false = if is_mostly_constructed number then codes " (primitive)" else []
form_text _ number constructed = []

-- how many contents octets there are
abbrev pub length_text : Length → List ℕ
length_text (Definite count) = left 10 (number_text count)
length_text Indefinite = codes "indefinite"

-- two columns for each element around it, 80 at most; the depth is told where it is more
abbrev pub depth_text : ℕ → List ℕ
depth_text depth =
    spaces (2 * min depth 40) ++ (if nat_lt 40 depth then codes "(in " ++ number_text depth ++ codes ") " else [])

-- offset, header octets, contents octets, depth, tag, form
abbrev pub head_text : Line → List ℕ
head_text line = right 7 (number_text line.offset) ++ codes " " ++ right 2 (number_text line.header_len) ++ codes "+" ++
    length_text line.length ++ codes " " ++ depth_text line.depth ++ tag_text line.class line.number ++
    form_text line.class line.number line.constructed
