-- Elements as objects of JSON.
use Rattle.std.specs.Prelude.{ℕ, ◌≡◌, Bool, true, false, List, [], ◌∷◌, ◌++◌, codes, decimal, drop}
use Rattle.hex.specs.Hex.{encode_lower}
use Rattle.json.specs.Token.{Token, begin_object, end_object, key, string, number, boolean, null}
use Rattle.json.specs.Print.{print}
use Rattle.json.specs.Written.{Written}
use Rattle.asn1_headers.specs.declared.class.Class.{Class}
use Rattle.asn1_headers.specs.declared.class.Class.TheVariants.{Universal, Application, ContextSpecific, Private}
use Rattle.asn1_headers.specs.declared.length.Length.{Length}
use Rattle.asn1_headers.specs.declared.length.Length.TheVariants.{Definite, Indefinite}
use Rattle.asn1_walk.specs.declared.line.Line.{Line}
use Rattle.asn1_engine.specs.Heads.{tag_text}
use Rattle.asn1_engine.specs.Lines.{IsValueText}

-- a word for the class
abbrev pub class_word : Class → List ℕ
class_word Universal = codes "universal"
class_word Application = codes "application"
class_word ContextSpecific = codes "context"
class_word Private = codes "private"

-- how many contents octets there are; null in the indefinite form
abbrev pub length_token : Length → Token
length_token (Definite count) = number (decimal count)
length_token Indefinite = null

-- of a primitive element its value and its contents octets
abbrev pub value_tokens : (constructed : Bool) → Line → List ℕ → List Token
value_tokens true line value = []
value_tokens false line value =
    key (codes "value") ∷ string value ∷ key (codes "octets") ∷ string (encode_lower line.content.now) ∷ []

-- where the element stands, and how long it is
abbrev pub place_tokens : Line → List Token
place_tokens line =
    key (codes "offset") ∷ number (decimal line.offset) ∷ key (codes "depth") ∷ number (decimal line.depth) ∷
    key (codes "header") ∷ number (decimal line.header_len) ∷ key (codes "length") ∷ length_token line.length ∷ []

-- what its identifier octets say
abbrev pub tag_tokens : Line → List Token
tag_tokens line =
    key (codes "class") ∷ string (class_word line.class) ∷ key (codes "tag") ∷ number (decimal line.number) ∷
    key (codes "name") ∷ string (tag_text line.class line.number) ∷
    key (codes "constructed") ∷ boolean line.constructed ∷ []

-- the members of the object, in their order
abbrev pub member_tokens : Line → List ℕ → List Token
member_tokens line value = place_tokens line ++ tag_tokens line ++ value_tokens line.constructed line value

-- the object, in a line
abbrev pub object_text : List Token → List ℕ
object_text members = print (begin_object ∷ members ++ end_object ∷ []) ++ 10 ∷ []

-- the object of an element: the value is that of the line, without the space before it
abbrev pub IsObjectText : ℕ → Line → Bool → List ℕ → Type 0
IsObjectText width line is_entered text = (value : List ℕ) × IsValueText width line line.constructed is_entered value ×
    (text ≡ object_text (member_tokens line (drop 1 value)))

-- the object that tells at which offset no element begins, and why
abbrev pub refusal_tokens : ℕ → List ℕ → List Token
refusal_tokens offset why =
    key (codes "offset") ∷ number (decimal offset) ∷ key (codes "refused") ∷ string why ∷ []

abbrev pub refusal_object_text : ℕ → List ℕ → List ℕ
refusal_object_text offset why = object_text (refusal_tokens offset why)

-- a writer gains tokens, behind those that it has
abbrev pub GainsTokens : Written → Written → List Token → Type 0
GainsTokens old new gained = (new.before ≡ old.before) × (new.tokens ≡ old.tokens ++ gained)
