-- The form of a line: a rule, a space, a name, a space, and octets in hexadecimal.
use Rattle.std.specs.Prelude.{◌≡◌, ◌≢◌, ℕ, ◌/◌, ◌%◌, ◌<◌, List, [], ◌∷◌, ◌++◌, All, slice_index, codes, ◌⊎◌}
use Rattle.asn1vec_answers.specs.declared.request.Rule.{Rule}
use Rattle.asn1vec_answers.specs.declared.request.Rule.TheVariants.{Ber, Der}

-- the word of a rule
abbrev pub word_of : Rule → List ℕ
word_of Ber = codes "ber"
word_of Der = codes "der"

-- c is the hexadecimal digit d, in either case
abbrev pub IsDigit : ℕ → ℕ → Type 0
IsDigit d c =
    (d < 16) × ((c ≡ slice_index (codes "0123456789abcdef") d) ⊎ (c ≡ slice_index (codes "0123456789ABCDEF") d))

-- two digits for each octet, first that of its high four bits
abbrev pub AreHexadecimalDigits : List ℕ → List ℕ → Type 0
AreHexadecimalDigits [] digits = digits ≡ []
AreHexadecimalDigits (octet ∷ octets) digits = (high low : ℕ) × (rest : List ℕ) × IsDigit (octet / 16) high ×
    IsDigit (octet % 16) low × AreHexadecimalDigits octets rest × (digits ≡ high ∷ low ∷ rest)

-- `-` for no octets, else hexadecimal digits
abbrev pub StandsFor : List ℕ → List ℕ → Type 0
StandsFor [] digits = digits ≡ codes "-"
StandsFor (octet ∷ octets) digits = AreHexadecimalDigits (octet ∷ octets) digits

-- The line has the form, and these are its parts. Every line is known to have no 0a. A name is any octets but spaces.
-- So a carriage return belongs to the name, or makes the digits wrong.
pub record IsRequest (line : List ℕ) (rule : Rule) (name octets : List ℕ) : Type 0 where
  pub named : name ≢ []
  pub one_word : All (λ x. x ≢ 32) name
  pub digits : List ℕ
  pub stands : StandsFor octets digits
  pub parts : line ≡ word_of rule ++ (codes " " ++ (name ++ (codes " " ++ digits)))

-- the line has another form
abbrev pub IsOtherForm : List ℕ → Type 0
IsOtherForm line = (rule : Rule) (name octets : List ℕ) → ¬ IsRequest line rule name octets

-- the line begins with the rule and a space
abbrev pub BeginsWithRule : List ℕ → Rule → List ℕ → Type 0
BeginsWithRule line rule rest = line ≡ word_of rule ++ (codes " " ++ rest)

-- the line begins with no rule
abbrev pub IsOtherRule : List ℕ → Type 0
IsOtherRule line = (rule : Rule) (rest : List ℕ) → ¬ BeginsWithRule line rule rest
