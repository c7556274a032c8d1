-- Which strings are shown by the elements that they hold.
use Rattle.std.specs.Prelude.{◌≡◌, ℕ, zero, suc, Bool, true, false, not, List, ◌∷◌, ◌++◌, ◌⊎◌, nat_eq, ◌&&◌}
use Rattle.std.specs.Bool.{beq}
use Rattle.x690.specs.Identifiers.{Identifier}
use Rattle.x690.specs.Lengths.{LengthForm}
use Rattle.x690.specs.Rules.{ber_rule}
use Rattle.x690.specs.Elements.{IsHeader}
use Rattle.asn1_headers.specs.declared.class.Class.TheVariants.{Universal}
use Rattle.asn1_walk.specs.declared.line.Line.{Line}
use Rattle.asn1_engine.specs.declared.trees.Options.{Options}
use Rattle.asn1_engine.specs.Findings.{AreBerElements}
use Rattle.asn1_engine.specs.Heads.{is_mostly_constructed}

-- The octets of a string (X.690 8.6.2, 8.7). They are the contents octets of an OCTET STRING, or those of a BIT STRING
-- without unused bits behind their count. The number is that of the octets before them.
abbrev pub AreStringOctets : Line → ℕ → List ℕ → Type 0
AreStringOctets line zero octets = (line.constructed ≡ false) × (line.class ≡ Universal) × (line.number ≡ 4) ×
    (line.content.now ≡ octets)
AreStringOctets line (suc n) octets = (line.constructed ≡ false) × (line.class ≡ Universal) × (line.number ≡ 3) ×
    (n ≡ 0) ×
    (line.content.now ≡ 0 ∷ octets)

-- a universal tag of a type, in the form that this has in DER
abbrev pub is_usual : Identifier → Bool
is_usual id =
    nat_eq id.class 0 && not (nat_eq id.number 0) && beq id.constructed (is_mostly_constructed id.number)

-- a header by BER with this identifier begins the octets
abbrev pub BeginsWithHeaderOf : List ℕ → Identifier → Type 0
BeginsWithHeaderOf octets id =
    (header rest : List ℕ) × (form : LengthForm) × IsHeader ber_rule header id form × (octets ≡ header ++ rest)

-- the octets begin as usual
abbrev pub BeginsAsUsual : List ℕ → Type 0
BeginsAsUsual octets = (id : Identifier) × BeginsWithHeaderOf octets id × (is_usual id ≡ true)

-- the answer says whether the octets begin as usual
abbrev pub TellsUsual : List ℕ → Bool → Type 0
TellsUsual octets true = BeginsAsUsual octets
TellsUsual octets false = BeginsAsUsual octets → ⊥

-- an element at least, the first as usual, and no more than elements
abbrev pub HoldsElements : List ℕ → Type 0
HoldsElements octets = BeginsAsUsual octets × AreBerElements octets

-- the answer says whether the octets hold elements
abbrev pub TellsInner : List ℕ → Bool → Type 0
TellsInner octets true = HoldsElements octets
TellsInner octets false = HoldsElements octets → ⊥

-- the element is no string, or its octets do not hold elements
abbrev pub HoldsNoElements : Line → Type 0
HoldsNoElements line = (count : ℕ) (octets : List ℕ) → AreStringOctets line count octets → HoldsElements octets → ⊥

-- why an element is shown by its line alone: no more strings are entered, or it holds no elements
abbrev pub IsNotEntered : Options → (strings : ℕ) → Line → Type 0
IsNotEntered options strings line = (strings ≡ 0) ⊎ (options.inner ≡ false) ⊎ HoldsNoElements line
