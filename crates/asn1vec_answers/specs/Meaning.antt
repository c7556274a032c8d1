-- What a name stands for.
use Rattle.std.specs.Prelude.{List, ℕ, Bool, true, false, Option}
use Rattle.x690.specs.Rules.{Rule as HeaderRule, ber_rule, der_rule}
use Rattle.asn1_rs.specs.Optional.{IsLeftOut, OptionGives}
use Rattle.asn1vec_answers.specs.declared.request.Rule.{Rule}
use Rattle.asn1vec_answers.specs.declared.request.Rule.TheVariants.{Ber as ber, Der as der}
use Rattle.asn1vec_answers.specs.Shown.{Encoding, EncodingOfSome, Reading, ReadingByBer, ReadingByDer, option_text}

-- The data of a name.
-- These facts of a name change nothing of what an answer is. The name is read by one rule, has no writer, or has no
-- laws. The name allocates, or has values that are not in DER form.
pub record Meaning : Type 1 where
  -- the type of its values
  pub T : Type 0
  -- whether the name is there by a rule
  pub is_there : Rule → Bool
  -- what reading octets by the rule may answer
  pub Reads : Rule → List ℕ → Reading T → Type 0
  -- how a value is shown
  pub text_of : T → List ℕ
  -- what may be said of its encoding
  pub Encodes : T → Encoding → Type 0
  -- whether out of memory may be answered
  pub reading_allocates : Bool
  pub writing_allocates : Bool

-- a name that is there by BER alone
abbrev pub is_ber : Rule → Bool
is_ber ber = true
is_ber der = false

-- a name that is there by DER alone
abbrev pub is_der : Rule → Bool
is_der ber = false
is_der der = true

-- read by either rule
abbrev pub ReadsByEither : {T V : Type 0} → (Ber Der : List ℕ → V → Type 0) → (T → V) → Bool →
    (ber_gives der_gives : List ℕ → Reading T → Type 0) → Rule → List ℕ → Reading T → Type 0
ReadsByEither Ber Der value allocates ber_gives der_gives ber = ReadingByBer Ber value allocates ber_gives
ReadsByEither Ber Der value allocates ber_gives der_gives der = ReadingByDer Der value allocates der_gives

-- how a rule reads headers
abbrev pub headers_by : Rule → HeaderRule
headers_by ber = ber_rule
headers_by der = der_rule

-- None where no octets, or a header of another tag number, are at the front. Then nothing is consumed. Elsewhere what
-- reading the value answers.
abbrev pub ReadsOptional : {T : Type 0} → ℕ → (Rule → List ℕ → Reading T → Type 0) → Rule → List ℕ →
    Reading (Option T) → Type 0
ReadsOptional number Reads rule = OptionGives (IsLeftOut (headers_by rule) number) (Reads rule)

-- Optional values of what a name stands for, whose elements have this tag number. None has no octets.
abbrev pub optional : ℕ → Meaning → Meaning
optional number m = record {
  T = Option m.T;
  is_there = m.is_there;
  Reads = ReadsOptional number m.Reads;
  text_of = option_text m.text_of;
  Encodes = EncodingOfSome m.writing_allocates m.Encodes;
  reading_allocates = m.reading_allocates;
  writing_allocates = m.writing_allocates;
}
