-- What callers of a lawful type know of their answers.
use Rattle.std.specs.Prelude.{◌≡◌, ◌<◌, ◌^◌, List, ℕ, length, Result, MatchResult}
use Rattle.std.specs.declared.vec.Vec.{Vec}
use Rattle.std.specs.declared.alloc.Global.{Global}
use Rattle.x690.specs.Identifiers.{IsTruncatedIdentifier}
use Rattle.asn1_headers.specs.Answers.{Exactly, TellsMemory}
use Rattle.asn1_headers.specs.Ber.{EndsWithin}
use Rattle.asn1_headers.specs.declared.error.Err.{Err as Refusal}
use Rattle.asn1_headers.specs.declared.error.Error.{Error}
use Rattle.asn1_headers.specs.declared.error.SerializeError.{SerializeError}
use Rattle.asn1_headers.specs.declared.error.SerializeError.TheVariants as serialize_errors
use Rattle.asn1_rs.specs.Grammar.Form.{IsStrict}
use Rattle.asn1_rs.specs.Grammar.Item.{ItemGrammar, ber_words}
use Rattle.asn1_rs.specs.ToDer.{Writing, whole_octets}

-- Ok exactly where a word of the grammar by DER begins the octets; an Err is final, or out of memory.
abbrev pub ReadsByDer : {T : Type 0} → ItemGrammar T → List ℕ → Result (List ℕ × T) (Refusal Error) → Type 0
ReadsByDer G = Exactly IsTruncatedIdentifier G.Der G.value (TellsMemory G.allocates (λ (e f : Error). f ≡ e))

-- the same by BER
abbrev pub ReadsByBer : {T : Type 0} → ItemGrammar T → List ℕ → Result (List ℕ × T) (Refusal Error) → Type 0
ReadsByBer G = Exactly EndsWithin (ber_words G) G.value (TellsMemory G.allocates (λ (e f : Error). f ≡ e))

-- Where its length fits, the octets are the one strict encoding of the value; an Err is out of memory.
abbrev pub WritesStrict : {T : Type 0} → ItemGrammar T → Writing T → T → Result (Vec ℕ Global) SerializeError → Type 0
WritesStrict G w x answer = length (whole_octets w x) < 2 ^ 64 →
    ∥ IsStrict G.Form (G.value x) (whole_octets w x) ∥₁ ×
    MatchResult answer (λ octets. octets.items ≡ whole_octets w x) (λ e. e ≡ serialize_errors.OutOfMemory)
