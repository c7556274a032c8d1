-- What an element in hand is read as is what a reader answers to its octets.
use Rattle.std.proofs.Common.{◌≡◌, inl, inr, refl, ℕ, Bool, List}
use Rattle.std.specs.Prelude.{Result, Ok, Err}
use Rattle.x690.specs.Octets.{IsOctets}
use Rattle.x690.specs.Elements.{Parts, IsDerElement}
use Rattle.x690.specs.Faults.{Fault}
use Rattle.x690.specs.Nested.{IsElement, ElementFault}
use Rattle.asn1_headers.specs.Answers.{Exactly, TellsMemory}
use Rattle.asn1_headers.specs.Ber.{EndsWithin, max_depth}
use Rattle.asn1_headers.specs.Header.Reading.{ber_refusal, ber_violation}
use Rattle.asn1_headers.specs.declared.error.Err.{Err as Refusal}
use Rattle.asn1_headers.specs.declared.error.Err.TheVariants.{Error as refused}
use Rattle.asn1_headers.specs.declared.error.Error.{Error}
use Rattle.asn1_rs.specs.declared.asn1_types.any.Any.{Any}
use Rattle.asn1_rs.specs.Any.{parts_of}
use Rattle.asn1_rs.specs.Any.Decoded.{CheckedThenConverted, DecodesExplicit, IsFront, IsReadAgain, IsWordInHand}
use Rattle.asn1_rs.specs.Any.Decoded.{TakesFront}
use Rattle.asn1_rs.specs.Checks.{CheckGives}
use Rattle.asn1_rs.specs.Grammar.{NoCheck, TakesBody}
use Rattle.asn1_rs.specs.Grammar.Item.{ItemGrammar, ber_words}
use Rattle.asn1_rs.specs.Laws.Readers.{ber_elements, element_exact, none_now, passes_all}
use Rattle.asn1_rs.specs.Laws.Whole.{memory_becomes}
use Rattle.asn1_rs.specs.Tagged.Explicit.{ExplicitGives}
use Rattle.asn1_rs.specs.Traits.{BerGives, ElementGives, PassesAll}

-- Elements that are checked and converted.
module _ {T : Type 0} (ElementOf : List ℕ → Parts → Type 0) (FaultOf : List ℕ → Fault → Type 0)
    (refusal : Fault → Refusal Error) where
  -- In this order the answer is the reader's.
  pub checked_reads : (check : CheckGives) (convert : Any → Result T Error → Type 0) (any : Any)
      (answer : Result T Error) → CheckedThenConverted check convert any answer →
      IsReadAgain ElementOf (ElementGives ElementOf FaultOf refusal check convert (λ (x y : Error). y ≡ x)) any answer
  checked_reads check convert any (Ok x) g octets rest begins = (any, begins, g.0, g.1)
  checked_reads check convert any (Err e) (inl c) octets rest begins =
      (refused e, inr (any, rest, begins, inl (e, c, (e, refl, refl))), refl)
  checked_reads check convert any (Err e) (inr g) octets rest begins =
      (refused e, inr (any, rest, begins, inr (g.0, (e, g.1, refl))), refl)

  -- So it is where nothing is checked.
  pub converted_reads : (convert : Any → Result T Error → Type 0) (any : Any) (answer : Result T Error) →
      convert any answer →
      IsReadAgain ElementOf (ElementGives ElementOf FaultOf refusal PassesAll convert (λ (x y : Error). y ≡ x)) any
      answer
  converted_reads convert any (Ok x) g octets rest begins = (any, begins, refl, g)
  converted_reads convert any (Err e) g octets rest begins =
      (refused e, inr (any, rest, begins, inr (refl, (e, g, refl))), refl)

-- And so it is of values under an explicit tag.
pub explicit_reads : {T W : Type 0} (class number : ℕ) (inner : W → T)
    (reads : List ℕ → Result (List ℕ × T) (Refusal Error) → Type 0) (any : Any) (answer : Result W Error) →
    DecodesExplicit class number inner reads any answer →
    IsReadAgain IsDerElement (ExplicitGives class number inner reads (λ (x y : Error). y ≡ x)) any answer
explicit_reads class number inner reads any (Ok w) g octets rest begins = (parts_of any, begins.front, g)
explicit_reads class number inner reads any (Err e) g octets rest begins =
    (g.0, inr (parts_of any, rest, begins.front, g.1), g.2)

-- Where a reader is exact, what it answers of the octets at whose front an element stands is their word.
module _ {T V : Type 0} (ElementOf : List ℕ → Parts → Type 0) (IsTruncated : List ℕ → Type 0)
    (G : List ℕ → V → Type 0) (value : T → V) (allocates : Bool)
    (reads : List ℕ → Result (List ℕ × T) (Refusal Error) → Type 0)
    (exact : (octets : List ℕ) (answer : Result (List ℕ × T) (Refusal Error)) → IsOctets octets → reads octets answer →
    Exactly IsTruncated G value (TellsMemory allocates (λ (x y : Error). y ≡ x)) octets answer) where
  front_exact : (octets rest : List ℕ) → IsOctets octets → (answer : Result T Error) →
      TakesFront reads octets rest answer → IsFront G value allocates octets rest answer
  front_exact octets rest k (Ok x) g = exact octets (Ok (rest, x)) k g
  front_exact octets rest k (Err e) (r, g, b) = elim (exact octets (Err r) k g) [
    | inl m ↦ inl (m.0, memory_becomes allocates r e m b)
    | inr n ↦ inr (λ v others f. none_now (IsTruncated octets) r G octets n f.word others v f.is f.fits)
  ]

  -- And what an element in hand is read as.
  pub word_in_hand : (any : Any) (answer : Result T Error) → IsReadAgain ElementOf reads any answer →
      IsWordInHand ElementOf G value allocates any answer
  word_in_hand any answer g octets rest k begins = front_exact octets rest k answer (g octets rest begins)

-- By BER it is converted, and so a word where the conversion is exact.
pub converted_in_hand : {T : Type 0} (G : ItemGrammar T) (convert : Any → Result T Error → Type 0) →
    ((any : Any) (answer : Result T Error) → IsOctets any.content.now → convert any answer →
    TakesBody G.Body G.value G.allocates (λ (x y : Error). y ≡ x) (parts_of any) answer) →
    (any : Any) (answer : Result T Error) → convert any answer →
    IsWordInHand (IsElement max_depth) (ber_words G) G.value G.allocates any answer
converted_in_hand {T} G convert body_exact any answer given =
    word_in_hand (IsElement max_depth) EndsWithin (ber_words G) G.value G.allocates reads exact any answer
    (converted_reads (IsElement max_depth) (ElementFault max_depth) ber_refusal convert any answer given)
  where
    reads : List ℕ → Result (List ℕ × T) (Refusal Error) → Type 0
    reads = BerGives convert (λ (x y : Error). y ≡ x)

    exact : (octets : List ℕ) (read : Result (List ℕ × T) (Refusal Error)) → IsOctets octets → reads octets read →
        Exactly EndsWithin (ber_words G) G.value (TellsMemory G.allocates (λ (x y : Error). y ≡ x)) octets read
    exact octets read k g = element_exact (IsElement max_depth) (ElementFault max_depth) EndsWithin ber_elements
        ber_violation PassesAll convert (λ (x y : Error). y ≡ x) NoCheck G.Body G.value G.allocates (ber_words G)
        passes_all body_exact (λ o v w. w) (λ o v w. w) octets read g
