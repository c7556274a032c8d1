-- One more value of a row.
use Rattle.std.proofs.Common.{◌≡◌, ℕ, ◌+◌, ◌-◌, ◌<◌, List, [], ◌∷◌, ◌++◌, length, refl, ap, sym, ◌∙◌, append_assoc, arith}
use Rattle.std.specs.Borrow.{Bor}
use Rattle.std.proofs.lemmas.List.{append-nil, length-append}
use Rattle.std.proofs.lemmas.Grind.{flat_map-append}
use Rattle.x690.specs.Joined.{IsConcatenation}
use Rattle.asn1_headers.specs.Answers.{HasPrefix}
use Rattle.asn1_engine.specs.Trees.{sum_within}
use Rattle.asn1_schema.specs.declared.build.Schema.{Schema}
use Rattle.asn1_schema.specs.Reading.{IsWordOf}
use Rattle.asn1_schema.specs.Values.{Value}
use Rattle.asn1_typed.specs.Decodings.{ValuesBefore, value_text, value_texts}
use Rattle.asn1_typed.specs.declared.decoding.Decoding.{Decoding}
use Rattle.asn1_typed.specs.declared.input.Input.{Input}

joined_last : {V : Type 0} (G : List ℕ → V → Type 0) (words word : List ℕ) (vs : List V) (v : V) →
    IsConcatenation G words vs → G word v → IsConcatenation G (words ++ word) (vs ++ v ∷ [])
joined_last G words word [] v none w =
    (word, [], w, ap (λ l. l ++ word) none ∙ sym (append-nil word), refl)
joined_last G words word (u ∷ us) v (first, rest, fits, is, others) w =
    (first, rest ++ word, fits, ap (λ l. l ++ word) is ∙ append_assoc first rest word, joined_last G rest word us v others w)

sums : (offset a b : ℕ) → sum_within (sum_within offset a) b ≡ sum_within offset (a + b)
sums offset a b = omega arith

-- a word is what stands before the rest
word_len : (octets word rest : List ℕ) → octets ≡ word ++ rest → length octets - length rest ≡ length word
word_len octets word rest is =
    let e : length octets ≡ length word + length rest = ap length is ∙ length-append word rest in omega arith

pub row_more : (by : Decoding) (schema : Schema) (of : ℕ) (input left : Input) (shown text : List ℕ) (value : Value)
    (rest : Bor (List ℕ)) (offset : ℕ) → ValuesBefore by schema of input left shown →
    HasPrefix (IsWordOf by.coding schema.nodes.items 64 of) left.octets.now value rest.now →
    text ≡ value_text schema by.pretty of value →
    offset ≡ sum_within left.offset (length left.octets.now - length rest.now) →
    ValuesBefore by schema of input (record { name = input.name; offset = offset; octets = rest }) (shown ++ text)
row_more by schema of input left shown text value rest offset before front said at = record {
  values = before.values ++ value ∷ [];
  words = before.words ++ front.word;
  is = before.is ∙ ap (λ l. before.words ++ l) front.is ∙ sym (append_assoc before.words front.word rest.now);
  joined = joined_last (IsWordOf by.coding schema.nodes.items 64 of) before.words front.word before.values value before.joined front.fits;
  name = refl;
  offset = at ∙ ap (sum_within left.offset) (word_len left.octets.now front.word rest.now front.is) ∙
      ap (λ n. sum_within n (length front.word)) before.offset ∙
      sums input.offset (length before.words) (length front.word) ∙
      ap (sum_within input.offset) (sym (length-append before.words front.word));
  texts = ap (λ l. l ++ text) before.texts ∙ ap (λ l. value_texts schema by.pretty of before.values ++ l)
      (said ∙ sym (append-nil (value_text schema by.pretty of value))) ∙
      sym (flat_map-append (λ v. value_text schema by.pretty of v) before.values (value ∷ []));
}

-- a value takes an octet at least
pub rest_shorter : {V : Type 0} (G : List ℕ → V → Type 0) (octets rest : List ℕ) (v : V) → (G [] v → ⊥) →
    HasPrefix G octets v rest → length rest < length octets
rest_shorter G octets rest v some front =
    let e : length octets ≡ length front.word + length rest = ap length front.is ∙ length-append front.word rest in
    let has : (w : List ℕ) → G w v → 0 < length w = λ w fits. has_one w fits in
    let more = has front.word front.fits in omega arith
  where
    has_one : (w : List ℕ) → G w v → 0 < length w
    has_one [] fits = absurd (some fits)
    has_one (x ∷ w) fits = omega arith
