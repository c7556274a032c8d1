-- What a name stands for has one answer to octets, except when out of memory,
-- where two readings and two encodings are the same but for that.
use Rattle.std.proofs.Common.{◌≡◌, ◌∙◌, ◌≤◌, ◌^◌, sym, ap, subst, refl, List, [], ◌++◌, length, ℕ, Bool, true, false}
use Rattle.std.proofs.Common.{◌⊎◌, inl, inr, None, Some, Result, Ok, Err, arith, codes, append_assoc}
use Rattle.std.proofs.lemmas.List.{append_cancel_left}
use Rattle.x690.specs.Identifiers.{Identifier, IsTruncatedIdentifier}
use Rattle.x690.specs.Elements.{Parts, IsDerElement}
use Rattle.x690.specs.Faults.{DerElementFault}
use Rattle.x690.specs.Nested.{IsElement, ElementFault}
use Rattle.x690.specs.Joined.{IsPrefixFree}
use Rattle.asn1_headers.specs.declared.error.Err.{Err as Refusal}
use Rattle.asn1_headers.specs.declared.error.Err.TheVariants.{Error as refused}
use Rattle.asn1_headers.specs.declared.error.Error.{Error}
use Rattle.asn1_rs.specs.declared.asn1_types.any.Any.{Any}
use Rattle.asn1_headers.specs.Header.Reading.{der_violation, ber_violation}
use Rattle.asn1_headers.specs.declared.error.SerializeError.{SerializeError}
use Rattle.asn1_headers.specs.declared.error.SerializeError.TheVariants as serialize_errors
use Rattle.asn1_headers.specs.Answers.{Exactly, HasPrefix, IsFinal, TellsMemory}
use Rattle.asn1_rs.specs.Grammar.Form.{IsOneForm, IsStrict}
use Rattle.asn1_rs.specs.Optional.{in_some}
use Rattle.asn1_headers.specs.Writer.{MayRefuse}
use Rattle.asn1_headers.specs.Error.{tells_of_io}
use Rattle.asn1_headers.specs.Ber.{max_depth, EndsWithin}
use Rattle.asn1_rs.specs.Grammar.{IsOneBody, NoCheck, BerWord, DerWord}
use Rattle.asn1_rs.specs.Traits.{PassesAll, BerGives, DerGives}
use Rattle.asn1_rs.specs.Laws.Readers.{none_now, der_elements, ber_elements}
use Rattle.asn1_rs.specs.Laws.Words.{one_strict, word_one}
use Rattle.asn1vec_answers.specs.declared.request.Rule.{Rule}
use Rattle.asn1vec_answers.specs.declared.request.Rule.TheVariants.{Ber, Der}
use Rattle.asn1vec_answers.specs.Names.{name_of_refusal}
use Rattle.asn1vec_answers.specs.Shown.{in_hexadecimal, Encoding, Reading, written_text, encoding_text, ok_text}
use Rattle.asn1vec_answers.specs.Shown.{SaysAnswer}
use Rattle.asn1vec_answers.specs.Shown.{Same, IsReadAnswer, ReadingByBer, ReadingByDer, IsWritten, IsWrittenUnless}
use Rattle.asn1vec_answers.specs.Shown.{StrictEncoding}
use Rattle.asn1vec_answers.specs.Meaning.{Meaning, ReadsByEither, optional}
use Rattle.asn1vec_answers.specs.Memory.{DifferByMemory}
use Rattle.asn1vec_answers.proofs.OneRefusal.{IsSameBut, SameRefusal, same_name, no_memory, IsOneRefusal}
use Rattle.asn1vec_answers.proofs.OneRefusal.{IsOneRefusalBut, one_reading_refusal}

-- What is to be shown of a meaning.

-- the same, but that one of them may say that memory was refused
abbrev SameWriting : Bool → Result (List ℕ) SerializeError → Result (List ℕ) SerializeError → Type 0
SameWriting = IsSameBut (λ (w : Result (List ℕ) SerializeError). w) (Err serialize_errors.OutOfMemory)

-- so where something is said of both
abbrev pub SameEncoding : Bool → Encoding → Encoding → Type 0
SameEncoding allocates None None = Unit {0}
SameEncoding allocates None (Some v) = ⊥
SameEncoding allocates (Some w) None = ⊥
SameEncoding allocates (Some w) (Some v) = SameWriting allocates w v

-- the same, but that one of them may be a refusal when out of memory;
-- values are compared by a relation, refusals by their names
abbrev pub SameReading : {T : Type 0} → (T → T → Type 0) → Bool → Reading T → Reading T → Type 0
SameReading Agree allocates (Ok x) (Ok y) = Agree x.1 y.1 × (x.0 ≡ y.0)
SameReading Agree allocates (Ok x) (Err r) = (allocates ≡ true) × (r ≡ no_memory)
SameReading Agree allocates (Err q) (Ok y) = (allocates ≡ true) × (q ≡ no_memory)
SameReading Agree allocates (Err q) (Err r) = SameRefusal allocates q r

-- values that are shown alike
pub record ShownAlike (m : Meaning) (x y : m.T) : Type 0 where
  pub text : m.text_of x ≡ m.text_of y
  pub encoding : (e f : Encoding) → m.Encodes x e → m.Encodes y f → SameEncoding m.writing_allocates e f

abbrev pub HasOneAnswer : Meaning → Type 0
HasOneAnswer m = (rule : Rule) (octets : List ℕ) (a b : Reading m.T) → m.Reads rule octets a → m.Reads rule octets b →
    SameReading (ShownAlike m) m.reading_allocates a b

-- What follows.

ok_front : List ℕ → List ℕ → List ℕ
ok_front value rest = codes "ok " ++ (value ++ (codes " rest " ++ in_hexadecimal rest))

ok_parts : (value rest : List ℕ) (encoding : Encoding) →
    ok_text value rest encoding ≡ ok_front value rest ++ encoding_text encoding
unfolding ok_front
ok_parts value rest encoding =
    ap (λ (l : List ℕ). codes "ok " ++ l) (ap (λ (l : List ℕ). value ++ l)
    (sym (append_assoc (codes " rest ") (in_hexadecimal rest) (encoding_text encoding)))
    ∙ sym (append_assoc value (codes " rest " ++ in_hexadecimal rest) (encoding_text encoding)))
    ∙ sym (append_assoc (codes "ok ") (value ++ (codes " rest " ++ in_hexadecimal rest)) (encoding_text encoding))

module _ (m : Meaning) where
  abbrev Alike : List ℕ → List ℕ → Type 0
  Alike text other = (text ≡ other) ⊎ DifferByMemory m text other

  refused_writing : (front text other : List ℕ) (w v : Result (List ℕ) SerializeError) → m.writing_allocates ≡ true →
      w ≡ Err serialize_errors.OutOfMemory → text ≡ front ++ encoding_text (Some w) →
      other ≡ front ++ encoding_text (Some v)
      → (m.writing_allocates ≡ true) × ((front rest : List ℕ) × (text ≡ front ++ codes " enc err OutOfMemory") ×
      (other ≡ front ++ (codes " enc " ++ rest)))
  refused_writing front text other w v takes memory e f = (
    takes,
    (
      front,
      written_text v,
      e ∙ ap (λ (x : Result (List ℕ) SerializeError). front ++ encoding_text (Some x)) memory,
      f,
    ),
  )

  encodings_same : (front text other : List ℕ) (e f : Encoding) → SameEncoding m.writing_allocates e f →
      text ≡ front ++ encoding_text e → other ≡ front ++ encoding_text f → Alike text other
  encodings_same front text other None None same is too = inl (is ∙ sym too)
  encodings_same front text other None (Some v) same is too = absurd same
  encodings_same front text other (Some w) None same is too = absurd same
  encodings_same front text other (Some w) (Some v) (inl same) is too =
      inl (is ∙ ap (λ (x : Result (List ℕ) SerializeError). front ++ encoding_text (Some x)) same ∙ sym too)
  encodings_same front text other (Some w) (Some v) (inr (takes, inl memory)) is too =
      inr (inl (inr (refused_writing front text other w v takes memory is too)))
  encodings_same front text other (Some w) (Some v) (inr (takes, inr memory)) is too =
      inr (inr (inr (refused_writing front other text v w takes memory too is)))

  refusals_same : (q r : Refusal Error) (text other : List ℕ) → SameRefusal m.reading_allocates q r →
      text ≡ codes "err " ++ name_of_refusal q → other ≡ codes "err " ++ name_of_refusal r → Alike text other
  refusals_same q r text other (inl same) is too =
      inl (is ∙ ap (λ (name : List ℕ). codes "err " ++ name) (same_name q r same) ∙ sym too)
  refusals_same q r text other (inr (takes, inl memory)) is too =
      inr (inl (inl (takes, is ∙ ap (λ (x : Refusal Error). codes "err " ++ name_of_refusal x) memory)))
  refusals_same q r text other (inr (takes, inr memory)) is too =
      inr (inr (inl (takes, too ∙ ap (λ (x : Refusal Error). codes "err " ++ name_of_refusal x) memory)))

  said_alike : (a b : Reading m.T) (text other : List ℕ) → SameReading (ShownAlike m) m.reading_allocates a b →
      SaysAnswer m.text_of m.Encodes a text → SaysAnswer m.text_of m.Encodes b other → Alike text other
  said_alike (Ok (rest, x)) (Ok (tail, y)) text other (same, equal) (e, encodes, is) (f, encoded, too) =
      encodings_same (ok_front (m.text_of y) tail) text other e f (same.encoding e f encodes encoded)
      (is ∙ ap (λ (l : List ℕ). ok_text l rest e) same.text ∙ ap (λ (l : List ℕ). ok_text (m.text_of y) l e) equal
      ∙ ok_parts (m.text_of y) tail e)
      (too ∙ ok_parts (m.text_of y) tail f)
  said_alike (Ok x) (Err r) text other (takes, memory) says is =
      inr (inr (inl (takes, is ∙ ap (λ (q : Refusal Error). codes "err " ++ name_of_refusal q) memory)))
  said_alike (Err q) (Ok y) text other (takes, memory) is says =
      inr (inl (inl (takes, is ∙ ap (λ (r : Refusal Error). codes "err " ++ name_of_refusal r) memory)))
  said_alike (Err q) (Err r) text other same is too = refusals_same q r text other same is too

  pub answers_alike : HasOneAnswer m → (rule : Rule) (octets text other : List ℕ) →
      IsReadAnswer (m.Reads rule) m.text_of m.Encodes octets text →
      IsReadAnswer (m.Reads rule) m.text_of m.Encodes octets other → Alike text other
  answers_alike one rule octets text other a b =
      said_alike a.answer b.answer text other (one rule octets a.answer b.answer a.reads b.reads) a.says b.says

-- values are compared by a weaker relation
pub readings_weaker : {T : Type 0} (P Q : T → T → Type 0) (allocates : Bool) → ((x y : T) → P x y → Q x y) →
    (a b : Reading T) → SameReading P allocates a b → SameReading Q allocates a b
readings_weaker P Q allocates weaker (Ok x) (Ok y) (same, equal) = (weaker x.1 y.1 same, equal)
readings_weaker P Q allocates weaker (Ok x) (Err r) h = h
readings_weaker P Q allocates weaker (Err q) (Ok y) h = h
readings_weaker P Q allocates weaker (Err q) (Err r) h = h

-- Lawful types.

-- writing into a vector is refused only where the encoding is too long, or when out of memory
pub only_refusals : (allocates : Bool) (n : ℕ) (e : SerializeError) → MayRefuse allocates n e → tells_of_io e ≡ false →
    ((e ≡ serialize_errors.InvalidLength) × (2 ^ 64 ≤ n)) ⊎ ((allocates ≡ true) × (e ≡ serialize_errors.OutOfMemory))
only_refusals allocates n (serialize_errors.ASN1Error e) may other = absurd may
only_refusals allocates n (serialize_errors.InvalidClass c) may other = absurd may
only_refusals allocates n serialize_errors.InvalidLength may other = inl (refl, may)
only_refusals allocates n (serialize_errors.IOError e) may other = cc
only_refusals allocates n serialize_errors.OutOfMemory may other = inr (may, refl)

refused_writing_same : (allocates : Bool) (n : ℕ) (q r : SerializeError) →
    ((q ≡ serialize_errors.InvalidLength) × (2 ^ 64 ≤ n)) ⊎ ((allocates ≡ true) × (q ≡ serialize_errors.OutOfMemory)) →
    ((r ≡ serialize_errors.InvalidLength) × (2 ^ 64 ≤ n)) ⊎ ((allocates ≡ true) × (r ≡ serialize_errors.OutOfMemory)) →
    SameWriting allocates (Err q) (Err r)
refused_writing_same allocates n q r (inl (long, past)) (inl (too, also)) =
    inl (ap (λ (x : SerializeError). Err x) (long ∙ sym too))
refused_writing_same allocates n q r h (inr (takes, memory)) =
    inr (takes, inr (ap (λ (x : SerializeError). Err x) memory))
refused_writing_same allocates n q r (inr (takes, memory)) h =
    inr (takes, inl (ap (λ (x : SerializeError). Err x) memory))

-- what is written of the same octets
pub written_same : (allocates : Bool) (o : List ℕ) (e f : Encoding) → IsWritten allocates o e →
    IsWritten allocates o f → SameEncoding allocates e f
written_same allocates o None f h k = absurd h
written_same allocates o (Some w) None h k = absurd k
written_same allocates o (Some (Ok x)) (Some (Ok y)) (short, e) (few, f) = inl (ap (λ (l : List ℕ). Ok l) (e ∙ sym f))
written_same allocates o (Some (Ok x)) (Some (Err r)) (short, e) (may, io) =
    elim (only_refusals allocates (length o) r may io) [
      | inl long ↦ absurd (omega (arith, short, long.1))
      | inr memory ↦ inr (memory.0, inr (ap (λ (d : SerializeError). Err d) memory.1))
    ]
written_same allocates o (Some (Err q)) (Some (Ok y)) (may, io) (few, f) =
    elim (only_refusals allocates (length o) q may io) [
      | inl long ↦ absurd (omega (arith, few, long.1))
      | inr memory ↦ inr (memory.0, inl (ap (λ (d : SerializeError). Err d) memory.1))
    ]
written_same allocates o (Some (Err q)) (Some (Err r)) (may, io) (might, too) =
    refused_writing_same allocates (length o) q r (only_refusals allocates (length o) q may io)
    (only_refusals allocates (length o) r might too)

-- and of a value of these octets, which may be refused for what it is
pub unless_same : (is_refused : Bool) (refusal : Error) (o : List ℕ) (e f : Encoding) →
    IsWrittenUnless is_refused refusal o e → IsWrittenUnless is_refused refusal o f → SameEncoding false e f
unless_same false refusal o e f h k = written_same false o e f h k
unless_same true refusal o e f h k = rw (h, k) (inl refl)

-- and of the same value
pub strict_same : {V : Type 0} (Form : V → Identifier → List ℕ → Type 0) → IsOneForm Form →
    (allocates : Bool) (v w : V) → v ≡ w → (e f : Encoding) → StrictEncoding Form allocates v e →
    StrictEncoding Form allocates w f → SameEncoding allocates e f
strict_same {V} Form one allocates v w same e f (o, s, written) (p, t, also) =
    written_same allocates p e f (subst (λ (l : List ℕ). IsWritten allocates l e)
    (one_strict Form one w o p (subst (λ (x : V). IsStrict Form x o) same s) t) written) also

tells_no_memory : (allocates : Bool) (r : Refusal Error) → TellsMemory allocates Same r →
    (allocates ≡ true) × (r ≡ no_memory)
tells_no_memory allocates r (takes, (e, same, is)) = (takes, is ∙ ap (λ (x : Error). refused x) same)

-- a reader that is exact by a grammar with one word at a front
module _ {T V : Type 0} (IsTruncated : List ℕ → Type 0) (G : List ℕ → V → Type 0) (value : T → V) (allocates : Bool)
    (gives : List ℕ → Reading T → Type 0) (one_word : IsPrefixFree G)
    (one_refusal : (octets : List ℕ) (q r : Refusal Error) → gives octets (Err q) → gives octets (Err r) →
    SameRefusal allocates q r) where
  one_front : (octets rest tail : List ℕ) (v w : V) → HasPrefix G octets v rest → HasPrefix G octets w tail →
      (v ≡ w) × (rest ≡ tail)
  one_front octets rest tail v w f g =
      let one = one_word.one f.word g.word rest tail v w f.fits g.fits (sym f.is ∙ g.is) in
      (one.1, append_cancel_left f.word rest tail (sym f.is ∙ g.is ∙ ap (λ (x : List ℕ). x ++ tail) (sym one.0)))

  front_or_refusal : (octets rest : List ℕ) (v : V) (r : Refusal Error) → HasPrefix G octets v rest →
      TellsMemory allocates Same r ⊎ IsFinal (IsTruncated octets) r G octets → (allocates ≡ true) × (r ≡ no_memory)
  front_or_refusal octets rest v r f (inl memory) = tells_no_memory allocates r memory
  front_or_refusal octets rest v r f (inr final) =
      absurd (none_now (IsTruncated octets) r G octets final f.word rest v f.is f.fits)

  pub readings_same : (octets : List ℕ) (a b : Reading T) →
      Exactly IsTruncated G value (TellsMemory allocates Same) octets a × gives octets a →
      Exactly IsTruncated G value (TellsMemory allocates Same) octets b × gives octets b
      → SameReading (λ x y. value x ≡ value y) allocates a b
  readings_same octets (Ok (rest, x)) (Ok (tail, y)) p q = one_front octets rest tail (value x) (value y) p.0 q.0
  readings_same octets (Ok (rest, x)) (Err r) p q = front_or_refusal octets rest (value x) r p.0 q.0
  readings_same octets (Err r) (Ok (tail, y)) p q = front_or_refusal octets tail (value y) r q.0 p.0
  readings_same octets (Err q) (Err r) p s = one_refusal octets q r p.1 s.1

-- by BER no check refuses
pub one_pass : IsOneRefusal PassesAll
one_pass p e f h k = cc

pub passed : (p : Parts) (e : Error) → PassesAll p (Ok tt) → PassesAll p (Err e) → ⊥
passed p e h k = cc

-- a type that is read as one element and converted, by BER; and, where it is checked, by DER
module _ {T V : Type 0} (Body : Parts → V → Type 0) (value : T → V) (allocates : Bool)
    (convert : Any → Result T Error → Type 0) (one_body : IsOneBody Body)
    (one_conversion : IsOneRefusalBut allocates convert) where
  pub ber_same : (octets : List ℕ) (a b : Reading T) →
      ReadingByBer (BerWord Body) value allocates (BerGives convert Same) octets a →
      ReadingByBer (BerWord Body) value allocates (BerGives convert Same) octets b
      → SameReading (λ x y. value x ≡ value y) allocates a b
  ber_same = readings_same EndsWithin (BerWord Body) value allocates (BerGives convert Same)
      (word_one (IsElement max_depth) NoCheck Body ber_elements.one one_body)
      (one_reading_refusal allocates PassesAll convert one_pass passed one_conversion (IsElement max_depth)
      (ElementFault max_depth) EndsWithin ber_elements ber_violation)

  module _ (check : Parts → Result (Unit {0}) Error → Type 0) (Check : Parts → Type 0) (one_check : IsOneRefusal check)
      (checked : (p : Parts) (e : Error) → check p (Ok tt) → check p (Err e) → ⊥) where
    pub der_same : (octets : List ℕ) (a b : Reading T) →
        ReadingByDer (DerWord Check Body) value allocates (DerGives check convert Same) octets a →
        ReadingByDer (DerWord Check Body) value allocates (DerGives check convert Same) octets b
        → SameReading (λ x y. value x ≡ value y) allocates a b
    der_same = readings_same IsTruncatedIdentifier (DerWord Check Body) value allocates (DerGives check convert Same)
        (word_one IsDerElement Check Body der_elements.one one_body)
        (one_reading_refusal allocates check convert one_check checked one_conversion IsDerElement DerElementFault
        IsTruncatedIdentifier der_elements der_violation)

    pub either_same : (rule : Rule) (octets : List ℕ) (a b : Reading T) → ReadsByEither (BerWord Body)
        (DerWord Check Body) value allocates (BerGives convert Same) (DerGives check convert Same) rule octets a
        → ReadsByEither (BerWord Body) (DerWord Check Body) value allocates (BerGives convert Same)
        (DerGives check convert Same) rule octets b → SameReading (λ x y. value x ≡ value y) allocates a b
    either_same Ber = ber_same
    either_same Der = der_same

-- Optional values.

-- what is held, or nothing, is read and shown once where what is held is
module _ (number : ℕ) (m : Meaning) where
  none_alike : ShownAlike (optional number m) None None
  none_alike = record { text = refl; encoding = λ e f h k. written_same m.writing_allocates [] e f h k }

  held_alike : (x y : m.T) → ShownAlike m x y → ShownAlike (optional number m) (Some x) (Some y)
  held_alike x y same = record { text = ap (λ (l : List ℕ). codes "some " ++ l) same.text; encoding = same.encoding }

  held_same : (a b : Reading m.T) → SameReading (ShownAlike m) m.reading_allocates a b →
      SameReading (ShownAlike (optional number m)) m.reading_allocates (in_some a) (in_some b)
  held_same (Ok (rest, x)) (Ok (tail, y)) (same, equal) = (held_alike x y same, equal)
  held_same (Ok x) (Err r) h = h
  held_same (Err q) (Ok y) h = h
  held_same (Err q) (Err r) h = h

  pub optional_once : HasOneAnswer m → HasOneAnswer (optional number m)
  optional_once one rule octets a b (inl (out, is)) (inl (also, too)) = rw (is, too) (none_alike, refl)
  optional_once one rule octets a b (inl (out, is)) (inr (there, given)) = absurd (there out)
  optional_once one rule octets a b (inr (there, given)) (inl (out, is)) = absurd (there out)
  optional_once one rule octets a b (inr (there, (its, reads, is))) (inr (too, (other, also, equal))) =
      rw (is, equal) (held_same its other (one rule octets its other reads also))
