-- Octets that are read as one element, checked and converted, have one refusal, except when out of memory.
use Rattle.std.proofs.Common.{◌≡◌, ◌∙◌, sym, ap, subst, refl, List, [], ◌++◌, ℕ, Bool, true, false, append-nil, codes}
use Rattle.std.proofs.Common.{◌⊎◌, inl, inr, Result, Ok, Err}
use Rattle.std.proofs.lemmas.List.{append_cancel_left}
use Rattle.x690.specs.Elements.{Parts}
use Rattle.x690.specs.Faults.{Violation, Fault}
use Rattle.asn1_headers.specs.declared.error.Err.{Err as Refusal}
use Rattle.asn1_headers.specs.declared.error.Err.TheVariants.{Incomplete as truncated, Error as refused, Failure as failed}
use Rattle.asn1_headers.specs.declared.error.Error.{Error}
use Rattle.asn1_headers.specs.declared.error.Error.TheVariants.{InvalidValue, OutOfMemory}
use Rattle.asn1_headers.specs.declared.tag.Tag.{Tag}
use Rattle.asn1_rs.specs.declared.asn1_types.any.Any.{Any}
use Rattle.asn1_rs.specs.Any.{parts_of}
use Rattle.asn1_rs.specs.Checks.{but_text}
use Rattle.asn1_rs.specs.Leaf.{Leaf, LeafGives, LeafConverts}
use Rattle.asn1_rs.specs.Traits.{OfParts, ElementGives}
use Rattle.asn1_headers.specs.Answers.{HasPrefix}
use Rattle.asn1_headers.specs.Error.{Converted}
use Rattle.asn1_headers.specs.Header.Reading.{refusal_of}
use Rattle.asn1_rs.specs.Laws.Readers.{AreLawfulElements, speaks_itself, refusal_speaks_now}
use Rattle.asn1vec_answers.specs.Names.{with_brackets, name_of_error, name_of_needed, name_of_refusal}
use Rattle.asn1vec_answers.specs.Shown.{Same}

pub converted_same : (s r : Refusal Error) → Converted Same s r → r ≡ s
converted_same (truncated n) r h = h
converted_same (refused e) r (f, same, is) = is ∙ ap refused same
converted_same (failed e) r (f, same, is) = is ∙ ap failed same

-- the same as `key` tells them apart, but that one of them may be this, where memory is allocated
abbrev pub IsSameBut : {A K : Type 0} → (A → K) → A → Bool → A → A → Type 0
IsSameBut key memory allocates a b = (key a ≡ key b) ⊎ ((allocates ≡ true) × ((a ≡ memory) ⊎ (b ≡ memory)))

-- Refusals are told apart by their names, which are all that an answer shows of them.

-- a refusal with the name of its error in the place of the error
abbrev pub named : Refusal Error → Refusal (List ℕ)
named (truncated n) = truncated n
named (refused e) = refused (name_of_error e)
named (failed e) = failed (name_of_error e)

-- which tells the name of the refusal
pub same_name : (q r : Refusal Error) → named q ≡ named r → name_of_refusal q ≡ name_of_refusal r
same_name q r same = sym (shown q) ∙ ap name same ∙ shown r
  where
    name : Refusal (List ℕ) → List ℕ
    name (truncated n) = with_brackets (codes "Incomplete") (name_of_needed n)
    name (refused word) = word
    name (failed word) = word

    shown : (r : Refusal Error) → name (named r) ≡ name_of_refusal r
    shown (truncated n) = refl
    shown (refused e) = refl
    shown (failed e) = refl

-- the refusal that tells of refused memory
abbrev pub no_memory : Refusal Error
no_memory = refused OutOfMemory

-- refusals of one name, but that one of them may tell of refused memory, where memory is allocated; and errors
abbrev pub SameRefusal : Bool → Refusal Error → Refusal Error → Type 0
SameRefusal = IsSameBut named no_memory

abbrev pub SameError : Bool → Error → Error → Type 0
SameError = IsSameBut name_of_error OutOfMemory

-- errors that `key` does not tell apart have one name
abbrev pub KeepsNames : {K : Type 0} → (Error → K) → Type 0
KeepsNames key = (e f : Error) → key e ≡ key f → name_of_error e ≡ name_of_error f

pub whole_keeps : KeepsNames (λ (e : Error). e)
whole_keeps e f same = ap name_of_error same

pub but_text_keeps : KeepsNames but_text
but_text_keeps e f same = named_so e ∙ ap name same ∙ sym (named_so f)
  where
    name : (Tag × List ℕ) ⊎ Error → List ℕ
    name (inl invalid) = codes "InvalidValue"
    name (inr e) = name_of_error e

    named_so : (e : Error) → name_of_error e ≡ name (but_text e)
    named_so (InvalidValue tag msg) = refl
    named_so e = refl

-- a relation of parts to answers allows refusals of one name for one element
abbrev pub IsOneRefusal : {T : Type 0} → (Parts → Result T Error → Type 0) → Type 0
IsOneRefusal gives = (p : Parts) (e f : Error) → gives p (Err e) → gives p (Err f) → name_of_error e ≡ name_of_error f

-- as one does that allows one as `key` tells them apart
pub one_name : {K : Type 0} {key : Error → K} → KeepsNames key →
    {T : Type 0} (gives : Parts → Result T Error → Type 0) →
    ((p : Parts) (e f : Error) → gives p (Err e) → gives p (Err f) → key e ≡ key f) → IsOneRefusal gives
one_name keeps gives one p e f h k = keeps e f (one p e f h k)

-- a relation of elements to answers allows those for elements of the same parts, except when out of memory
abbrev pub IsOneRefusalBut : {T : Type 0} → Bool → (Any → Result T Error → Type 0) → Type 0
IsOneRefusalBut allocates gives =
    (a b : Any) (e f : Error) → parts_of b ≡ parts_of a → gives a (Err e) → gives b (Err f) → SameError allocates e f

-- as one that looks at parts alone does, where it allows them for one element
pub one_of_parts : {T : Type 0} (gives : Parts → Result T Error → Type 0) → IsOneRefusal gives →
    IsOneRefusalBut false (OfParts gives)
one_of_parts gives one a b e f same h k = inl (one (parts_of a) e f h (subst (λ (p : Parts). gives p (Err f)) same k))

-- and one that looks at parts alone and copies what it answers
pub one_of_copied : {S : Type 0} (L : Leaf S) → IsOneRefusal (LeafGives L) →
    IsOneRefusalBut true (OfParts (LeafConverts L))
one_of_copied L one a b e f same (inl h) (inl k) =
    inl (one (parts_of a) e f h (subst (λ (p : Parts). LeafGives L p (Err f)) same k))
one_of_copied L one a b e f same (inl h) (inr k) = inr (refl, inr k.1)
one_of_copied L one a b e f same (inr h) k = inr (refl, inl h.1)

refused_same : (allocates : Bool) (q r : Refusal Error) (e f : Error) → SameError allocates e f → q ≡ refused e →
    r ≡ refused f → SameRefusal allocates q r
refused_same allocates q r e f (inl same) is too =
    inl (ap named is ∙ ap (λ (word : List ℕ). refused word) same ∙ sym (ap named too))
refused_same allocates q r e f (inr (takes, inl memory)) is too = inr (takes, inl (is ∙ ap refused memory))
refused_same allocates q r e f (inr (takes, inr memory)) is too = inr (takes, inr (too ∙ ap refused memory))

-- one element alone begins octets, and none where there is a fault
module _ (ElementOf : List ℕ → Parts → Type 0) (FaultOf : List ℕ → Fault → Type 0) (IsTruncated : List ℕ → Type 0)
    (elements : AreLawfulElements ElementOf FaultOf IsTruncated) where
  pub same_parts : (input rest tail : List ℕ) (p o : Parts) → HasPrefix ElementOf input p rest →
      HasPrefix ElementOf input o tail → o ≡ p
  same_parts input rest tail p o f g = (elements.one.one g.word f.word tail rest o p g.fits f.fits (sym g.is ∙ f.is)).1

  pub same_tail : (input rest tail : List ℕ) (p o : Parts) → HasPrefix ElementOf input p rest →
      HasPrefix ElementOf input o tail → rest ≡ tail
  same_tail input rest tail p o f g =
      let words = (elements.one.one f.word g.word rest tail p o f.fits g.fits (sym f.is ∙ g.is)).0 in
      append_cancel_left f.word rest tail (sym f.is ∙ g.is ∙ ap (λ (l : List ℕ). l ++ tail) (sym words))

  pub element_or_fault : (refuses : Violation → Error) (input rest : List ℕ) (p : Parts) (fault : Fault) →
      HasPrefix ElementOf input p rest → FaultOf input fault → ⊥
  element_or_fault refuses input rest p fault f why =
      let silent = speaks_itself refuses fault (refusal_of refuses fault) (IsTruncated input) []
      (elements.counts input fault why) refl (refusal_speaks_now (IsTruncated input) (refusal_of refuses fault)) in
      elements.final input [] f.word rest p fault why silent f.fits (append-nil input ∙ f.is)

module _ {T : Type 0} (allocates : Bool) (check : Parts → Result (Unit {0}) Error → Type 0)
    (convert : Any → Result T Error → Type 0) where
  -- the check or the conversion refused the element
  abbrev RefusedElement : Any → Refusal Error → Type 0
  RefusedElement any r = ((e : Error) × check (parts_of any) (Err e) × ((f : Error) × Same e f × (r ≡ refused f))) ⊎
      (check (parts_of any) (Ok tt) × ((e : Error) × convert any (Err e) × (r ≡ refused e)))

  abbrev Agree : Refusal Error → Refusal Error → Type 0
  Agree = SameRefusal allocates

  module _ (one_check : IsOneRefusal check) (checked : (p : Parts) (e : Error) → check p (Ok tt) → check p (Err e) → ⊥)
      (one_conversion : IsOneRefusalBut allocates convert) where
    elements_once : (a b : Any) (q r : Refusal Error) → parts_of b ≡ parts_of a → RefusedElement a q →
        RefusedElement b r → Agree q r
    elements_once a b q r alike (inl (e, why, (f, same, is))) (inl (d, also, (g, equal, too))) =
        inl (ap named (is ∙ ap refused same) ∙ ap (λ (word : List ℕ). refused word) (one_check (parts_of a) e d why
        (subst (λ (p : Parts). check p (Err d)) alike also)) ∙ sym (ap named (too ∙ ap refused equal)))
    elements_once a b q r alike (inl (e, why, given)) (inr (passed, rest)) =
        absurd (checked (parts_of a) e (subst (λ (p : Parts). check p (Ok tt)) alike passed) why)
    elements_once a b q r alike (inr (passed, rest)) (inl (e, why, given)) =
        absurd (checked (parts_of a) e passed (subst (λ (p : Parts). check p (Err e)) alike why))
    elements_once a b q r alike (inr (passed, (e, why, is))) (inr (again, (f, also, too))) =
        refused_same allocates q r e f (one_conversion a b e f alike why also) is too

    module _ (ElementOf : List ℕ → Parts → Type 0) (FaultOf : List ℕ → Fault → Type 0) (IsTruncated : List ℕ → Type 0)
        (elements : AreLawfulElements ElementOf FaultOf IsTruncated) (refuses : Violation → Error) where
      abbrev Gives : List ℕ → Result (List ℕ × T) (Refusal Error) → Type 0
      Gives = ElementGives ElementOf FaultOf (refusal_of refuses) check convert Same

      pub one_reading_refusal : (input : List ℕ) (q r : Refusal Error) → Gives input (Err q) →
          Gives input (Err r) → Agree q r
      one_reading_refusal input q r (inl (f, why, c)) (inl (g, also, d)) =
          inl (ap named (converted_same (refusal_of refuses f) q c ∙ ap (refusal_of refuses)
          (elements.alone input f g why also) ∙ sym (converted_same (refusal_of refuses g) r d)))
      one_reading_refusal input q r (inl (f, why, c)) (inr (a, rest, begins, given)) =
          absurd (element_or_fault ElementOf FaultOf IsTruncated elements refuses input rest (parts_of a) f begins.front why)
      one_reading_refusal input q r (inr (a, rest, begins, given)) (inl (f, why, c)) =
          absurd (element_or_fault ElementOf FaultOf IsTruncated elements refuses input rest (parts_of a) f begins.front why)
      one_reading_refusal input q r (inr (a, rest, begins, given)) (inr (b, tail, other, taken)) =
          elements_once a b q r (same_parts ElementOf FaultOf IsTruncated elements input rest tail (parts_of a)
          (parts_of b) begins.front other.front) given taken
