-- Numbers as the words that contents octets are joined of, and refusals that do not tell that memory is out.
use Rattle.std.proofs.Common.{◌≡◌, ◌≢◌, ◌⊎◌, ◌∙◌, sym, subst, refl, inl, inr, ℕ, false, List, [], ◌∷◌, map, pos}
use Rattle.std.specs.Prelude.{Result, Ok, Err, Option, Some, IfOk, IfErr}
use Rattle.std.proofs.lemmas.List.Elements.{All-head}
use Rattle.std.specs.List.{All}
use Rattle.std.specs.Iterator.{Yields}
use Rattle.std.specs.declared.vec.Vec.{Vec}
use Rattle.x690.specs.Elements.{Parts}
use Rattle.x690.specs.Joined.{IsConcatenation}
use Rattle.x690.specs.Octets.{IsOctets}
use Rattle.asn1_headers.specs.Answers.{IsOther}
use Rattle.asn1_headers.specs.Error.{ErrorIs}
use Rattle.asn1_headers.specs.Header.Reading.{der_refusal}
use Rattle.asn1_headers.specs.declared.error.Err.{Err as Refusal}
use Rattle.asn1_headers.specs.declared.error.Err.TheVariants.{Incomplete as truncated, Error as refused, Failure as failed}
use Rattle.asn1_headers.specs.declared.error.Error.{Error}
use Rattle.asn1_headers.specs.declared.error.Error.TheVariants as errors
use Rattle.asn1_rs.specs.declared.asn1_types.set.set_of.SetOf.{SetOf}
use Rattle.asn1_rs.specs.Any.{parts_of}
use Rattle.asn1_rs.specs.Checks.{has_number}
use Rattle.asn1_rs.specs.Lists.{ItemsGive, ListOf, ListConverts, IsListMadeOf, listed}
use Rattle.asn1_rs.specs.Sequence.Iterator.{IsMemory, TellsNoWord, EndsJoined}
use Rattle.asn1_rs.specs.Set.{HasItems, items_of}
use Rattle.asn1_rs.specs.Traits.{DerGives, OfParts, PassesAll}
use Rattle.asn1_rs.specs.ToDer.{HasNone}
use Rattle.asn1_rs_uses.specs.Items.{BeginsWithNumbers, EndsBefore, RefusesNumbers}
use Rattle.asn1_rs_uses.proofs.TaggedOctets.{same_refusal}
use Rattle.asn1_rs_uses.specs.Numbers.{NumberByDer}

abbrev pub same : Error → Error → Type 0
same e f = f ≡ e

-- what collecting items answers, by what the law says of it
module _ {T E : Type 0} (reads : List ℕ → Result (List ℕ × T) (Refusal E) → Type 0) (from : Error → E → Type 0)
    (content : List ℕ) where
  pub when_taken : {A : Type 0} (P : List T → Type 0) →
      ((items : List T) → ItemsGive reads from content (Ok items) → P items) → (r : Result (Vec T A) E) →
      ItemsGive reads from content (listed r) → IfOk r (λ v. P v.items)
  when_taken P law (Ok v) g = law v.items g
  when_taken P law (Err e) g = tt

  pub when_refused : {A : Type 0} (P : E → Type 0) → ((e : E) → ItemsGive {T = T} reads from content (Err e) → P e) →
      (r : Result (Vec T A) E) → ItemsGive reads from content (listed r) → IfErr r P
  when_refused P law (Ok v) g = tt
  when_refused P law (Err e) g = law e g

-- a set of numbers that was read, by what the law says of the element
pub set_begins : (reads : List ℕ → Result (List ℕ × ℕ) (Refusal Error) → Type 0) (octets : List ℕ) →
    ((number : ℕ) (p : Parts) (list : SetOf ℕ) → IsOctets p.content →
    ListConverts (has_number number) HasItems reads same p (Ok list) →
    IsListMadeOf (ListOf number NumberByDer) pos HasItems p list) →
    (r : Result (List ℕ × SetOf ℕ) (Refusal Error)) →
    DerGives PassesAll (OfParts (ListConverts (has_number 17) HasItems reads same)) same octets r →
    IfOk r (λ x. BeginsWithNumbers octets (items_of x.1) x.0)
set_begins reads octets law (Err e) g = tt
set_begins reads octets law (Ok x) g =
    let front = g.1.front in
    let made = law 17 (parts_of g.0) x.1 front.fits.content_octets g.3 in
    record {
      word = front.word;
      parts = parts_of g.0;
      element = front.fits;
      is = front.is;
      set = made.2.shape;
      joined =
          subst (λ (xs : List ℕ). IsConcatenation NumberByDer (parts_of g.0).content (map pos xs)) (sym made.1) made.2.items;
    }

-- a set of numbers that was refused, by what the law says of the element
pub set_refused : (reads : List ℕ → Result (List ℕ × ℕ) (Refusal Error) → Type 0) (octets : List ℕ) →
    ((number : ℕ) (p : Parts) (e : Error) → IsOctets p.content →
    ListConverts {W = SetOf ℕ} (has_number number) HasItems reads same p (Err e) →
    same errors.OutOfMemory e ⊎ HasNone (ListOf number NumberByDer p)) →
    (r : Result (List ℕ × SetOf ℕ) (Refusal Error)) →
    DerGives PassesAll (OfParts (ListConverts (has_number 17) HasItems reads same)) same octets r →
    IfErr r (RefusesNumbers octets)
set_refused reads octets law (Ok x) g = tt
set_refused reads octets law (Err r) (inl (fault, has, kept)) =
    inl (fault, has, same_refusal (der_refusal fault) r kept)
set_refused reads octets law (Err r) (inr (any, rest, begins, inl (e, passes, made))) = cc
set_refused reads octets law (Err r) (inr (any, rest, begins, inr (passes, (e, takes, is)))) =
    inr (parts_of any, rest, e, begins.front, is, law 17 (parts_of any) e begins.front.fits.content_octets takes)

-- a refusal that is made of another cause
other_cause : (e : Error) → IsOther same e → e ≢ errors.OutOfMemory
other_cause e (inl o) = λ m. o.1 (sym o.2 ∙ m)
other_cause e (inr o) = o

pub no_memory : {A : Type 0} (answer : Result A (Refusal Error)) → IfErr answer (ErrorIs (IsOther same)) →
    IfErr answer (ErrorIs (λ e. e ≢ errors.OutOfMemory))
no_memory (Ok x) h = tt
no_memory (Err (truncated n)) h = tt
no_memory (Err (refused e)) h = other_cause e h
no_memory (Err (failed e)) h = other_cause e h

-- the one refusal of a call of `next`
pub no_memory_next : {S T : Type 0} (steps : S → Option (Result T Error) → S → Type 0) (s t : S) (e : Error) →
    steps s (Some (Err e)) t →
    ((answers : List (Result T Error)) → Yields steps s answers t →
    All (λ answer. IfErr answer (IsOther same)) answers) → e ≢ errors.OutOfMemory
no_memory_next {S} {T} steps s t e step law = other_cause e
    (All-head (λ (answer : Result T Error). IfErr answer (IsOther same)) (Err e) [] (law (Err e ∷ []) (t, step, refl)))

-- where no memory is taken, no word begins what is left
pub no_word : {V : Type 0} (G : List ℕ → V → Type 0) (content : List ℕ) (values : List V) (e : Error) →
    EndsJoined G (TellsNoWord G (IsMemory false same)) content values e → EndsBefore G content e
no_word G content values e j =
    elim j.tells [
      | inl m ↦ (let untold = m.0 in cc)
      | inr none ↦ (
        values,
        record { front = j.front; others = j.others; is = j.is; joined = j.joined; some = j.some; tells = none },
      )
    ]
