-- Laws of tags.
pub mod Explicit
pub mod Headed
pub mod Implicit
pub mod Parser
use Rattle.std.specs.Prelude.{◌≡◌, ◌⊎◌, ℕ, ◌<◌, ◌^◌, Bool, true, false, IsTrue, ◌&&◌, ◌↔◌, Option, Some, None}
use Rattle.std.specs.Prelude.{[], ◌++◌, Result, Ok, Err, IfErr}
use Rattle.std.proofs.Common.{arith, ◌∙◌, ap, sym, subst, refl, inl, inr, List, append-nil}
use Rattle.std.proofs.lemmas.List.{append_cancel_left}
use Rattle.x690.specs.Octets.{IsOctets}
use Rattle.x690.specs.Identifiers.{Identifier}
use Rattle.x690.specs.Elements.{Parts}
use Rattle.x690.specs.Joined.{IsPrefixFree}
use Rattle.asn1_headers.specs.declared.class.Class.{Class}
use Rattle.asn1_headers.specs.declared.class.Class.TheVariants.{Universal, Application, ContextSpecific, Private}
use Rattle.asn1_headers.specs.declared.error.DerConstraint.TheVariants.{TrailingOctets}
use Rattle.asn1_headers.specs.declared.error.Err.{Err as Refusal}
use Rattle.asn1_headers.specs.declared.error.Error.{Error}
use Rattle.asn1_headers.specs.declared.error.Error.TheVariants.{DerConstraintFailed}
use Rattle.asn1_headers.specs.declared.error.SerializeError.{SerializeError}
use Rattle.asn1_headers.specs.Answers.{Exactly, HasPrefix, IsOther, TellsMemory}
use Rattle.asn1_headers.specs.Class.{class_number}
use Rattle.asn1_headers.specs.Error.{ErrorIs}
use Rattle.asn1_rs.specs.Checks.{CheckGives, IsCheck}
use Rattle.asn1_rs.specs.Grammar.{made, of_class}
use Rattle.asn1_rs.specs.Tagged.{has_class, IsClassOf, ReadsWhole, as_u32}
use Rattle.asn1_rs.specs.ToDer.{HasNone, WrittenRefusal}
use Rattle.asn1_rs.specs.Tagged.Writing.{UnderClass}
use Rattle.asn1_rs.specs.Laws.Forms.{behind_header}
use Rattle.asn1_rs.specs.Laws.Readers.{none_now}

-- Classes.

-- classes are told by their numbers
pub one_class : (a b : Class) → class_number a ≡ class_number b → a ≡ b
one_class Universal Universal e = refl
one_class Application Application e = refl
one_class ContextSpecific ContextSpecific e = refl
one_class Private Private e = refl
one_class _ _ e = cc

-- The number of a class is below 4.
class_small : (a : Class) → class_number a < 4
class_small Universal = omega arith
class_small Application = omega arith
class_small ContextSpecific = omega arith
class_small Private = omega arith

-- a number is that of one class, or of none
one_expected : (class : ℕ) (a b : Option Class) → IsClassOf class a → IsClassOf class b → a ≡ b
one_expected class None None h k = refl
one_expected class (Some a) (Some b) h k = ap Some (one_class a b (sym h ∙ k))
one_expected class None (Some b) h k = let s = class_small b in absurd (omega arith)
one_expected class (Some a) None h k = let s = class_small a in absurd (omega arith)

-- That of the class is a check.
pub has_class_is : (class : ℕ) → IsCheck (has_class class)
has_class_is class = record {
  apart = λ p e m b. b.0 m;
  one = λ p e f b c. same p e f b c;
  asks_no_memory = λ p b. let e = b.1.4 in cc;
}
  where
    same : (p : Parts) (e f : Error) → has_class class p (Err e) → has_class class p (Err f) → e ≡ f
    same p e f (n, (expected, actual, is, of, told)) (m, (expected', actual', is', of', told')) =
        let a : expected ≡ expected' = one_expected class expected expected' is is' in
        let b : actual ≡ actual' = one_class actual actual' (sym of ∙ of') in
        cc

-- Numbers of tags.

-- the number of a tag is one that an element can have, and a number of such is its own
pub number_fits : (n : ℕ) → as_u32 n < 2 ^ 32
number_fits n = omega arith

-- A number that an element can have is its own.
pub number_is : (n : ℕ) → n < 2 ^ 32 → as_u32 n ≡ n
number_is n l = omega arith

-- Parts, and what is written under a tag.

-- parts are the same under their own class
pub own_class : (class : ℕ) (i : Identifier) (c : List ℕ) → i.class ≡ class → made i c ≡ made (of_class class i) c
own_class class i c e = ap (λ (n : ℕ). made (of_class n i) c) e

-- where the class is one of the four, the refusals are those of the value
pub of_class_none : (class : ℕ) (own : SerializeError → Type 0) → class < 4 → HasNone own →
    HasNone (UnderClass class own)
of_class_none class own l n e (inl h) = let k = h.0 in omega arith
of_class_none class own l n e (inr h) = n e h.1

-- what is written under a tag of one of the four classes has no refusal,
-- where its counts and its contents octets have none
pub under_tag : (class : ℕ) (count_refuses : Error → Type 0) (own : SerializeError → Type 0) → class < 4 →
    HasNone count_refuses →
    HasNone own → HasNone (UnderClass class (WrittenRefusal count_refuses)) × HasNone (UnderClass class own)
under_tag class count_refuses own few n o = (
  of_class_none class (WrittenRefusal count_refuses) few (behind_header count_refuses n),
  of_class_none class own few o,
)

-- Values that are all of the octets.

module _ {V : Type 0} (G : List ℕ → V → Type 0) where
  -- A word begins itself, and nothing is left.
  pub whole_front : (o : List ℕ) (v : V) → G o v → HasPrefix G o v []
  whole_front o v w = record { word = o; fits = w; is = sym (append-nil o) }

  -- A word that begins the octets, and leaves nothing, is all of them.
  pub front_whole : (o rest : List ℕ) (v : V) → HasPrefix G o v rest → rest ≡ [] → G o v
  front_whole o rest v f none =
      let e : o ≡ f.word = f.is ∙ ap (λ (r : List ℕ). f.word ++ r) none ∙ append-nil f.word in
      subst (λ (w : List ℕ). G w v) (sym e) f.fits

  -- Where one word alone begins an input, one that begins another leaves nothing of it.
  pub none_left : IsPrefixFree G → (o rest : List ℕ) (v w : V) → HasPrefix G o v rest → G o w → rest ≡ []
  none_left one o rest v w f h =
      let same : (o ≡ f.word) × (w ≡ v) = one.one o f.word [] rest w v h f.fits (append-nil o ∙ f.is) in
      append_cancel_left f.word rest [] (sym f.is ∙ same.0 ∙ sym (append-nil f.word))

module _ {T V E : Type 0} (reads : List ℕ → Result (List ℕ × T) (Refusal E) → Type 0) (from : Error → E → Type 0)
    (G : List ℕ → V → Type 0) (value : T → V) (allocates : Bool) (IsTruncated : List ℕ → Type 0)
    (exact : (octets : List ℕ) (answer : Result (List ℕ × T) (Refusal E)) → IsOctets octets → reads octets answer →
    Exactly IsTruncated G value (TellsMemory allocates from) octets answer) where
  -- What is read so is a word, with this value.
  pub whole_is : (octets : List ℕ) (x : T) → IsOctets octets → ReadsWhole reads from octets (Ok x) → G octets (value x)
  whole_is octets x o (Ok y, g, (none, is)) = subst (λ (t : T). G octets (value t)) (sym is)
      (front_whole G octets y.0 (value y.1) (exact octets (Ok y) o g) none)
  whole_is octets x o (Err r, g, none) = absurd none

  -- What is refused so is no word, except when out of memory.
  pub whole_refused : IsPrefixFree G → (octets : List ℕ) (r : Refusal E) → IsOctets octets →
      ReadsWhole reads from octets (Err r) → TellsMemory allocates from r ⊎ ((v : V) → G octets v → ⊥)
  whole_refused one octets r o (Ok y, g, (some, told)) =
      inr (λ v w. some (none_left G one octets y.0 (value y.1) v (exact octets (Ok y) o g) w))
  whole_refused one octets r o (Err own, g, is) =
      elim (exact octets (Err own) o g) [
        | inl m ↦ inl (subst (TellsMemory allocates from) (sym is) m)
        | inr n ↦ inr (λ v w. none_now (IsTruncated octets) own G octets n octets [] v (sym (append-nil octets)) w)
      ]

-- Where the reader does not report out of memory, neither does what is read so.
pub whole_no_memory : {T E : Type 0} (reads : List ℕ → Result (List ℕ × T) (Refusal E) → Type 0)
    (from : Error → E → Type 0) →
    ((octets : List ℕ) (answer : Result (List ℕ × T) (Refusal E)) → reads octets answer →
    IfErr answer (ErrorIs (IsOther from))) →
    (octets : List ℕ) (r : Refusal E) → ReadsWhole reads from octets (Err r) → ErrorIs (IsOther from) r
whole_no_memory reads from asks_no_memory octets r (Ok y, g, (some, (e, made, is))) =
    subst (ErrorIs (IsOther from)) (sym is) (inl (DerConstraintFailed TrailingOctets, λ q. cc, made))
whole_no_memory reads from asks_no_memory octets r (Err own, g, is) =
    subst (ErrorIs (IsOther from)) (sym is) (asks_no_memory octets (Err own) g)

-- Refusals, and equality.

-- what the refusal of a check is made into does not report out of memory
pub check_no_memory : {E : Type 0} (check : CheckGives) → IsCheck check →
    (from : Error → E → Type 0) (p : Parts) (refusal : Error) (e : E) → check p (Err refusal) → from refusal e →
    IsOther from e
check_no_memory check is from p refusal e t m =
    inl (refusal, λ q. is.asks_no_memory p (subst (λ (x : Error). check p (Err x)) q t), m)

-- what says nothing of a value, beside it, is equal to every other
pub same_beside_nothing : {A : Type 0} (same : Bool) → IsTrue same ↔ A → IsTrue (same && true) ↔ A
same_beside_nothing true h = h
same_beside_nothing false h = h
