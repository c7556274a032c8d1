-- Items that an exact reader took, as words that are joined; and walks by a reader that takes no memory.
use Rattle.std.proofs.Common.{◌≡◌, sym, subst, inl, inr, refl, ◌⊎◌, ℕ, Bool, List, [], ◌∷◌, map}
use Rattle.std.proofs.lemmas.List.Elements.{All-nil, All-cons}
use Rattle.std.specs.Prelude.{Result, Ok, Err, IfErr}
use Rattle.std.specs.List.{All}
use Rattle.std.specs.Iterator.{Yields}
use Rattle.std.specs.Iterator.Runs.{Run, YieldsRun}
use Rattle.x690.specs.Elements.{Parts}
use Rattle.x690.specs.Joined.{IsConcatenation}
use Rattle.x690.specs.Laws.Joined.{joined_same}
use Rattle.x690.specs.Octets.{IsOctets}
use Rattle.asn1_headers.specs.Answers.{IsOther, TellsMemory}
use Rattle.asn1_headers.specs.Error.{FlattenedTo, ErrorIs}
use Rattle.asn1_headers.specs.Walk.{EndsItem, TakesItem}
use Rattle.asn1_headers.specs.declared.error.Err.{Err as Refusal}
use Rattle.asn1_headers.specs.declared.error.Err.TheVariants.{Incomplete as truncated, Error as refused, Failure as failed}
use Rattle.asn1_headers.specs.declared.error.Error.{Error}
use Rattle.asn1_headers.specs.declared.error.Error.TheVariants as errors
use Rattle.asn1_rs.specs.declared.asn1_types.sequence.iterator.SequenceIterator.{SequenceIterator}
use Rattle.asn1_rs.specs.Checks.{CheckGives}
use Rattle.asn1_rs.specs.Kinds.{IsExactCheck}
use Rattle.asn1_rs.specs.Lists.{HasNoConcatenation, ItemsGive, ListConverts, IsListMadeOf, ShapedList}
use Rattle.asn1_rs.specs.ToDer.{HasNone}
use Rattle.asn1_rs.specs.Laws.Lists.{taken_joined, taken_none}
use Rattle.asn1_rs.specs.Laws.Sequence.Iterator.{octets_kept, octets_walked}
use Rattle.asn1_rs.specs.Sequence.Iterator.{octets_left, WalkSteps, ReadsExactly}

module _ {T V E : Type 0} (reads : List ℕ → Result (List ℕ × T) (Refusal E) → Type 0) (from : Error → E → Type 0)
    (G : List ℕ → V → Type 0) (value : T → V) (allocates : Bool) (IsTruncated : List ℕ → Type 0)
    (exact : ReadsExactly IsTruncated G value (TellsMemory allocates from) reads) where
  pub all_joined : (content : List ℕ) (items : List T) → IsOctets content → ItemsGive reads from content (Ok items) →
      IsConcatenation G content (map value items)
  all_joined content items o y = taken_joined reads from G value allocates IsTruncated exact.one_word IsOctets octets_kept
      exact.takes items content [] o refl y

  pub alone_joined : (content : List ℕ) (items : List T) (values : List V) → IsOctets content →
      ItemsGive reads from content (Ok items) → IsConcatenation G content values → values ≡ map value items
  alone_joined content items values o y j =
      joined_same G exact.one_word content content values (map value items) refl j (all_joined content items o y)

  pub none_joined : (content : List ℕ) (e : E) → IsOctets content → ItemsGive {T = T} reads from content (Err e) →
      from errors.OutOfMemory e ⊎ HasNoConcatenation G content
  none_joined content e o (inl m) = inl m
  none_joined content e o (inr s) =
      elim (taken_none reads from G value allocates IsTruncated exact.one_word IsOctets octets_kept exact.takes s.0 e content
      s.1 o s.2) [
        | inl m ↦ inl m.1
        | inr none ↦ inr none
      ]

  -- of the lists that are made of such items
  module _ {W : Type 0} {check : CheckGives} {Shape : Parts → Type 0} (checks : IsExactCheck check Shape)
      (holds : List T → W → Type 0) (p : Parts) (o : IsOctets p.content) where
    pub element_taken : (w : W) → ListConverts check holds reads from p (Ok w) →
        IsListMadeOf (ShapedList Shape G) value holds p w
    element_taken w (is, (items, held, y)) =
        (items, held, record { shape = checks.exact p (Ok tt) is; items = all_joined p.content items o y })

    pub element_not_taken : (e : E) → ListConverts {W = W} check holds reads from p (Err e) →
        from errors.OutOfMemory e ⊎ HasNone (ShapedList Shape G p)
    element_not_taken e (inl r) = inr (λ vs b. checks.exact p (Err r.0) r.1 b.shape)
    element_not_taken e (inr (is, y)) =
        elim (none_joined p.content e o y) [ inl m ↦ inl m | inr none ↦ inr (λ vs b. none vs b.items) ]

module _ {T E : Type 0} (reads : List ℕ → Result (List ℕ × T) (Refusal E) → Type 0) (from : Error → E → Type 0)
    (asks_no_memory : (octets : List ℕ) (answer : Result (List ℕ × T) (Refusal E)) → reads octets answer →
    IfErr answer (ErrorIs (IsOther from))) where
  end_no_memory : (octets : List ℕ) (answer : Result (List ℕ × T) (Refusal E)) (e : E) → reads octets answer →
      EndsItem from octets answer e → IsOther from e
  end_no_memory octets (Ok x) e g w = inl (errors.InvalidLength, (λ h. cc), w.1)
  end_no_memory octets (Err r) e g w = told r (asks_no_memory octets (Err r) g) w
    where
      told : (r : Refusal E) → ErrorIs (IsOther from) r → FlattenedTo (λ x y. y ≡ x) from r e → IsOther from e
      told (truncated n) h f = inl (errors.Incomplete n, (λ h. cc), f)
      told (refused x) h f = subst (IsOther from) (sym f) h
      told (failed x) h f = subst (IsOther from) (sym f) h

  abbrev Redundant : Result T E → Type 0
  Redundant answer = IfErr answer (IsOther from)

  pub walk_no_memory : (answers : List (Result T E)) (content left : List ℕ) →
      Yields (TakesItem reads from) content answers left → All Redundant answers
  walk_no_memory [] content left y = All-nil Redundant
  walk_no_memory (Ok x ∷ answers) content left (j, s, y) =
      All-cons Redundant (Ok x) answers tt (walk_no_memory answers j left y)
  walk_no_memory (Err e ∷ answers) content left (j, s, y) =
      All-cons Redundant (Err e) answers (end_no_memory content s.1.0 e s.1.1 s.1.2) (walk_no_memory answers j left y)

  pub run_no_memory : {F : Type 0} (p : Run {S = SequenceIterator T F E} {A = Result T E} (WalkSteps reads from)) →
      All Redundant p.items
  unfolding YieldsRun
  run_no_memory p =
      let y = p.gave.0 in
      walk_no_memory p.items (octets_left p.from) (octets_left y.0) (octets_walked reads from p.from y.0 p.items y.1)
