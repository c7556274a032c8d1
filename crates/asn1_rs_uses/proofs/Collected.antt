-- What a loop over items has collected where it ends.
use Rattle.std.proofs.Common.{◌≡◌, ap, sym, subst, ◌∙◌, refl, inl, inr, ℕ, Bool, false, true, List, [], ◌∷◌, ◌++◌}
use Rattle.std.proofs.Common.{length, map, append-nil}
use Rattle.std.specs.Prelude.{◌⊎◌, Result, Ok, Err, Option, Some, None}
use Rattle.std.proofs.lemmas.List.{length-map}
use Rattle.std.specs.Iterator.{Yields}
use Rattle.std.specs.Iterator.Runs.{Run}
use Rattle.std.proofs.iter.Next.{Yields-more}
use Rattle.x690.specs.Joined.{IsConcatenation}
use Rattle.asn1_headers.specs.declared.error.Err.{Err as Refusal}
use Rattle.asn1_headers.specs.declared.error.Error.{Error}
use Rattle.asn1_headers.specs.declared.error.Error.TheVariants as errors
use Rattle.asn1_rs.specs.declared.asn1_types.sequence.iterator.SequenceIterator.{SequenceIterator}
use Rattle.asn1_rs.specs.Sequence.Iterator.{octets_left, WalkSteps, EndsWalk, IsWalk, IsWalkOf, EndsJoined, TellsNoWord}
use Rattle.asn1_rs.specs.Sequence.Iterator.{TellsMemoryAlone, IsMemory}
use Rattle.asn1_rs.specs.Laws.Sequence.Iterator.{items_joined, items_ended}
use Rattle.asn1_rs_uses.specs.Items.{EndsBefore}

module _ {T F V E : Type 0} (reads : List ℕ → Result (List ℕ × T) (Refusal E) → Type 0) (from : Error → E → Type 0)
    (G : List ℕ → V → Type 0) (value : T → V)
    (s : SequenceIterator T F E) (content : List ℕ) (begins : octets_left s ≡ content) where
  abbrev Steps : SequenceIterator T F E → Option (Result T E) → SequenceIterator T F E → Type 0
  Steps = WalkSteps reads from

  -- what a law of walks says of the calls from the iterator
  abbrev pub Walks : (List ℕ → E → Type 0) → Type 0
  Walks Tells = (t : SequenceIterator T F E) (answers : List (Result T E)) → Yields Steps s answers t →
      IsWalk G value Tells (octets_left s) answers (octets_left t)

  -- at the end
  pub collected : (Tells : List ℕ → E → Type 0) → Walks Tells →
      (t u : SequenceIterator T F E) (answers : List (Result T E)) (items : List T) → answers ≡ map Ok items →
      Yields Steps s answers t → Steps t None u → IsConcatenation G content (map value items)
  collected Tells walks t u answers items are y step =
      let w = walks t (map Ok items) (subst (λ (xs : List (Result T E)). Yields Steps s xs t) are y) in
      subst (λ (o : List ℕ). IsConcatenation G o (map value items)) begins
      (items_joined G value Tells (octets_left s) items (octets_left t) w step.0)

  -- at a refusal
  pub refused : (Tells : List ℕ → E → Type 0) → Walks Tells →
      (t u : SequenceIterator T F E) (answers : List (Result T E)) (items : List T) (e : E) → answers ≡ map Ok items →
      Yields Steps s answers t → Steps t (Some (Err e)) u → EndsJoined G Tells content (map value items) e
  refused Tells walks t u answers items e are y step =
      let all : Yields Steps s (answers ++ Err e ∷ []) u = Yields-more Steps s answers t (Err e) u y step in
      let w = walks u (map Ok items ++ Err e ∷ [])
      (subst (λ (xs : List (Result T E)). Yields Steps s (xs ++ Err e ∷ []) u) are all) in
      subst (λ (o : List ℕ). EndsJoined G Tells o (map value items) e) begins
      (items_ended G value Tells (octets_left s) items e (octets_left u) w)

-- a refusal tells of memory, or that no word begins what is left
pub why_refused : {V E : Type 0} (from : Error → E → Type 0) (G : List ℕ → V → Type 0) (allocates : Bool)
    (content : List ℕ)
    (values : List V) (e : E) → EndsJoined G (TellsNoWord G (IsMemory allocates from)) content values e →
    from errors.OutOfMemory e ⊎ EndsBefore G content e
why_refused from G allocates content values e j =
    elim j.tells [
      | inl m ↦ inl m.1
      | inr none ↦ inr (
        values,
        record { front = j.front; others = j.others; is = j.is; joined = j.joined; some = j.some; tells = none },
      )
    ]

-- without memory that is taken, a walk over joined words ends with nothing left
none_left : {T E : Type 0} (from : Error → E → Type 0) (others : List ℕ) (ends : List (Result T E)) (left : List ℕ) →
    EndsWalk (TellsMemoryAlone (IsMemory false from)) others ends left → ends ≡ []
none_left from others [] left w = refl
none_left from others (Err e ∷ []) left w = let untold = w.1.0 in cc
none_left from others (Err e ∷ (a ∷ more)) left w = absurd w
none_left from others (Ok x ∷ more) left w = absurd w

-- as many answers came as there are words
pub counted : {T F V E : Type 0} (reads : List ℕ → Result (List ℕ × T) (Refusal E) → Type 0) (from : Error → E → Type 0)
    (G : List ℕ → V → Type 0) (value : T → V)
    (p : Run {S = SequenceIterator T F E} {A = Result T E} (WalkSteps reads from)) →
    IsWalkOf G value (TellsMemoryAlone (IsMemory false from)) p → p.whole ≡ true →
    (values : List V) × IsConcatenation G (octets_left p.from) values × (p.len ≡ length values)
counted {T} {F} {V} {E} reads from G value p w whole =
    let walk = w.walk in
    let none : walk.ends ≡ [] = none_left from walk.others walk.ends w.left walk.end in
    let answers : p.items ≡ map Ok walk.items = walk.answers_are
    ∙ ap (λ (ys : List (Result T E)). map Ok walk.items ++ ys) none ∙ append-nil (map Ok walk.items) in
    let same : IsWalk G value (TellsMemoryAlone (IsMemory false from)) (octets_left p.from) (map Ok walk.items) w.left =
    subst (λ (xs : List (Result T E)).
    IsWalk G value (TellsMemoryAlone (IsMemory false from)) (octets_left p.from) xs w.left) answers walk in (
      map value walk.items,
      items_joined G value (TellsMemoryAlone (IsMemory false from)) (octets_left p.from) walk.items w.left same
          (w.whole whole),
      p.long ∙ ap length answers ∙ length-map walk.items Ok ∙ sym (length-map walk.items value),
    )
