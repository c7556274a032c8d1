-- Laws of walks over items.
use Rattle.std.proofs.Common.{arith, ◌≡◌, ◌≢◌, ◌∙◌, ap, sym, subst, refl, ℕ, ◌+◌, ◌≤◌, inl, inr, Bool, List, [], ◌∷◌}
use Rattle.std.proofs.Common.{◌++◌, length, append_assoc, length-append, append-nil}
use Rattle.std.proofs.lemmas.List.{append_cancel_left}
use Rattle.std.specs.Prelude.{Result, Ok, Err, Option, map}
use Rattle.std.specs.List.{AllZip, concat}
use Rattle.std.specs.Iterator.{Yields}
use Rattle.std.specs.Iterator.Runs.{Run, YieldsRun}
use Rattle.x690.specs.Octets.{IsOctets}
use Rattle.x690.specs.Laws.Octets.{octets_back}
use Rattle.x690.specs.Joined.{NoPrefix, IsPrefixFree, IsConcatenation, AreConcatenatedWords}
use Rattle.asn1_headers.specs.declared.error.Err.{Err as Refusal}
use Rattle.asn1_headers.specs.declared.error.Err.TheVariants.{Incomplete as truncated, Error as refused, Failure as failed}
use Rattle.asn1_headers.specs.declared.error.Error.{Error}
use Rattle.asn1_headers.specs.declared.error.Error.TheVariants as errors
use Rattle.asn1_headers.specs.Error.{FlattenedTo}
use Rattle.asn1_headers.specs.Answers.{HasPrefix, Exactly, TellsMemory}
use Rattle.asn1_rs.specs.declared.asn1_types.sequence.iterator.SequenceIterator.{SequenceIterator}
use Rattle.asn1_headers.specs.Walk.{EndsItem, TakesItem}
use Rattle.asn1_rs.specs.Sequence.Iterator.{octets_left, WalkSteps, EndsWalk, IsWalk, IsWalkOf, EndsJoined, TellsNoWord}
use Rattle.asn1_rs.specs.Sequence.Iterator.{TellsMemoryAlone, IsMemory}
use Rattle.asn1_rs.specs.Laws.Readers.{none_now}

-- Calls as steps.

-- Calls on an iterator are steps over the octets that are left.
pub octets_walked : {T F E : Type 0} (reads : List ℕ → Result (List ℕ × T) (Refusal E) → Type 0)
    (from : Error → E → Type 0) (s t : SequenceIterator T F E) (answers : List (Result T E)) →
    Yields (WalkSteps reads from) s answers t → Yields (TakesItem reads from) (octets_left s) answers (octets_left t)
octets_walked reads from s t [] y = ap octets_left y
octets_walked reads from s t (x ∷ answers) (j, step, y) = (octets_left j, step, octets_walked reads from j t answers y)

-- Octets that are not none are one at least.
some_length : (octets : List ℕ) → octets ≢ [] → 1 ≤ length octets
some_length [] n = absurd (n refl)
some_length (x ∷ xs) n = omega arith

-- Any walk.

module _ {T E : Type 0} (reads : List ℕ → Result (List ℕ × T) (Refusal E) → Type 0) (from : Error → E → Type 0) where
  -- one call as a step over the octets that are left
  abbrev Steps : List ℕ → Option (Result T E) → List ℕ → Type 0
  Steps = TakesItem reads from

  -- where nothing is left nothing more is answered
  pub nothing_follows : (answers : List (Result T E)) (left : List ℕ) → Yields Steps [] answers left →
      (answers ≡ []) × (left ≡ [])
  nothing_follows [] left y = (refl, sym y)
  nothing_follows (Ok x ∷ answers) left (j, s, y) = absurd (s.0 refl)
  nothing_follows (Err e ∷ answers) left (j, s, y) = absurd (s.0 refl)

  -- each answer takes an octet at least
  pub walk_is_short : (answers : List (Result T E)) (content left : List ℕ) → Yields Steps content answers left →
      length answers + length left ≤ length content
  walk_is_short [] content left y = let l = ap length y in omega (arith, l)
  walk_is_short (Ok x ∷ answers) content left (j, s, y) =
      let r = walk_is_short answers j left y in
      omega (arith, s.2, r)
  walk_is_short (Err e ∷ answers) content left (j, s, y) =
      let r = walk_is_short answers j left y in
      let l = ap length s.2 in
      let n = some_length content s.0 in
      omega (arith, r, l, n)

  -- a refusal is the last answer
  pub refusal_is_last : (before after : List (Result T E)) (e : E) (content left : List ℕ) →
      Yields Steps content (before ++ Err e ∷ after) left → (after ≡ []) × (left ≡ [])
  refusal_is_last [] after e content left (j, s, y) =
      nothing_follows after left (subst (λ (k : List ℕ). Yields Steps k after left) s.2 y)
  refusal_is_last (x ∷ before) after e content left (j, s, y) = refusal_is_last before after e j left y

  -- What is left keeps a property, from which an item is the value of a word and a refusal tells what it may. Then a
  -- walk takes the words of the contents octets.
  module _ {V : Type 0} (G : List ℕ → V → Type 0) (value : T → V) (Tells : List ℕ → E → Type 0)
      (Keeps : List ℕ → Type 0)
      (takes : (octets rest : List ℕ) (item : T) → Keeps octets → octets ≢ [] → reads octets (Ok (rest, item)) →
      HasPrefix G octets (value item) rest × Keeps rest)
      (tells : (octets : List ℕ) (answer : Result (List ℕ × T) (Refusal E)) (e : E) → Keeps octets → octets ≢ [] →
      reads octets answer → EndsItem from octets answer e → Tells octets e) where
    -- A walk each of whose items is a word, and whose refusal tells what it has to, is a walk over the words.
    pub walk_made : (answers : List (Result T E)) (content left : List ℕ) → Keeps content →
        Yields Steps content answers left → IsWalk G value Tells content answers left
    walk_made [] content left k y = record {
      words = [];
      items = [];
      others = content;
      ends = [];
      answers_are = refl;
      values = tt;
      joined = refl;
      end = sym y;
    }
    walk_made (Ok x ∷ answers) content left k (j, s, y) =
        let t = takes content j x k s.0 s.1 in
        let f = t.0 in
        let w = walk_made answers j left t.1 y in
        record {
          words = f.word ∷ w.words;
          items = x ∷ w.items;
          others = w.others;
          ends = w.ends;
          answers_are = ap (λ (ys : List (Result T E)). Ok x ∷ ys) w.answers_are;
          values = (f.fits, w.values);
          joined =
              f.is ∙ ap (λ (ys : List ℕ). f.word ++ ys) w.joined ∙ sym (append_assoc f.word (concat w.words) w.others);
          end = w.end;
        }
    walk_made (Err e ∷ []) content left k (j, s, y) =
        record {
          words = [];
          items = [];
          others = content;
          ends = Err e ∷ [];
          answers_are = refl;
          values = tt;
          joined = refl;
          end = (s.0, tells content s.1.0 e k s.0 s.1.1 s.1.2, sym y ∙ s.2);
        }
    walk_made (Err e ∷ (a ∷ answers)) content left k (j, s, y) =
        let n = nothing_follows (a ∷ answers) left (subst (λ (k : List ℕ). Yields Steps k (a ∷ answers) left) s.2 y) in
        cc

-- Walks of a reader that is exact.

-- what follows the front of octets are octets
pub octets_kept : (octets word rest : List ℕ) → IsOctets octets → octets ≡ word ++ rest → IsOctets rest
octets_kept octets word rest o e = octets_back word rest (subst IsOctets e o)

-- Walks by a reader that is exact by a grammar whose words begin one input in one way. Something holds of the octets
-- that also holds of what follows a word.
module _ {T V E : Type 0} (reads : List ℕ → Result (List ℕ × T) (Refusal E) → Type 0) (from : Error → E → Type 0)
    (G : List ℕ → V → Type 0) (value : T → V) (allocates : Bool) (IsTruncated : List ℕ → Type 0)
    (one : IsPrefixFree G) (Keeps : List ℕ → Type 0)
    (kept : (octets word rest : List ℕ) → Keeps octets → octets ≡ word ++ rest → Keeps rest)
    (exact : (octets : List ℕ) (answer : Result (List ℕ × T) (Refusal E)) → Keeps octets → reads octets answer →
    Exactly IsTruncated G value (TellsMemory allocates from) octets answer) where
  -- the rest behind a word is shorter
  not_as_long : (octets rest : List ℕ) (v : V) → HasPrefix G octets v rest → length octets ≤ length rest → ⊥
  not_as_long octets rest v f l = shown f.word f.fits f.is
    where
      shown : (word : List ℕ) → G word v → octets ≡ word ++ rest → ⊥
      shown [] g e = one.some v g
      shown (x ∷ xs) g e = omega (arith, ap length e, length-append xs rest, l)

  -- an answer that ends the walk tells that no word begins what is left, or reports out of memory
  end_tells : (octets : List ℕ) (answer : Result (List ℕ × T) (Refusal E)) (e : E) → Keeps octets →
      reads octets answer → EndsItem from octets answer e → TellsNoWord G (IsMemory allocates from) octets e
  end_tells octets (Ok x) e o g w = absurd (not_as_long octets x.0 (value x.1) (exact octets (Ok x) o g) w.0)
  end_tells octets (Err r) e o g w =
      elim (exact octets (Err r) o g) [
        | inl m ↦ inl (m.0, memory_told r m.1.0 m.1.2 w m.1.1)
        | inr f ↦ inr (none_now (IsTruncated octets) r G octets f)
      ]
    where
      memory_told : (r : Refusal E) (f : E) → r ≡ refused f → FlattenedTo (λ x y. y ≡ x) from r e →
          from errors.OutOfMemory f → from errors.OutOfMemory e
      memory_told (refused x) f s t m = let u : e ≡ f = cc in subst (from errors.OutOfMemory) (sym u) m
      memory_told (truncated n) f s t m = cc
      memory_told (failed x) f s t m = cc

  -- A walk gives the words at the front in turn; a refusal tells that no word follows, or of want of memory.
  pub lawful_walk : (answers : List (Result T E)) (content left : List ℕ) → Keeps content →
      Yields (TakesItem reads from) content answers left →
      IsWalk G value (TellsNoWord G (IsMemory allocates from)) content answers left
  lawful_walk = walk_made reads from G value (TellsNoWord G (IsMemory allocates from)) Keeps
      (λ octets rest item o n g. let f = exact octets (Ok (rest, item)) o g in (f, kept octets f.word rest o f.is))
      (λ octets answer e o n g w. end_tells octets answer e o g w)

  -- Walks over joined words.

  -- octets of the kind that is kept, which are joined words
  abbrev KeepsJoined : List ℕ → Type 0
  KeepsJoined octets = Keeps octets × AreConcatenatedWords G octets

  -- behind the first of joined words the others are joined
  others_joined : (octets rest : List ℕ) (v : V) → AreConcatenatedWords G octets → HasPrefix G octets v rest →
      AreConcatenatedWords G rest
  others_joined octets rest v ([], a, e) f = absurd (shown f.word f.fits (sym e ∙ f.is))
    where
      shown : (word : List ℕ) → G word v → [] ≡ word ++ rest → ⊥
      shown [] g s = one.some v g
      shown (x ∷ xs) g s = cc
  others_joined octets rest v (w ∷ words, a, e) f =
      let s : f.word ++ rest ≡ w ++ concat words = sym f.is ∙ e in
      let same : (f.word ≡ w) × (v ≡ a.0.0) = one.one f.word w rest (concat words) v a.0.0 f.fits a.0.1 s in
      (words, a.1, append_cancel_left w rest (concat words) (ap (λ (ys : List ℕ). ys ++ rest) (sym same.0) ∙ s))

  -- a word begins joined words, if there are any
  begins_joined : (octets : List ℕ) → octets ≢ [] → AreConcatenatedWords G octets → NoPrefix G octets → ⊥
  begins_joined octets n ([], a, e) none = n e
  begins_joined octets n (w ∷ words, a, e) none = none w (concat words) a.0.0 e a.0.1

  -- A walk over joined words gives them in turn, and tells no refusal but want of memory.
  pub whole_walk : (answers : List (Result T E)) (content left : List ℕ) → Keeps content → AreConcatenatedWords G content →
      Yields (TakesItem reads from) content answers left →
      IsWalk G value (TellsMemoryAlone (IsMemory allocates from)) content answers left
  whole_walk answers content left o a =
      walk_made reads from G value (TellsMemoryAlone (IsMemory allocates from)) KeepsJoined
      (λ octets rest item k n g. let f = exact octets (Ok (rest, item)) k.0 g in (
        f,
        (kept octets f.word rest k.0 f.is, others_joined octets rest (value item) k.1 f),
      ))
      (λ octets answer e k n g w. elim (end_tells octets answer e k.0 g w) [
        | inl m ↦ m
        | inr none ↦ absurd (begins_joined octets n k.1 none)
      ])
      answers content left (o, a)

-- Runs of std's consumers.

-- What holds of a walk over octets holds of the runs of std's consumers.
pub run_walked : {T F V E : Type 0} (reads : List ℕ → Result (List ℕ × T) (Refusal E) → Type 0)
    (from : Error → E → Type 0) (G : List ℕ → V → Type 0) (value : T → V) (Tells : List ℕ → E → Type 0)
    (p : Run {S = SequenceIterator T F E} {A = Result T E} (WalkSteps reads from)) →
    ((left : List ℕ) → Yields (TakesItem reads from) (octets_left p.from) p.items left →
    IsWalk G value Tells (octets_left p.from) p.items left) → IsWalkOf G value Tells p
unfolding YieldsRun
run_walked reads from G value Tells p walks = let y = p.gave.0 in record {
  left = octets_left y.0;
  walk = walks (octets_left y.0) (octets_walked reads from p.from y.0 p.items y.1);
  whole = λ w. (y.2 w).1.0;
}

module _ {T V : Type 0} (G : List ℕ → V → Type 0) (value : T → V) where
  -- Octets that words make one behind another are joined words with the values of the items.
  joined_words : (words : List (List ℕ)) (items : List T) (octets : List ℕ) →
      AllZip (λ word item. G word (value item)) words items → octets ≡ concat words →
      IsConcatenation G octets (map value items)
  joined_words [] [] octets a e = e
  joined_words [] (x ∷ items) octets a e = absurd a
  joined_words (w ∷ words) [] octets a e = absurd a
  joined_words (w ∷ words) (x ∷ items) octets a e =
      (w, concat words, a.0, e, joined_words words items (concat words) a.1 refl)

-- What a walk gave before it ended, by the items in hand.
module _ {T V E : Type 0} (G : List ℕ → V → Type 0) (value : T → V) where
  module _ (Tells : List ℕ → E → Type 0) (others left : List ℕ) where
    -- items alone are all that was given
    all_items : (items xs : List T) (ends : List (Result T E)) → map Ok items ≡ map Ok xs ++ ends →
        EndsWalk Tells others ends left → (xs ≡ items) × (ends ≡ [])
    all_items [] [] [] e w = (refl, refl)
    all_items [] [] (a ∷ ends) e w = cc
    all_items [] (x ∷ xs) ends e w = cc
    all_items (i ∷ items) [] [] e w = cc
    all_items (i ∷ items) [] (Ok x ∷ ends) e w = absurd w
    all_items (i ∷ items) [] (Err f ∷ ends) e w = cc
    all_items (i ∷ items) (x ∷ xs) ends e w =
        let same : map Ok items ≡ map Ok xs ++ ends = cc in
        let r = all_items items xs ends same w in
        (cc, r.1)

    -- and so are items and a refusal
    all_before : (items xs : List T) (f : E) (ends : List (Result T E)) →
        map Ok items ++ Err f ∷ [] ≡ map Ok xs ++ ends → EndsWalk Tells others ends left →
        (xs ≡ items) × (ends ≡ Err f ∷ [])
    all_before [] [] f ends e w = (refl, sym e)
    all_before [] (x ∷ xs) f ends e w = cc
    all_before (i ∷ items) [] f [] e w = cc
    all_before (i ∷ items) [] f (Ok x ∷ ends) e w = absurd w
    all_before (i ∷ items) [] f (Err g ∷ ends) e w = cc
    all_before (i ∷ items) (x ∷ xs) f ends e w =
        let same : map Ok items ++ Err f ∷ [] ≡ map Ok xs ++ ends = cc in
        let r = all_before items xs f ends same w in
        (cc, r.1)

  -- a walk that gave items alone, and left nothing
  pub items_joined : (Tells : List ℕ → E → Type 0) (content : List ℕ) (items : List T) (left : List ℕ) →
      IsWalk G value Tells content (map Ok items) left → left ≡ [] → IsConcatenation G content (map value items)
  items_joined Tells content items left w e =
      let all = all_items Tells w.others left items w.items w.ends w.answers_are w.end in
      let none : w.others ≡ [] =
      sym (subst (λ (ends : List (Result T E)). EndsWalk Tells w.others ends left) all.1 w.end) ∙ e in
      let is : content ≡ concat w.words =
      w.joined ∙ ap (λ (xs : List ℕ). concat w.words ++ xs) none ∙ append-nil (concat w.words) in
      subst (λ (xs : List T). IsConcatenation G content (map value xs)) all.0
      (joined_words G value w.words w.items content w.values is)

  -- a walk that gave items, and then a refusal
  pub items_ended : (Tells : List ℕ → E → Type 0) (content : List ℕ) (items : List T) (f : E) (left : List ℕ) →
      IsWalk G value Tells content (map Ok items ++ Err f ∷ []) left → EndsJoined G Tells content (map value items) f
  items_ended Tells content items f left w =
      let all = all_before Tells w.others left items w.items f w.ends w.answers_are w.end in
      let end : EndsWalk {T = T} Tells w.others (Err f ∷ []) left =
      subst (λ (ends : List (Result T E)). EndsWalk Tells w.others ends left) all.1 w.end in
      record {
        front = concat w.words;
        others = w.others;
        is = w.joined;
        joined = subst (λ (xs : List T). IsConcatenation G (concat w.words) (map value xs)) all.0
            (joined_words G value w.words w.items (concat w.words) w.values refl);
        some = end.0;
        tells = end.1;
      }
