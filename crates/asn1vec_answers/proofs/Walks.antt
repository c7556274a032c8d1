-- Items in turn, and their texts, joined by a sign.
use Rattle.std.proofs.Common.{◌≡◌, ◌∙◌, sym, ap, refl, subst, ℕ, List, [], ◌∷◌, ◌++◌, map, Option, None, append_assoc}
use Rattle.std.proofs.Common.{append-nil}
use Rattle.std.specs.Borrow.{Bor}
use Rattle.std.specs.Iterator.{AlwaysYields, Yields}
use Rattle.std.specs.List.{flat_map, join_by}
use Rattle.std.specs.Map.Iter.{TakesFirst, deref}
use Rattle.std.specs.declared.slice.Iter.{Iter}
use Rattle.std.specs.Slice.Iter.{iter_rest}
use Rattle.std.proofs.iter.Yields.{fronts}
use Rattle.std.proofs.lemmas.Grind.{flat_map-append}
use Rattle.std.proofs.lemmas.Iterator.{YieldsList, YieldsList-from_slice}
use Rattle.std.proofs.lemmas.Iterator.Consumers.{YieldsList-end, YieldsList-from_rest}
use Rattle.std.proofs.lemmas.List.{map-append}
use Rattle.std.proofs.lemmas.List.Folds.{flat_map-map}

-- what stands before the next item
abbrev pub before_next : {X : Type 0} → List ℕ → List X → List ℕ
before_next comma [] = []
before_next comma (x ∷ xs) = comma

-- one more item behind those there
pub joined_more : {X : Type 0} (text_of : X → List ℕ) (comma : List ℕ) (xs : List X) (x : X) →
    join_by text_of comma (xs ++ x ∷ []) ≡ (join_by text_of comma xs ++ before_next comma xs) ++ text_of x
joined_more text_of comma [] x = append-nil (text_of x)
joined_more text_of comma (y ∷ xs) x =
    ap (λ (l : List ℕ). text_of y ++ l) (flat_map-append (λ z. comma ++ text_of z) xs (x ∷ [])
    ∙ ap (λ (l : List ℕ). flat_map (λ z. comma ++ text_of z) xs ++ l) (append-nil (comma ++ text_of x)))
    ∙ sym (append_assoc (text_of y) (flat_map (λ z. comma ++ text_of z) xs) (comma ++ text_of x))
    ∙ sym (append_assoc (text_of y ++ flat_map (λ z. comma ++ text_of z) xs) comma (text_of x))

-- a slice's iterator gives its items, and one of a set its members
pub slice_yields : {A : Type 0} (s : Iter A) (xs : List A) → iter_rest s ≡ xs →
    AlwaysYields fronts (λ (r : Bor A). r.now) s xs
slice_yields s xs e = (YieldsList-from_slice xs e).runs

pub keys_yield : {A : Type 0} (s xs : List A) → s ≡ xs → AlwaysYields (TakesFirst deref) (λ (r : Bor A). r.now) s xs
keys_yield s xs e = (YieldsList-from_rest xs e).runs

-- the items behind these references
abbrev pub read_through : {A : Type 0} → List (Bor A) → List A
read_through rs = map (λ (r : Bor _). r.now) rs

-- all items that an iterator gives, where it is at its end
pub all_seen : {S A : Type 0} (steps : S → Option (Bor A) → S → Type 0) (first : S) (xs : List A) →
    AlwaysYields steps (λ r. r.now) first xs
    → (begin now next : S) → begin ≡ first → (seen : List (Bor A)) → Yields steps begin seen now →
    (answer : Option (Bor A)) → steps now answer next → answer ≡ None → read_through seen ≡ xs
all_seen {S} {A} steps first xs gives begin now next start seen led answer step is =
    let list : YieldsList steps (λ (r : Bor A). r.now) begin xs =
    record { runs = subst (λ (z : S). AlwaysYields steps (λ (r : Bor A). r.now) z xs) (sym start) gives } in
    (YieldsList-end list seen now led answer next is step).0

-- the text of one more item
pub text_more : {A : Type 0} (text_of : A → List ℕ) (sign : List ℕ) (seen : List (Bor A)) (r : Bor A)
    (front now separator between after : List ℕ) → now ≡ front ++ join_by text_of sign (read_through seen) →
    separator ≡ before_next sign seen → between ≡ now ++ separator → after ≡ between ++ text_of r.now →
    after ≡ front ++ join_by text_of sign (read_through (seen ++ r ∷ []))
text_more {A} text_of sign seen r front now separator between after is separated grown more =
    let joined = join_by text_of sign (read_through seen) in
    let longer : join_by text_of sign (read_through (seen ++ r ∷ [])) ≡ (joined ++ separator) ++ text_of r.now =
    ap (λ (xs : List A). join_by text_of sign xs) (map-append (λ (r : Bor A). r.now) seen (r ∷ []))
    ∙ joined_more text_of sign (read_through seen) r.now
    ∙ ap (λ (l : List ℕ). (joined ++ l) ++ text_of r.now) (before_same seen ∙ sym separated) in
    let all : after ≡ ((front ++ joined) ++ separator) ++ text_of r.now =
    more ∙ ap (λ (l : List ℕ). l ++ text_of r.now) (grown ∙ ap (λ (l : List ℕ). l ++ separator) is) in
    all ∙ append_assoc (front ++ joined) separator (text_of r.now)
    ∙ append_assoc front joined (separator ++ text_of r.now)
    ∙ ap (λ (l : List ℕ). front ++ l) (sym (append_assoc joined separator (text_of r.now)) ∙ sym longer)
  where
    before_same : (seen : List (Bor A)) → before_next sign (read_through seen) ≡ before_next sign seen
    before_same [] = refl
    before_same (r ∷ rs) = refl

pub before_more : {X : Type 0} (sign : List ℕ) (xs : List X) (x : X) → before_next sign (xs ++ x ∷ []) ≡ sign
before_more sign [] x = refl
before_more sign (y ∷ xs) x = refl

-- and of all of them
pub text_whole : {A : Type 0} (text_of : A → List ℕ) (sign : List ℕ) (ys xs : List A) (front now : List ℕ) →
    now ≡ front ++ join_by text_of sign ys → ys ≡ xs → now ≡ front ++ join_by text_of sign xs
text_whole {A} text_of sign ys xs front now is whole =
    is ∙ ap (λ (zs : List A). front ++ join_by text_of sign zs) whole

-- the texts of what is seen of items
pub joined_seen : {S V : Type 0} (view : S → V) (text_of : V → List ℕ) (sign : List ℕ) (xs : List S) →
    join_by (λ (x : S). text_of (view x)) sign xs ≡ join_by text_of sign (map view xs)
joined_seen view text_of sign [] = refl
joined_seen view text_of sign (x ∷ xs) =
    ap (λ (l : List ℕ). text_of (view x) ++ l) (sym (flat_map-map (λ (v : _). sign ++ text_of v) view xs))
