-- Items that an iterator gives, one after another.
use Rattle.std.proofs.Common.{◌≡◌, ◌∙◌, ap, sym, subst, arith, ℕ, ◌+◌, ◌<◌, ◌≤◌, List, [], ◌∷◌, ◌++◌, length}
use Rattle.std.proofs.Common.{length-append, take, get_or, Option, Some, None}
use Rattle.std.proofs.lemmas.Grind.{flat_map-append}
use Rattle.std.proofs.lemmas.Iterator.{YieldsList}
use Rattle.std.proofs.lemmas.Iterator.Consumers.{YieldsList-turn, YieldsList-end}
use Rattle.std.proofs.lemmas.List.{append-nil, take_more}
use Rattle.std.proofs.lemmas.List.Concat.{flat_map-cons}
use Rattle.std.specs.Iterator.{Yields, AlwaysYields}
use Rattle.std.specs.List.{flat_map}
use Rattle.asn1_rs.specs.Lists.{GivesItems}

-- in a turn of a `for` the next item is there, and all of them were where it ends
module _ {S R T : Type 0} {steps : S → Option R → S → Type 0} {sees : R → T → Type 0} {first : S} {xs : List T}
    (gives : GivesItems steps sees first xs)
    (begin now next : S) (start : begin ≡ first) (seen : List R) (led : Yields steps begin seen now) (answer : Option R)
    (step : steps now answer next) where
  list : YieldsList steps gives.item begin xs
  list = record { runs = subst (λ (z : S). AlwaysYields steps gives.item z xs) (sym start) gives.gives }

  pub item_given : (r : R) → answer ≡ Some r → (x : T) → sees r x →
      (length seen < length xs) × (x ≡ get_or xs (length seen) x)
  item_given r is x shown =
      let turn = YieldsList-turn list seen now led answer next r is step in
      (turn.0, subst (λ (z : T). z ≡ get_or xs (length seen) z) (sym (gives.only r x shown)) turn.1)

  pub all_given : answer ≡ None → length xs ≤ length seen
  all_given is = let end = YieldsList-end list seen now led answer next is step in omega (arith, end.1)

-- one more item is counted
pub count_next : {X : Type 0} (f : X → List ℕ) (xs : List X) (i : ℕ) (x : X) → i < length xs → x ≡ get_or xs i x →
    (n m k : ℕ) → n ≡ length (flat_map f (take i xs)) → m ≡ length (f x) → k ≡ n + m →
    k ≡ length (flat_map f (take (i + 1) xs))
count_next f xs i x h at n m k p q s =
    let next : flat_map f (take (i + 1) xs) ≡ flat_map f (take i xs) ++ f x =
    ap (λ ys. flat_map f ys) (take_more xs i x h) ∙ flat_map-append f (take i xs) (get_or xs i x ∷ [])
    ∙ ap (λ (z : List ℕ). flat_map f (take i xs) ++ z)
    (flat_map-cons f (get_or xs i x) [] ∙ append-nil (f (get_or xs i x)) ∙ ap f (sym at)) in
    omega (arith, p, q, s, ap length next, length-append (flat_map f (take i xs)) (f x))
