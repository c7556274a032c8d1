-- Values in hand: what they are made of, and that one in DER form has no refusal of its own.
use Rattle.std.proofs.Common.{◌≡◌, ℕ, Bool, true, refl, List, [], ◌∷◌, map, sym}
use Rattle.std.specs.Prelude.{slice_index_or}
use Rattle.std.proofs.lemmas.List.Elements.{All-nil, All-cons, All-head, All-tail, All-map}
use Rattle.std.proofs.lemmas.List.Sorted.{All-permutation}
use Rattle.std.specs.List.{All}
use Rattle.std.specs.List.Sorted.{IsPermutation}
use mathlib.Core.Logic.{∥∥₁_elim}
use Rattle.x690.specs.Collections.{AllDiffer, AnyList, multiset}
use Rattle.asn1_rs.specs.Any.Value.{ElementForm, ElementValue, IsElementValue}
use Rattle.asn1_rs.specs.Lists.{SomeRefuses}
use Rattle.x690.specs.Laws.Collections.{permutation_from_multiset}
use Rattle.asn1_rs.specs.Laws.Lists.{none_refuses}
use Rattle.asn1_rs.specs.Laws.Set.{members_are, members_pass, none_into, pairs_differ}
use Rattle.asn1_rs.specs.Set.{SetInDer, SetValues, members, pairs_pass, set_of}
use Rattle.asn1_rs.specs.ToDer.{IntoVector, IsWritable, Writing, whole_refuses}
use Rattle.asn1_rs.specs.Kinds.Writing.{list_writing, set_writing}
use Rattle.asn1_rs.specs.Laws.Forms.{behind_header, whole_writable}

-- What is written has no refusal of its own.

-- each element is in DER form
pub element_each_der : (v : ElementValue) → IsElementValue v → ElementForm v v.id v.content
element_each_der v h = record { is = refl; class = h.class; number = h.number; octets = h.content }

-- lists and sets of items in DER form
module _ {S V : Type 0} (value : S → V) (IsDer : V → Type 0) (w : Writing S)
    (law : (x : S) → IsDer (value x) → IsWritable w x) where
  -- Each item in DER form is written without a refusal of its own.
  all_writable : (xs : List S) → All IsDer (map value xs) → All (IsWritable w) xs
  all_writable [] a = All-nil (IsWritable w)
  all_writable (x ∷ xs) a = All-cons (IsWritable w) x xs (law x (All-head IsDer (value x) (map value xs) a))
      (all_writable xs (All-tail IsDer (value x) (map value xs) a))

  -- So is a list of such items.
  pub list_writable : {W : Type 0} (number : ℕ) (items : W → List S) (l : W) → All IsDer (map value (items l)) →
      IsWritable (list_writing number items w) l
  list_writable number items l a =
      let xs = items l in
      let k = all_writable xs a in
      let n = none_refuses w.count_refuses xs (λ i d h. (k i d h).0) in (
        n,
        behind_header (SomeRefuses w.count_refuses xs) n,
        none_refuses (whole_refuses w) xs (λ i d h. whole_writable w (slice_index_or xs i d) (k i d h)),
      )

  module _ {W : Type 0} (items : W → List S) where
    -- So is a set of such items.
    set_writable : (s : W) → All IsDer (map value (items s)) → IsWritable (set_writing items w) s
    set_writable s a =
        let xs = items s in
        let k = all_writable xs a in
        let n = none_refuses w.count_refuses xs (λ i d h. (k i d h).0) in (
          n,
          behind_header (SomeRefuses w.count_refuses xs) n,
          none_refuses (λ x. IntoVector (whole_refuses w x)) xs
              (λ i d h. none_into _ (whole_writable w (slice_index_or xs i d) (k i d h))),
        )

    -- So is a set whose items have these values in some order.
    moved_writable : (s : W) (vs : List V) → ∥ IsPermutation vs (map value (items s)) ∥₁ → All IsDer vs →
        IsWritable (set_writing items w) s
    moved_writable s vs moved a = (
      λ e o. ∥∥₁_elim moved (λ x y. absurd x) (λ p. (free p).0 e o),
      λ e o. ∥∥₁_elim moved (λ x y. absurd x) (λ p. (free p).1 e o),
      λ e o. ∥∥₁_elim moved (λ x y. absurd x) (λ p. (free p).2 e o),
    )
      where
        free : IsPermutation vs (map value (items s)) → IsWritable (set_writing items w) s
        free p = set_writable s (All-permutation IsDer vs (map value (items s)) p a)

    -- So is a set in DER form in which a member may stand more than once.
    pub multiset_writable : (s : W) → SetInDer multiset AnyList IsDer (multiset (map value (items s))) →
        IsWritable (set_writing items w) s
    multiset_writable s d = moved_writable s d.0 (permutation_from_multiset d.0 (map value (items s)) d.2) d.3

    -- So is a set in DER form whose members differ.
    pub members_writable : (test : S → S → Bool) → ((x y : S) → test x y ≡ true → value x ≡ value y → ⊥) → (s : W) →
        SetInDer set_of AllDiffer IsDer (members test value (items s)) → IsWritable (set_writing items w) s
    members_writable test apart s d = moved_writable s d.0 (members_are test value apart (items s) d.0 d.1 d.2) d.3

-- What is told of the members of a set in hand.

module _ {S V : Type 0} (test : S → S → Bool) (value : S → V) where
  -- Members that pass the test in pairs are a set, with the values of the type.
  pub members_values : (IsValue : V → Type 0) (xs : List S) → pairs_pass test xs ≡ true →
      All (λ x. IsValue (value x)) xs → SetValues set_of IsValue (members test value xs)
  members_values IsValue xs pass a = (map value xs, sym (members_pass test value xs pass), All-map IsValue value xs a)

  -- Such members in DER form are a set in DER form.
  pub members_in_der : ((x y : S) → test x y ≡ true → value x ≡ value y → ⊥) → (IsDer : V → Type 0) (xs : List S) →
      pairs_pass test xs ≡ true → All IsDer (map value xs) → SetInDer set_of AllDiffer IsDer (members test value xs)
  members_in_der apart IsDer xs pass a =
      (map value xs, pairs_differ test value apart xs pass, sym (members_pass test value xs pass), a)
