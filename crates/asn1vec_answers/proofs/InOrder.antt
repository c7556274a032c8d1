-- Keys in ascending order: they ascend, they are the keys, and they stand in one order, however they stood.
use Rattle.std.proofs.Common.{◌≡◌, ◌∙◌, sym, ap, refl, Bool, true, false, List, [], ◌∷◌}
use Rattle.std.specs.Prelude.{◌||◌}
use Rattle.std.specs.BTreeSet.{BTreeSet, IsFromIterResult, insert_key}
use Rattle.std.specs.Cmp.{IsTotalOrder, alike_right}
use Rattle.std.specs.List.{AllByRecursion}
use Rattle.std.specs.List.Sorted.{IsStrictlySortedBy}
use Rattle.std.specs.Ordering.{eq_by_cmp, is_eq, match_ordering, ordering_reverse}
use Rattle.std.specs.Set.{is_member}
use Rattle.std.specs.declared.cmp.Ordering.{Ordering}
use Rattle.std.specs.declared.cmp.Ordering.TheVariants.{Less, Equal, Greater}
use Rattle.std.proofs.lemmas.Map.Lookups.{CmpEqualImpliesEq, btree_set_from_contains}
use Rattle.asn1vec_answers.specs.Shown.{sorted_keys}

or_again : (a b : Bool) → (a || b) ≡ (a || (a || b))
or_again true b = refl
or_again false b = refl

or_other : (a b c : Bool) → (a || (b || c)) ≡ (b || (a || c))
or_other true true c = refl
or_other true false c = refl
or_other false true c = refl
or_other false false c = refl

module _ {K : Type 0} (cmp : K → K → Ordering) (total : IsTotalOrder cmp) where
  -- what is below a key is below one in its place, and below all of those that it is below
  insert_below : (x k : K) (ks : List K) → cmp x k ≡ Less → AllByRecursion (λ y. cmp x y ≡ Less) ks →
      AllByRecursion (λ y. cmp x y ≡ Less) (insert_key cmp ks k)
  insert_below x k [] below all = (below, tt)
  insert_below x k (y ∷ ys) below all = by (insert_below x k ys below all.1) (cmp k y)
    where
      by : AllByRecursion (λ y. cmp x y ≡ Less) (insert_key cmp ys k) → (r : Ordering) →
          AllByRecursion (λ y. cmp x y ≡ Less) (match_ordering r (k ∷ y ∷ ys) (y ∷ ys) (y ∷ insert_key cmp ys k))
      by later Less = (below, all)
      by later Equal = all
      by later Greater = (all.0, later)

  below_all : (x y : K) (ks : List K) → cmp x y ≡ Less → AllByRecursion (λ z. cmp y z ≡ Less) ks →
      AllByRecursion (λ z. cmp x z ≡ Less) ks
  below_all x y [] below all = tt
  below_all x y (k ∷ ks) below all = (total.trans x y k below all.0, below_all x y ks below all.1)

  insert_sorted : (ks : List K) (k : K) → IsStrictlySortedBy cmp ks → IsStrictlySortedBy cmp (insert_key cmp ks k)
  unfolding IsStrictlySortedBy
  insert_sorted [] k sorted = (tt, tt)
  insert_sorted (y ∷ ys) k sorted = by (insert_sorted ys k sorted.1) (cmp k y) refl
    where
      by : IsStrictlySortedBy cmp (insert_key cmp ys k) → (r : Ordering) → cmp k y ≡ r →
          IsStrictlySortedBy cmp (match_ordering r (k ∷ y ∷ ys) (y ∷ ys) (y ∷ insert_key cmp ys k))
      by later Less e = ((e, below_all k y ys e sorted.0), sorted)
      by later Equal e = sorted
      by later Greater e = (insert_below y k ys (total.antisymm y k ∙ ap ordering_reverse e) sorted.0, later)

  insert_member : (ks : List K) (k q : K) →
      is_member (eq_by_cmp cmp) (insert_key cmp ks k) q ≡ is_member (eq_by_cmp cmp) (k ∷ ks) q
  insert_member [] k q = refl
  insert_member (y ∷ ys) k q = by (insert_member ys k q) (cmp k y) refl
    where
      by : is_member (eq_by_cmp cmp) (insert_key cmp ys k) q ≡ is_member (eq_by_cmp cmp) (k ∷ ys) q → (r : Ordering) →
          cmp k y ≡ r → is_member (eq_by_cmp cmp) (match_ordering r (k ∷ y ∷ ys) (y ∷ ys) (y ∷ insert_key cmp ys k)) q ≡
          is_member (eq_by_cmp cmp) (k ∷ y ∷ ys) q
      by later Less e = refl
      by later Equal e =
          let same : eq_by_cmp cmp q k ≡ eq_by_cmp cmp q y = ap is_eq (alike_right total k y q e) in
          or_again (eq_by_cmp cmp q y) (is_member (eq_by_cmp cmp) ys q)
          ∙ ap (λ b. b || (eq_by_cmp cmp q y || is_member (eq_by_cmp cmp) ys q)) (sym same)
      by later Greater e = ap (λ b. eq_by_cmp cmp q y || b) later
          ∙ or_other (eq_by_cmp cmp q y) (eq_by_cmp cmp q k) (is_member (eq_by_cmp cmp) ys q)

  pub in_order_sorted : (ks : List K) → IsStrictlySortedBy cmp (sorted_keys cmp ks)
  unfolding IsStrictlySortedBy
  in_order_sorted [] = tt
  in_order_sorted (k ∷ ks) = insert_sorted (sorted_keys cmp ks) k (in_order_sorted ks)

  pub in_order_member : (ks : List K) (q : K) →
      is_member (eq_by_cmp cmp) (sorted_keys cmp ks) q ≡ is_member (eq_by_cmp cmp) ks q
  in_order_member [] q = refl
  in_order_member (k ∷ ks) q =
      insert_member (sorted_keys cmp ks) k q ∙ ap (λ b. eq_by_cmp cmp q k || b) (in_order_member ks q)

  abbrev set_in_order : List K → BTreeSet K
  set_in_order ks = record { keys = sorted_keys cmp ks }

  -- the set that has the keys is one, where keys are alike for the order only if they are the same
  module _ (apart : CmpEqualImpliesEq cmp) where
    pub collected_in_order : (ks : List K) (s : BTreeSet K) → IsFromIterResult cmp ks s → s.keys ≡ sorted_keys cmp ks
    collected_in_order ks s h = btree_set_from_contains total s (set_in_order ks) h.1 (in_order_sorted ks)
        (λ q. h.0 q ∙ sym (in_order_member ks q)) apart

    pub in_order_same : (ks ls : List K) → ((q : K) → is_member (eq_by_cmp cmp) ks q ≡ is_member (eq_by_cmp cmp) ls q) →
        sorted_keys cmp ks ≡ sorted_keys cmp ls
    in_order_same ks ls same = btree_set_from_contains total (set_in_order ks) (set_in_order ls) (in_order_sorted ks)
        (in_order_sorted ls) (λ q. in_order_member ks q ∙ same q ∙ sym (in_order_member ls q)) apart
