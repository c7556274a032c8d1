-- Laws of lists, multisets and sets, and of their contents octets.
pub mod Zips
pub mod Differ
use Rattle.std.specs.Prelude.{◌≡◌, ◌↔◌, ℕ, List, [], ◌∷◌}
use Rattle.std.specs.List.{AllZip, concat}
use Rattle.std.specs.List.Sorted.{IsPermutation}
use Rattle.std.proofs.Common.{refl, sym, ◌∙◌, ap, subst}
use Rattle.std.proofs.lemmas.List.Sorted.{IsPermutation-refl, IsPermutation-trans, IsPermutation-sym}
use Rattle.std.proofs.lemmas.List.Sorted.{Contains-permutation}
use Rattle.x690.specs.Joined.{IsPrefixFree, IsConcatenation}
use Rattle.x690.specs.Ascending.{Ascending, arranged}
use Rattle.x690.specs.Collections.{Multiset, multiset, HaveSame, ValueSet, value_set, AllDiffer, AnyList, AsWords}
use Rattle.x690.specs.Collections.{AreEncodings, Joins, IsListContent, IsMultisetContent, IsSetContent}
use Rattle.x690.specs.Laws.Joined.{joined_one, joined_same}
use Rattle.x690.specs.Laws.Ascending.{Ascending-unique}
use Rattle.x690.specs.Laws.Ascending.Arranged.{arranged_ascends, arranged_moves}
use Rattle.x690.specs.Laws.Collections.Zips.{zip_turn, zip_permutation, zip_right}
use Rattle.x690.specs.Laws.Collections.Differ.{permutation_from_same, AllDiffer-permutation}
use mathlib.Core.HProp.{HProp}
use mathlib.Core.Logic.{∥∥₁_prop, ∥∥₁_elim, ∥∥₁_map}
use mathlib.Core.Quot.{lift_prop, sound}
use mathlib.Core.List.{is_set}
use native.Mathlib.Nat.{ℕ_set}

-- lists of one multiset have the same items, in some order
pub permutation_from_multiset : {V : Type 0} (xs ys : List V) → multiset xs ≡ multiset ys → ∥ IsPermutation xs ys ∥₁
permutation_from_multiset {V} xs ys e =
    let reaches : Multiset V → HProp {0} = lift_prop (λ zs. (
      ∥ IsPermutation xs zs ∥₁,
      ∥∥₁_prop,
    )) (λ zs ws p. (
      λ h. ∥∥₁_map h (λ q. IsPermutation-trans xs zs ws q p),
      λ h. ∥∥₁_map h (λ q. IsPermutation-trans xs ws zs q (IsPermutation-sym zs ws p)),
    )) in
    subst (λ m. (reaches m).0) e ∣ IsPermutation-refl xs ∣₁

-- Lists with the same values in some order are one multiset.
pub same_multiset : {V : Type 0} (xs ys : List V) → IsPermutation xs ys → multiset xs ≡ multiset ys
same_multiset xs ys p = sound p

HaveSame-trans : {V : Type 0} (xs ys zs : List V) → HaveSame xs ys → HaveSame ys zs → HaveSame xs zs
HaveSame-trans xs ys zs h k v = (λ c. (k v).0 ((h v).0 c), λ c. (h v).1 ((k v).1 c))

HaveSame-sym : {V : Type 0} (xs ys : List V) → HaveSame xs ys → HaveSame ys xs
HaveSame-sym xs ys h v = ((h v).1, (h v).0)

-- Lists that are one set have the same values.
pub have_same_from_value_set : {V : Type 0} (xs ys : List V) → value_set xs ≡ value_set ys → ∥ HaveSame xs ys ∥₁
have_same_from_value_set {V} xs ys e =
    let reaches : ValueSet V → HProp {0} = lift_prop (λ zs. (
      ∥ HaveSame xs zs ∥₁,
      ∥∥₁_prop,
    )) (λ zs ws p. (
      λ h. ∥∥₁_map h (λ q. HaveSame-trans xs zs ws q p),
      λ h. ∥∥₁_map h (λ q. HaveSame-trans xs ws zs q (HaveSame-sym zs ws p)),
    )) in
    subst (λ m. (reaches m).0) e ∣ (λ v. (λ c. c, λ c. c)) ∣₁

-- Lists that have the same values are one set.
pub same_value_set : {V : Type 0} (xs ys : List V) → HaveSame xs ys → value_set xs ≡ value_set ys
same_value_set xs ys h = sound h

-- Lists with the same values in some order have the same values.
pub HaveSame-permutation : {V : Type 0} (xs ys : List V) → IsPermutation xs ys → HaveSame xs ys
HaveSame-permutation xs ys p v =
    (Contains-permutation xs ys v p, Contains-permutation ys xs v (IsPermutation-sym xs ys p))

-- lists of one set in which no value stands twice have the same items, in some order
pub permutation_from_value_set : {V : Type 0} (xs ys : List V) → AllDiffer xs → AllDiffer ys →
    value_set xs ≡ value_set ys → ∥ IsPermutation xs ys ∥₁
permutation_from_value_set xs ys h k e =
    ∥∥₁_map (have_same_from_value_set xs ys e) (λ s. permutation_from_same xs ys h k s)

-- Lists of strings are the same in at most one way.
pub strings_set : IsSet (List (List ℕ))
strings_set = is_set (is_set ℕ_set)

-- The strings of values, joined, are joined words of these.
pub zip_joined : {V : Type 0} (Strict : V → List ℕ → Type 0) (vs : List V) (os : List (List ℕ)) → AllZip Strict vs os →
    IsConcatenation (AsWords Strict) (concat os) vs
zip_joined Strict [] [] z = refl
zip_joined Strict [] (o ∷ os) z = absurd z
zip_joined Strict (v ∷ vs) [] z = absurd z
zip_joined Strict (v ∷ vs) (o ∷ os) z = (o, concat os, z.0, refl, zip_joined Strict vs os z.1)

-- a list of values decides its ascending strings, where each value has one
module _ {V : Type 0} (R : V → List ℕ → Type 0) (one : (v : V) (o p : List ℕ) → R v o → R v p → o ≡ p) where
  -- Ascending strings of the same values, in whatever order, are the same strings.
  pub same_strings_of : (vs ws : List V) (os ps : List (List ℕ)) → AllZip R vs os → AllZip R ws ps → Ascending os →
      Ascending ps → ∥ IsPermutation vs ws ∥₁ → os ≡ ps
  same_strings_of vs ws os ps h k up vp m = ∥∥₁_elim m (strings_set _ _) (λ p.
      let t = zip_permutation R vs ws os p h in
      let e : t.0 ≡ ps = zip_right R one ws t.0 ps t.1 k in
      Ascending-unique os ps (subst (IsPermutation os) e t.2) up vp)

-- the contents octets of collections of one kind
module _ {V M : Type 0} (of : List V → M) (Each : List V → Type 0) (Strict : V → List ℕ → Type 0) where
  -- The contents octets of a collection are joined words of its items.
  pub joins_joined : (m : M) (c : List ℕ) (j : Joins of Each Strict m c) → IsConcatenation (AsWords Strict) c j.items
  joins_joined m c j =
      subst (λ d. IsConcatenation (AsWords Strict) d j.items) j.joined (zip_joined Strict j.items j.strings j.each)

  -- a collection has one content, where lists that stand for one collection have the same items
  pub joins_one_content : ((vs ws : List V) → Each vs → Each ws → of vs ≡ of ws → ∥ IsPermutation vs ws ∥₁) →
      ((v : V) (o p : List ℕ) → Strict v o → Strict v p → o ≡ p) → (m : M) (c d : List ℕ) → Joins of Each Strict m c →
      Joins of Each Strict m d → c ≡ d
  joins_one_content mixed one m c d f g =
      sym f.joined ∙ ap concat (same_strings_of Strict one f.items g.items f.strings g.strings f.each g.each f.ascend
      g.ascend (mixed f.items g.items f.once g.once (f.are ∙ sym g.are))) ∙ g.joined

  -- and a content one collection
  pub joins_one_collection : IsPrefixFree (AsWords Strict) → (m n : M) (c : List ℕ) → Joins of Each Strict m c →
      Joins of Each Strict n c → m ≡ n
  joins_one_collection words m n c f g =
      sym f.are ∙ ap of
      (joined_same (AsWords Strict) words c c f.items g.items refl (joins_joined m c f) (joins_joined n c g))
      ∙ g.are

  -- encodings in ascending order are the content, where a collection stays the same in another order
  pub joins_arranged : ((vs ws : List V) → IsPermutation vs ws → Each vs → Each ws) →
      ((vs ws : List V) → IsPermutation vs ws → of vs ≡ of ws) → (vs : List V) (os : List (List ℕ)) → Each vs →
      AllZip Strict vs os → Joins of Each Strict (of vs) (concat (arranged os))
  joins_arranged stays same vs os e z =
      let t = zip_permutation (λ o v. Strict v o) os (arranged os) vs (arranged_moves os) (zip_turn Strict vs os z) in
      record {
        items = t.0;
        strings = arranged os;
        once = stays vs t.0 t.2 e;
        are = sym (same vs t.0 t.2);
        each = zip_turn (λ o v. Strict v o) (arranged os) t.0 t.1;
        ascend = arranged_ascends os;
        joined = refl;
      }

module _ {V : Type 0} (Strict : V → List ℕ → Type 0) (are : AreEncodings Strict) where
  -- A list has one content.
  pub list_one_content : (vs : List V) (c d : List ℕ) → IsListContent Strict vs c → IsListContent Strict vs d → c ≡ d
  list_one_content = joined_one (AsWords Strict) are.one_string

  -- So has a multiset.
  pub multiset_one_content : (m : Multiset V) (c d : List ℕ) → IsMultisetContent Strict m c →
      IsMultisetContent Strict m d → c ≡ d
  multiset_one_content =
      joins_one_content multiset AnyList Strict (λ vs ws h k e. permutation_from_multiset vs ws e) are.one_string

  -- So has a set.
  pub set_one_content : (s : ValueSet V) (c d : List ℕ) → IsSetContent Strict s c → IsSetContent Strict s d → c ≡ d
  set_one_content = joins_one_content value_set AllDiffer Strict permutation_from_value_set are.one_string

  -- A content is that of one list.
  pub content_one_list : (vs ws : List V) (c : List ℕ) → IsListContent Strict vs c → IsListContent Strict ws c → vs ≡ ws
  content_one_list vs ws c i j = joined_same (AsWords Strict) are.words c c vs ws refl i j

  -- It is that of one multiset.
  pub content_one_multiset : (m n : Multiset V) (c : List ℕ) → IsMultisetContent Strict m c →
      IsMultisetContent Strict n c → m ≡ n
  content_one_multiset = joins_one_collection multiset AnyList Strict are.words

  -- It is that of one set.
  pub content_one_set : (s t : ValueSet V) (c : List ℕ) → IsSetContent Strict s c → IsSetContent Strict t c → s ≡ t
  content_one_set = joins_one_collection value_set AllDiffer Strict are.words

module _ {V : Type 0} (Strict : V → List ℕ → Type 0) where
  -- The strings of values in ascending order are the content of their multiset.
  pub multiset_content_made : (vs : List V) (os : List (List ℕ)) → AllZip Strict vs os →
      IsMultisetContent Strict (multiset vs) (concat (arranged os))
  multiset_content_made vs os z = joins_arranged multiset AnyList Strict (λ vs ws p h. tt) same_multiset vs os tt z

  -- Those of values that differ are the content of their set.
  pub set_content_made : (vs : List V) (os : List (List ℕ)) → AllDiffer vs → AllZip Strict vs os →
      IsSetContent Strict (value_set vs) (concat (arranged os))
  set_content_made vs os d z = joins_arranged value_set AllDiffer Strict AllDiffer-permutation
      (λ vs ws p. same_value_set vs ws (HaveSame-permutation vs ws p)) vs os d z
