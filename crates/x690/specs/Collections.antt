-- Lists, multisets and sets of values, and the contents octets that are strict encodings of their values (X.690 11.6).
use Rattle.std.specs.Prelude.{◌≡◌, ◌↔◌, ℕ, List, [], ◌∷◌, Contains}
use Rattle.std.specs.List.{AllZip, concat}
use Rattle.std.specs.List.Sorted.{IsPermutation}
use Rattle.x690.specs.Identifiers.{Identifier}
use Rattle.x690.specs.Elements.{IsStrictElement}
use Rattle.x690.specs.Joined.{IsPrefixFree, IsConcatenation}
use Rattle.x690.specs.Ascending.{Ascending}
use mathlib.Core.Quot.{Quot, mk}

-- a multiset is a list up to the order of its items
abbrev pub Multiset : Type 0 → Type 0
Multiset V = Quot (IsPermutation {X = V})

-- the multiset of these values
abbrev pub multiset : {V : Type 0} → List V → Multiset V
multiset vs = mk vs

-- the same values stand in both
abbrev pub HaveSame : {V : Type 0} → List V → List V → Type 0
HaveSame {V} xs ys = (v : V) → Contains xs v ↔ Contains ys v

-- a set is a list up to order and repetition
abbrev pub ValueSet : Type 0 → Type 0
ValueSet V = Quot (HaveSame {V = V})

-- the set of these values
abbrev pub value_set : {V : Type 0} → List V → ValueSet V
value_set vs = mk vs

-- no value stands twice
abbrev pub AllDiffer : {V : Type 0} → List V → Type 0
AllDiffer [] = Unit {0}
AllDiffer (v ∷ vs) = (Contains vs v → ⊥) × AllDiffer vs

-- any list is a multiset's
abbrev pub AnyList : {V : Type 0} → List V → Type 0
AnyList vs = Unit {0}

-- encodings of values, as words
abbrev pub AsWords : {V : Type 0} → (V → List ℕ → Type 0) → List ℕ → V → Type 0
AsWords Strict octets v = Strict v octets

-- A value has one encoding at most, and an encoding one value; no encoding begins another one, and none is empty.
pub record AreEncodings {V : Type 0} (Strict : V → List ℕ → Type 0) : Type 0 where
  pub one_string : (v : V) (o p : List ℕ) → Strict v o → Strict v p → o ≡ p
  pub words : IsPrefixFree (AsWords Strict)

-- the octets are the strict element of an identifier and contents octets
abbrev pub IsStrictOf : Identifier × List ℕ → List ℕ → Type 0
IsStrictOf parts octets = IsStrictElement octets parts.0 parts.1

-- The octets are the strict element with this identifier whose contents octets say the value.
abbrev pub IsStrictWith : {M : Type 0} → Identifier → (M → List ℕ → Type 0) → M → List ℕ → Type 0
IsStrictWith id Content m octets = (content : List ℕ) × Content m content × IsStrictElement octets id content

-- The octets are encodings of a collection's items, joined in ascending order.
-- `of` says what collection a list of items is, and Each how a list has to stand for it.
pub record Joins {V M : Type 0} (of : List V → M) (Each : List V → Type 0) (Strict : V → List ℕ → Type 0) (m : M)
    (c : List ℕ) : Type 0 where
  pub items : List V
  pub strings : List (List ℕ)
  pub once : Each items
  pub are : of items ≡ m
  pub each : AllZip Strict items strings
  pub ascend : Ascending strings
  pub joined : concat strings ≡ c

-- the contents octets of a list: the encodings of its values, in their order
abbrev pub IsListContent : {V : Type 0} → (V → List ℕ → Type 0) → List V → List ℕ → Type 0
IsListContent Strict vs c = IsConcatenation (AsWords Strict) c vs

-- of a multiset: in ascending order
abbrev pub IsMultisetContent : {V : Type 0} → (V → List ℕ → Type 0) → Multiset V → List ℕ → Type 0
IsMultisetContent Strict = Joins multiset AnyList Strict

-- of a set: in ascending order, and each value once
abbrev pub IsSetContent : {V : Type 0} → (V → List ℕ → Type 0) → ValueSet V → List ℕ → Type 0
IsSetContent Strict = Joins value_set AllDiffer Strict
