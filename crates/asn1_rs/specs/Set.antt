-- Sets: elements whose contents octets are items in any order, and are written in ascending order (X.690 11.6).
use Rattle.std.specs.Prelude.{◌≡◌, ◌⊎◌, ℕ, Bool, true, false, not, ◌&&◌, List, [], ◌∷◌, map}
use Rattle.std.specs.Borrow.{Lends, Fml, RattleType, MutBor, Array}
use Rattle.std.specs.Vec.{with_items}
use Rattle.std.specs.List.{All, list_all, concat}
use Rattle.std.specs.Ordering.{is_lt}
use Rattle.std.specs.declared.cmp.Ordering.{Ordering}
use Rattle.std.proofs.Common.{inl, inr}
use Rattle.x690.specs.Identifiers.{Identifier}
use Rattle.asn1_rs.specs.declared.asn1_types.set.set_of.SetOf.{SetOf}
use Rattle.asn1_rs.specs.contracts.asn1_types.set.set_of.SetOf.{the_row}
use Rattle.x690.specs.Elements.{Parts}
use Rattle.x690.specs.Ascending.{arranged}
use Rattle.x690.specs.Collections.{multiset, ValueSet, value_set, AllDiffer, AnyList, Joins}
use Rattle.asn1_rs.specs.Grammar.Form.{IsStrict, UniversalForm}
use Rattle.asn1_rs.specs.Grammar.{DerWord, NoCheck}
use Rattle.asn1_rs.specs.Grammar.Item.{ItemGrammar, ber_words}
use Rattle.asn1_rs.specs.Lists.{ListBody, ListOf, ListCheck}

-- What a row of keys stands for. It is a set, or that row itself where the keys stand in no way in which a set keeps
-- them. Each set in hand is of the first kind, as its `len` and `iter` tell. Std's model of a `BTreeSet` is any row of
-- keys, and the laws range over all of them. With sets alone as values they would be false of [1, 1] and [2, 1].
abbrev pub Members : Type 0 → Type 0
Members V = ValueSet V ⊎ List V

-- the set of values that a list in hand stands for
abbrev pub set_of : {V : Type 0} → List V → Members V
set_of vs = inl (value_set vs)

-- each item passes the test with each one after it
abbrev pub pairs_pass : {S : Type 0} → (S → S → Bool) → List S → Bool
pairs_pass test [] = true
pairs_pass test (x ∷ xs) = list_all (test x) xs && pairs_pass test xs

-- the set of these values where they all differ, else the list of them
abbrev pub members_if : {V : Type 0} → Bool → List V → Members V
members_if true vs = set_of vs
members_if false vs = inr vs

-- what the members in hand are: a set where no two are equal by the test
abbrev pub members : {S V : Type 0} → (S → S → Bool) → (S → V) → List S → Members V
members test value xs = members_if (pairs_pass test xs) (map value xs)

-- a key is below another
abbrev pub is_below : {S : Type 0} → (S → S → Ordering) → S → S → Bool
is_below cmp x y = is_lt (cmp x y)

-- keys in the order of a `HashSet`, which is any
abbrev pub is_other : {S : Type 0} → (S → S → Bool) → S → S → Bool
is_other eq x y = not (eq x y)

-- Keys in the order of a `BTreeSet`, of which no two are equal. Where the order agrees with equality, the second follows
-- from the first. It is said beside it, so that keys differ in value by a law of equality alone.
abbrev pub ascends : {S : Type 0} → (S → S → Ordering) → (S → S → Bool) → S → S → Bool
ascends cmp eq x y = is_below cmp x y && is_other eq x y

-- values of one grammar, seen as another's
abbrev pub Seen : {X V W : Type 0} → (V → W) → (X → V → Type 0) → X → W → Type 0
Seen {X} {V} f G o w = (v : V) × (f v ≡ w) × G o v

-- the bodies of sets: items in any order
abbrev pub SetBody : {V M : Type 0} → (List V → M) → (List ℕ → V → Type 0) → Parts → M → Type 0
SetBody of G = Seen of (ListBody 17 G)

-- the same, where the constructed bit is not looked at
abbrev pub SetRow : {V M : Type 0} → (List V → M) → (List ℕ → V → Type 0) → Parts → M → Type 0
SetRow of G = Seen of (ListOf 17 G)

-- the strict parts of a set
abbrev pub SetForm : {V M : Type 0} → (List V → M) → (List V → Type 0) → (V → Identifier → List ℕ → Type 0) → M →
    Identifier → List ℕ → Type 0
SetForm of Each Form = UniversalForm true 17 (Joins of Each (IsStrict Form))

-- collections of values that hold
abbrev pub SetValues : {V M : Type 0} → (List V → M) → (V → Type 0) → M → Type 0
SetValues {V} of P m = (vs : List V) × (of vs ≡ m) × All P vs

-- collections of values in DER form, each of which stands as often as the collection has it
abbrev pub SetInDer : {V M : Type 0} → (List V → M) → (List V → Type 0) → (V → Type 0) → M → Type 0
SetInDer {V} of Each IsDer m = (vs : List V) × Each vs × (of vs ≡ m) × All IsDer vs

-- Collections of items of a type. `of` says what collection a list of values is, and `worth` what one in hand is. Each
-- says how a list has to stand for it, and DerBody what a reader by DER finds in an element's parts.
abbrev pub set_grammar : {S W M : Type 0} (G : ItemGrammar S) → (List G.Value → M) → (W → M) → (List G.Value → Type 0) →
    (Parts → M → Type 0) → ItemGrammar W
set_grammar {S} {W} {M} G of worth Each DerBody = record {
  Value = M;
  value = worth;
  IsValue = SetValues of G.IsValue;
  IsDer = SetInDer of Each G.IsDer;
  Der = DerWord NoCheck DerBody;
  Body = SetBody of (ber_words G);
  Check = ListCheck 17 G.Check;
  Form = SetForm of Each G.Form;
  allocates = true;
}

-- sets in which an item may stand more than once; by DER the constructed bit is not looked at
abbrev pub multiset_grammar : {S W : Type 0} → (W → List S) → ItemGrammar S → ItemGrammar W
multiset_grammar items G =
    set_grammar G multiset (λ w. multiset (map G.value (items w))) AnyList (SetRow multiset G.Der)

-- the items of a set of the library's own
abbrev pub items_of : {T : Type 0} → SetOf T → List T
items_of s = s.items.items

-- it is made of these items
abbrev pub HasItems : {T : Type 0} → List T → SetOf T → Type 0
HasItems items s = items_of s ≡ items

-- once the borrow r ends, the items are those that r shows last
module _ (T : RattleType) (s : MutBor (SetOf T.Denot)) where
  -- the items of a set are lent, and what comes back takes their place
  abbrev pub lends_set_items : MutBor (List T.Denot) → Fml
  lends_set_items r = Lends (the_row T) (Array T 0) s r (λ ws. record { items = with_items s.now.items ws })

-- sets of keys that pass the test, each with each one after it
abbrev pub member_grammar : {S W : Type 0} → (S → S → Bool) → (W → List S) → ItemGrammar S → ItemGrammar W
member_grammar test keys G = set_grammar G set_of (λ w. members test G.value (keys w)) AllDiffer (SetBody set_of G.Der)

-- what is written for the items, in ascending order
abbrev pub set_content : {S : Type 0} → (S → List ℕ) → List S → List ℕ
set_content octets xs = concat (arranged (map octets xs))
