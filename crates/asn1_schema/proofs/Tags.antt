-- Tags that are apart.
use Rattle.std.proofs.Common.{◌≡◌, ◌∙◌, ap, sym, subst, refl, ℕ, zero, suc, ◌+◌, ◌<◌, arith, inl, inr, Bool, true, false, List, [], ◌∷◌}
use Rattle.std.specs.Prelude.{◌||◌, ◌&&◌, ◌⊎◌, nat_eq, nat_lt, not, Option, Some, slice_get}
use Rattle.std.specs.List.{list_any}
use Rattle.std.proofs.lemmas.Bool.{eqb-true, eq-eqb}
use Rattle.x690.specs.Identifiers.{Identifier}
use Rattle.asn1_schema.specs.declared.schema.TypeTag.{TypeTag}
use Rattle.asn1_schema.specs.declared.schema.Tags.{Tags}
use Rattle.asn1_schema.specs.declared.schema.Tags.TheVariants as tags
use Rattle.asn1_schema.specs.declared.schema.Node.{Node}
use Rattle.asn1_schema.specs.Grammar.{is_tag_of, has_tag}
use Rattle.asn1_schema.specs.Sound.{node_at, is_among, are_among, none_among, tags_disjoint, are_within, apart_from, holds, apart_from_arms, arm_unambiguous, arms_unambiguous, arms_included, is_single, is_one}
use Rattle.asn1_schema.specs.Sound.{kind_unambiguous, all_unambiguous, is_sound, are_classes, in_order, leads_back, all_before, HasTagAt}

pub first_holds : (a b : Bool) → (a && b) ≡ true → a ≡ true
first_holds true b e = refl
first_holds false b e = absurd (cc)

pub second_holds : (a b : Bool) → (a && b) ≡ true → b ≡ true
second_holds true b e = e
second_holds false b e = absurd (cc)

pub both_hold : (a b : Bool) → a ≡ true → b ≡ true → (a && b) ≡ true
both_hold true b e f = f
both_hold false b e f = absurd (cc)

pub one_holds : (a b : Bool) → (a || b) ≡ true → (a ≡ true) ⊎ (b ≡ true)
one_holds true b e = inl refl
one_holds false b e = inr e

pub first_of_two : (a b : Bool) → a ≡ true → (a || b) ≡ true
first_of_two true b e = refl
first_of_two false b e = absurd (cc)

pub second_of_two : (a b : Bool) → b ≡ true → (a || b) ≡ true
second_of_two true b e = refl
second_of_two false b e = e

-- what is said unless a field is required holds where it is optional
pub of_optional : (optional rest : Bool) → optional ≡ true → (not optional || rest) ≡ true → rest ≡ true
of_optional true rest o e = e
of_optional false rest o e = absurd (cc)

pub not_both : (b : Bool) → b ≡ true → not b ≡ true → ⊥
not_both true e f = absurd (cc)
not_both false e f = absurd (cc)

pub not_true : (b : Bool) → (b ≡ true → ⊥) → not b ≡ true
not_true true h = absurd (h refl)
not_true false h = refl

-- two tags of one identifier are one
same_tag : (id : Identifier) (a b : TypeTag) → is_tag_of id a ≡ true → is_tag_of id b ≡ true →
    (nat_eq b.class a.class && nat_eq b.number a.number) ≡ true
same_tag id a b s t =
    let c = eqb-true a.class id.class (first_holds (nat_eq a.class id.class) (nat_eq a.number id.number) s) in
    let n = eqb-true a.number id.number (second_holds (nat_eq a.class id.class) (nat_eq a.number id.number) s) in
    let d = eqb-true b.class id.class (first_holds (nat_eq b.class id.class) (nat_eq b.number id.number) t) in
    let m = eqb-true b.number id.number (second_holds (nat_eq b.class id.class) (nat_eq b.number id.number) t) in
    both_hold (nat_eq b.class a.class) (nat_eq b.number a.number) (eq-eqb b.class a.class (d ∙ sym c))
    (eq-eqb b.number a.number (m ∙ sym n))

-- a tag that is the same is an identifier's too
moved_tag : (id : Identifier) (a b : TypeTag) → is_tag_of id a ≡ true →
    (nat_eq b.class a.class && nat_eq b.number a.number) ≡ true → is_tag_of id b ≡ true
moved_tag id a b s e =
    let c = eqb-true a.class id.class (first_holds (nat_eq a.class id.class) (nat_eq a.number id.number) s) in
    let n = eqb-true a.number id.number (second_holds (nat_eq a.class id.class) (nat_eq a.number id.number) s) in
    let d = eqb-true b.class a.class (first_holds (nat_eq b.class a.class) (nat_eq b.number a.number) e) in
    let m = eqb-true b.number a.number (second_holds (nat_eq b.class a.class) (nat_eq b.number a.number) e) in
    both_hold (nat_eq b.class id.class) (nat_eq b.number id.number) (eq-eqb b.class id.class (d ∙ c))
    (eq-eqb b.number id.number (m ∙ n))

-- the identifier has one of the tags of the list
abbrev in_list : List TypeTag → Identifier → Bool
in_list ts id = list_any (is_tag_of id) ts

among_has : (id : Identifier) (tag : TypeTag) (others : List TypeTag) → is_tag_of id tag ≡ true →
    in_list others id ≡ true → is_among tag others ≡ true
among_has id tag [] t h = absurd (cc)
among_has id tag (o ∷ os) t h = elim (one_holds (is_tag_of id o) (in_list os id) h) [
  | inl e ↦ first_of_two (nat_eq o.class tag.class && nat_eq o.number tag.number) (is_among tag os) (same_tag id tag o t e)
  | inr e ↦ second_of_two (nat_eq o.class tag.class && nat_eq o.number tag.number) (is_among tag os)
      (among_has id tag os t e)
]

has_among : (id : Identifier) (tag : TypeTag) (others : List TypeTag) → is_tag_of id tag ≡ true →
    is_among tag others ≡ true → in_list others id ≡ true
has_among id tag [] t h = absurd (cc)
has_among id tag (o ∷ os) t h =
    elim (one_holds (nat_eq o.class tag.class && nat_eq o.number tag.number) (is_among tag os) h) [
      | inl e ↦ first_of_two (is_tag_of id o) (in_list os id) (moved_tag id tag o t e)
      | inr e ↦ second_of_two (is_tag_of id o) (in_list os id) (has_among id tag os t e)
    ]

-- tags that are each among others
all_among : (id : Identifier) (xs ys : List TypeTag) → are_among xs ys ≡ true → in_list xs id ≡ true →
    in_list ys id ≡ true
all_among id [] ys a h = absurd (cc)
all_among id (x ∷ xs) ys a h = elim (one_holds (is_tag_of id x) (in_list xs id) h) [
  | inl e ↦ has_among id x ys e (first_holds (is_among x ys) (are_among xs ys) a)
  | inr e ↦ all_among id xs ys (second_holds (is_among x ys) (are_among xs ys) a) e
]

-- tags of which none is among others
no_among : (id : Identifier) (xs ys : List TypeTag) → none_among xs ys ≡ true → in_list xs id ≡ true →
    in_list ys id ≡ true → ⊥
no_among id [] ys a h g = absurd (cc)
no_among id (x ∷ xs) ys a h g = elim (one_holds (is_tag_of id x) (in_list xs id) h) [
  | inl e ↦ not_both (is_among x ys) (among_has id x ys e g) (first_holds (not (is_among x ys)) (none_among xs ys) a)
  | inr e ↦ no_among id xs ys (second_holds (not (is_among x ys)) (none_among xs ys) a) e g
]

-- an identifier has a tag of one alone of two that are apart
pub apart_has : (id : Identifier) (xs ys : Tags) → tags_disjoint xs ys ≡ true → has_tag xs id ≡ true →
    has_tag ys id ≡ true → ⊥
apart_has id (tags.Among xs) (tags.Among ys) a h g = no_among id xs.items ys.items a h g
apart_has id (tags.Among xs) (tags.AllBut ys) a h g =
    not_both (in_list ys.items id) (all_among id xs.items ys.items a h) g
apart_has id (tags.AllBut xs) (tags.Among ys) a h g =
    not_both (in_list xs.items id) (all_among id ys.items xs.items a g) h
apart_has id (tags.AllBut xs) (tags.AllBut ys) a h g = absurd (cc)

-- an identifier has a tag of what holds the tags that it has
pub within_has : (id : Identifier) (xs ys : Tags) → are_within xs ys ≡ true → has_tag xs id ≡ true →
    has_tag ys id ≡ true
within_has id (tags.Among xs) (tags.Among ys) a h = all_among id xs.items ys.items a h
within_has id (tags.Among xs) (tags.AllBut ys) a h =
    not_true (in_list ys.items id) (λ g. no_among id xs.items ys.items a h g)
within_has id (tags.AllBut xs) (tags.Among ys) a h = absurd (cc)
within_has id (tags.AllBut xs) (tags.AllBut ys) a h =
    not_true (in_list ys.items id) (λ g. not_both (in_list xs.items id) (all_among id ys.items xs.items a g) h)

-- so the tags that are apart from its tags do not
pub apart_at : (table : List Node) (ts : Tags) (t : ℕ) (id : Identifier) → apart_from ts (node_at table t) ≡ true →
    HasTagAt table t id → has_tag ts id ≡ true → ⊥
apart_at table ts t id a h g =
    apart_has id ts h.node.tags (subst (λ (z : Option Node). apart_from ts z ≡ true) h.found a) g h.tagged

pub held_at : (table : List Node) (ts : Tags) (t : ℕ) (id : Identifier) → holds ts (node_at table t) ≡ true →
    HasTagAt table t id → has_tag ts id ≡ true
held_at table ts t id a h =
    within_has id h.node.tags ts (subst (λ (z : Option Node). holds ts z ≡ true) h.found a) h.tagged

-- none of the arms has the tag
none_of_arms : (table : List Node) (ts : Tags) (arms : List ℕ) (j u : ℕ) (id : Identifier) →
    apart_from_arms table ts arms ≡ true → slice_get arms j ≡ Some u → has_tag ts id ≡ true → HasTagAt table u id → ⊥
none_of_arms table ts [] j u id apart e h g = absurd (cc)
none_of_arms table ts (t ∷ rest) zero u id apart e h g =
    let same : t ≡ u = cc in
    apart_at table ts t id (first_holds (apart_from ts (node_at table t)) (apart_from_arms table ts rest) apart)
    (subst (λ (z : ℕ). HasTagAt table z id) (sym same) g) h
none_of_arms table ts (t ∷ rest) (suc j) u id apart e h g =
    none_of_arms table ts rest j u id
    (second_holds (apart_from ts (node_at table t)) (apart_from_arms table ts rest) apart) e h g

-- the others have none of the tags of an arm
others_apart : (table : List Node) (a : ℕ) (rest : List ℕ) (j u : ℕ) (id : Identifier) →
    arm_unambiguous table (node_at table a) rest ≡ true → slice_get rest j ≡ Some u → HasTagAt table a id →
    HasTagAt table u id → ⊥
others_apart table a rest j u id told e h g =
    none_of_arms table h.node.tags rest j u id
    (subst (λ (z : Option Node). arm_unambiguous table z rest ≡ true) h.found told) e h.tagged g

-- one arm alone has the tag
pub one_arm : (table : List Node) (arms : List ℕ) (k j t u : ℕ) (id : Identifier) → arms_unambiguous table arms ≡ true →
    slice_get arms k ≡ Some t → slice_get arms j ≡ Some u → HasTagAt table t id → HasTagAt table u id → k ≡ j
one_arm table [] k j t u id told e f h g = absurd (cc)
one_arm table (a ∷ rest) zero zero t u id told e f h g = refl
one_arm table (a ∷ rest) zero (suc j) t u id told e f h g =
    let same : a ≡ t = cc in
    absurd (others_apart table a rest j u id
    (first_holds (arm_unambiguous table (node_at table a) rest) (arms_unambiguous table rest) told) f
    (subst (λ (z : ℕ). HasTagAt table z id) (sym same) h) g)
one_arm table (a ∷ rest) (suc k) zero t u id told e f h g =
    let same : a ≡ u = cc in
    absurd (others_apart table a rest k t id
    (first_holds (arm_unambiguous table (node_at table a) rest) (arms_unambiguous table rest) told) e
    (subst (λ (z : ℕ). HasTagAt table z id) (sym same) g) h)
one_arm table (a ∷ rest) (suc k) (suc j) t u id told e f h g =
    ap suc (one_arm table rest k j t u id
    (second_holds (arm_unambiguous table (node_at table a) rest) (arms_unambiguous table rest) told) e f h g)

-- the tags of each arm are those of the choice
pub arm_held : (table : List Node) (ts : Tags) (arms : List ℕ) (k t : ℕ) → arms_included table ts arms ≡ true →
    slice_get arms k ≡ Some t → holds ts (node_at table t) ≡ true
arm_held table ts [] k t held e = absurd (cc)
arm_held table ts (a ∷ rest) zero t held e =
    let same : a ≡ t = cc in
    subst (λ (z : ℕ). holds ts (node_at table z) ≡ true) same
    (first_holds (holds ts (node_at table a)) (arms_included table ts rest) held)
arm_held table ts (a ∷ rest) (suc k) t held e =
    arm_held table ts rest k t (second_holds (holds ts (node_at table a)) (arms_included table ts rest) held) e

-- each type of a table is told
told_at : (table nodes : List Node) (t : ℕ) (node : Node) → all_unambiguous table nodes ≡ true →
    slice_get nodes t ≡ Some node → kind_unambiguous table node.tags node.kind ≡ true
told_at table [] t node told e = absurd (cc)
told_at table (n ∷ nodes) zero node told e =
    let same : n ≡ node = cc in
    subst (λ (z : Node). kind_unambiguous table z.tags z.kind ≡ true) same
    (second_holds (are_classes n.tags) (kind_unambiguous table n.tags n.kind)
    (first_holds (are_classes n.tags && kind_unambiguous table n.tags n.kind) (all_unambiguous table nodes) told))
told_at table (n ∷ nodes) (suc t) node told e = told_at table nodes t node
    (second_holds (are_classes n.tags && kind_unambiguous table n.tags n.kind) (all_unambiguous table nodes) told) e

pub node_told : (table : List Node) (t : ℕ) (node : Node) → is_sound table ≡ true → slice_get table t ≡ Some node →
    kind_unambiguous table node.tags node.kind ≡ true
unfolding is_sound
node_told table t node sound e =
    told_at table table t node (first_holds (all_unambiguous table table) (in_order 0 table) sound) e

-- each type leads to places before its own
order_at : (place : ℕ) (nodes : List Node) (t : ℕ) (node : Node) → in_order place nodes ≡ true →
    slice_get nodes t ≡ Some node → leads_back (place + t) node.kind ≡ true
order_at place [] t node o e = absurd (cc)
order_at place (n ∷ nodes) zero node o e =
    let same : n ≡ node = cc in
    let z : place ≡ place + 0 = omega arith in
    subst (λ (k : ℕ). leads_back k node.kind ≡ true) z
    (subst (λ (m : Node). leads_back place m.kind ≡ true) same
    (first_holds (leads_back place n.kind) (in_order (suc place) nodes) o))
order_at place (n ∷ nodes) (suc t) node o e =
    let z : suc place + t ≡ place + suc t = omega arith in
    subst (λ (k : ℕ). leads_back k node.kind ≡ true) z
    (order_at (suc place) nodes t node (second_holds (leads_back place n.kind) (in_order (suc place) nodes) o) e)

pub node_order : (table : List Node) (t : ℕ) (node : Node) → is_sound table ≡ true → slice_get table t ≡ Some node →
    leads_back t node.kind ≡ true
unfolding is_sound
node_order table t node sound e =
    let z : 0 + t ≡ t = omega arith in
    subst (λ (k : ℕ). leads_back k node.kind ≡ true) z
    (order_at 0 table t node (second_holds (all_unambiguous table table) (in_order 0 table) sound) e)

-- an arm stands before its choice
pub arm_before : (t : ℕ) (arms : List ℕ) (k a : ℕ) → all_before t arms ≡ true → slice_get arms k ≡ Some a → a < t
arm_before t [] k a o e = absurd (cc)
arm_before t (x ∷ rest) zero a o e =
    let same : x ≡ a = cc in
    let l = first_holds (nat_lt x t) (all_before t rest) o in
    subst (λ (z : ℕ). z < t) same (grind (arith, l))
arm_before t (x ∷ rest) (suc k) a o e =
    arm_before t rest k a (second_holds (nat_lt x t) (all_before t rest) o) e

-- a single tag is that of each identifier that has it
pub single_tag : (ts : Tags) (i j : Identifier) → is_single ts ≡ true → has_tag ts i ≡ true →
    has_tag ts j ≡ true → (i.class ≡ j.class) × (i.number ≡ j.number)
single_tag (tags.AllBut ts) i j s h g = absurd (cc)
single_tag (tags.Among ts) i j s h g = one_tag ts.items s h g
  where
    both : (t : TypeTag) → is_tag_of i t ≡ true → is_tag_of j t ≡ true → (i.class ≡ j.class) × (i.number ≡ j.number)
    both t e f =
        let c = eqb-true t.class i.class (first_holds (nat_eq t.class i.class) (nat_eq t.number i.number) e) in
        let n = eqb-true t.number i.number (second_holds (nat_eq t.class i.class) (nat_eq t.number i.number) e) in
        let d = eqb-true t.class j.class (first_holds (nat_eq t.class j.class) (nat_eq t.number j.number) f) in
        let m = eqb-true t.number j.number (second_holds (nat_eq t.class j.class) (nat_eq t.number j.number) f) in
        (sym c ∙ d, sym n ∙ m)

    one_tag : (xs : List TypeTag) → is_one xs ≡ true → in_list xs i ≡ true → in_list xs j ≡ true →
        (i.class ≡ j.class) × (i.number ≡ j.number)
    one_tag [] s h g = absurd (cc)
    one_tag (t ∷ []) s h g = elim (one_holds (is_tag_of i t) false h) [
      | inl e ↦ elim (one_holds (is_tag_of j t) false g) [ inl f ↦ both t e f | inr f ↦ absurd (cc) ]
      | inr e ↦ absurd (cc)
    ]
    one_tag (t ∷ u ∷ us) s h g = absurd (cc)
