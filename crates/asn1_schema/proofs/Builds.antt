-- What a call put behind a table.
use Rattle.std.proofs.Common.{ℕ, List, [], ◌∷◌, ◌++◌, ◌≡◌, ◌<◌, ◌-◌, zero, suc, length, length-append, ◌∙◌, subst, sym, ap, refl, arith, Option, Some}
use Rattle.std.specs.Prelude.{ℤ, Bool, not, ◌||◌, Result, Ok, Err, IfOk, OnOk, OnErr, slice_get, slice_set}
use Rattle.asn1_schema.specs.Grammar.{has_tag, is_tag_of}
use Rattle.asn1_schema.specs.declared.schema.Tags.{Tags}
use Rattle.asn1_schema.specs.declared.schema.Node.{Node}
use Rattle.asn1_schema.specs.declared.schema.TypeTag.{TypeTag}
use Rattle.asn1_schema.specs.declared.schema.Kind.{Kind}
use Rattle.asn1_schema.specs.declared.schema.Kind.TheVariants as kinds
use Rattle.asn1_schema.specs.Build.{universal, IsAdded, Puts, IsOf, IsLike, IsTagged, IsUnbounded, IsRetagged, IsPutUnderTag, IsDefined, PutsOpen, Decides, AreTagsOf}

-- where the place and the types are as they should be
pub put_added : {E : Type 0} (r : Result ℕ E) (old new : List Node) (node : Node) (P : Node → Type 0) →
    IfOk r (λ place. place ≡ length old) → OnOk r (new ≡ old ++ node ∷ []) → OnErr r (new ≡ old) → P node → Puts old new P r
put_added (Ok place) old new node P last all stays is = record { node = node; all = all; last = last; is = is }
put_added (Err e) old new node P last all stays is = stays

-- where more is known of the tag and of the kind
pub put_like : {E : Type 0} (r : Result ℕ E) (old new : List Node) (tag other : TypeTag) (kind : Kind) (P : Kind → Type 0) →
    tag ≡ other → P kind → Puts old new (IsOf tag kind) r → Puts old new (IsLike other P) r
put_like (Ok place) old new tag other kind P same is a = record {
  node = a.node;
  all = a.all;
  last = a.last;
  is = (subst (λ (t : TypeTag). IsTagged t a.node.tags) same a.is.0, subst P (sym a.is.1) is);
}
put_like (Err e) old new tag other kind P same is a = a

-- there is something at each place within
pub at_place : {X : Type 0} (xs : List X) (n : ℕ) → n < length xs → (x : X) × (slice_get xs n ≡ Some x)
at_place [] n h = absurd (omega arith)
at_place (x ∷ xs) zero h = (x, refl)
at_place (x ∷ xs) (suc n) h = at_place xs n (omega arith)

-- what is no bounds does not ask where a type that is bounded stands
pub unbounded_retagged : (of a b : ℕ) (was kind : Kind) → IsUnbounded was → IsRetagged of a was kind →
    IsRetagged of b was kind
unbounded_retagged of a b (kinds.Within t l u) kind free is = absurd free
unbounded_retagged of a b (kinds.Enumerated ns e) (kinds.Enumerated ms f) free is = is
unbounded_retagged of a b (kinds.Enumerated ns e) kind free is = is
unbounded_retagged of a b (kinds.Sequence fs u) (kinds.Sequence gs w) free is = is
unbounded_retagged of a b (kinds.Sequence fs u) kind free is = is
unbounded_retagged of a b (kinds.Set fs u) (kinds.Set gs w) free is = is
unbounded_retagged of a b (kinds.Set fs u) kind free is = is
unbounded_retagged of a b was kind free is = is

-- bounds are on the type right before them
pub bounds_retagged : (of inner : ℕ) (was : Kind) (l u : Option ℤ) (t : ℕ) (place : ℕ) → was ≡ kinds.Within t l u →
    place ≡ inner → IsRetagged of inner was (kinds.Within place l u)
bounds_retagged of inner was l u t place is same =
    subst (λ (k : Kind). IsRetagged of inner k (kinds.Within place l u)) (sym is)
    (ap (λ (p : ℕ). kinds.Within p l u) same)

-- the type was put behind the others under the tag
pub is_under : {E : Type 0} (r : Result ℕ E) (old mid new : List Node) (was : Node) (tag : TypeTag) (of : ℕ) (kind : Kind) →
    slice_get old of ≡ Some was → IsRetagged of (length mid - 1) was.kind kind →
    Puts mid new (IsOf tag kind) r → IfOk r (λ place. IsPutUnderTag old new place tag of)
is_under (Ok place) old mid new was tag of kind known same a = record {
  was = was;
  node = a.node;
  known = known;
  front = mid;
  all = a.all;
  last = a.last;
  tagged = a.is.0;
  kind = subst (λ (k : Kind). IsRetagged of (place - 1) was.kind k) (sym a.is.1)
      (subst (λ (n : ℕ). IsRetagged of (n - 1) was.kind kind) (sym a.last) same);
}
is_under (Err e) old mid new was tag of kind known same a = tt

-- where the last type stands
pub last_place : (old new : List Node) (place : ℕ) (tag : TypeTag) (of : ℕ) → IsPutUnderTag old new place tag of →
    place ≡ length new - 1
last_place old new place tag of a =
    let size = ap (λ (xs : List Node). length xs) a.all in
    let more = length-append a.front (a.node ∷ []) in
    let last = a.last in
    omega (arith, size, more, last)

-- a type behind one of unknown elements
pub put_open : {E : Type 0} (r : Result ℕ E) (old mid new : List Node) (unknown : ℕ) (ts : Tags) (told : List ℕ)
    (P : ℕ → Node → Type 0) → AreTagsOf old told ts → IsAdded old mid unknown (λ node. (node.kind ≡ kinds.Any) ×
    Decides (λ id. not (has_tag ts id || is_tag_of id (universal 0))) node.tags) → Puts mid new (P unknown) r →
    PutsOpen old new told P r
put_open (Ok place) old mid new unknown ts told P are first a = record {
  unknown = first.node;
  is_any = first.is.0;
  apart = λ id. first.is.1 id ∙ ap (λ (b : Bool). not (b || is_tag_of id (universal 0))) (are id);
  added = subst (λ (xs : List Node). IsAdded xs new place (P (length old))) first.all
      (subst (λ (n : ℕ). IsAdded mid new place (P n)) first.last a);
}
put_open (Err e) old mid new unknown ts told P are first a = (first.node ∷ [], a ∙ first.all)

-- what is no bounds is unbounded
pub no_bounds : (kind : Kind) → ((t : ℕ) (l u : Option ℤ) → kind ≡ kinds.Within t l u → ⊥) → IsUnbounded kind
no_bounds (kinds.Within t l u) none = none t l u refl
no_bounds kind none = tt

-- a declared type is defined
pub is_defined : (old new : List Node) (place of : ℕ) (was : Node) (kind : Kind) → place < length old →
    slice_get old of ≡ Some was → IsRetagged of of was.kind kind →
    ((declared : Node) → slice_get old place ≡ Some declared →
    new ≡ slice_set old place (record declared { kind = kind })) → IsDefined old new place of
is_defined old new place of was kind within known same set =
    let at = at_place old place within in
    record { declared = at.0; was = was; kind = kind; hole = at.1; known = known; same = same; all = set at.0 at.1 }
