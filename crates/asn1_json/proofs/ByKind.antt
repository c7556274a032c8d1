-- What parts of a value that are made come to, by the kind of its type.
use Rattle.std.proofs.Common.{◌≡◌, ◌∙◌, ap, sym, refl, subst, ℕ, zero, suc, ◌+◌, ◌-◌, ◌<◌, ◌≤◌, List, [], ◌∷◌, ◌++◌, length, map, take, get_or, Option, Some, None, option_and_then, arith, Result, Ok, Err}
use Rattle.std.specs.Prelude.{OnOk, IfOk, All}
use Rattle.std.specs.List.Sorted.{IsPermutation}
use Rattle.std.proofs.lemmas.List.{take_more, take_all, map-append}
use Rattle.std.proofs.lemmas.List.Elements.{All-push}
use Rattle.std.proofs.lemmas.List.Sorted.{IsPermutation-map}
use Rattle.json.specs.Json.{Json, Items, no_items, item, array}
use Rattle.json.specs.Value.{items_of}
use Rattle.asn1_schema.specs.declared.schema.Kind.{Kind}
use Rattle.asn1_schema.specs.declared.schema.Kind.TheVariants as kinds
use Rattle.asn1_schema.specs.declared.schema.Field.{Field}
use Rattle.asn1_schema.specs.Tape.{tape_of}
use Rattle.asn1_schema.specs.Values.{Value, Values, row, none}
use Rattle.asn1_schema.specs.declared.owned.OwnedTape.{OwnedTape}
use Rattle.asn1_json.specs.declared.reading.arranged.Member.{Member}
use Rattle.asn1_schema.specs.Owned.{owned_marks}
use Rattle.asn1_json.specs.Tokens.{Types, type_of_unknown}
use Rattle.asn1_json.specs.Types.{arms_of, fields_of, kind_at, resolved, unknown_type}
use Rattle.asn1_json.specs.Denotes.{Denotes, DenoteItems, DenoteUnknown, DenotesChosen, DenotesKind, DenotesResolved, DenotesRow, listed_items}
use Rattle.asn1_json.specs.Outcomes.{IsMember, Makes, MakesRow, document_of}
use Rattle.asn1_schema.proofs.Appended.{appended_to_none}
use Rattle.asn1_json.proofs.Rows.{item_made, makes_as, row_of_none}

pub on_ok : {T E : Type 0} (r : Result T E) (P Q : Type 0) → (P → Q) → OnOk r P → OnOk r Q
on_ok (Ok x) P Q f p = f p
on_ok (Err e) P Q f p = tt

pub if_ok : {T E : Type 0} (P Q : T → Type 0) (r : Result T E) → ((x : T) → P x → Q x) → IfOk r P → IfOk r Q
if_ok P Q (Ok x) f p = f x p
if_ok P Q (Err e) f p = tt

-- One item more.

module _ {X : Type 0} (f : X → Json) (xs : List X) (Sub : Json → Value → Type 0) where
  pub no_item : (tape : OwnedTape) → MakesRow (DenoteItems Sub (items_of (map f (take 0 xs)))) tape tape
  no_item tape = row_of_none (DenoteItems Sub (items_of (map f (take 0 xs)))) tape tt

  pub next_item : (i : ℕ) (x d : X) (old mid new : OwnedTape) → x ≡ get_or xs i d → i < length xs →
      MakesRow (DenoteItems Sub (items_of (map f (take i xs)))) old mid → Makes (Sub (f x)) mid new →
      MakesRow (DenoteItems Sub (items_of (map f (take (i + 1) xs)))) old new
  next_item i x d old mid new is lt a b =
      subst (λ (l : List Json). MakesRow (DenoteItems Sub (items_of l)) old new)
      (sym (ap (λ (l : List X). map f l) (take_more xs i d lt) ∙ map-append f (take i xs) (get_or xs i d ∷ [])
      ∙ ap (λ (y : X). map f (take i xs) ++ f y ∷ []) (sym is)))
      (item_made Sub (map f (take i xs)) (f x) old mid new a b)

  pub all_items : (i : ℕ) (old new : OwnedTape) → length xs ≤ i → MakesRow (DenoteItems Sub (items_of (map f (take i xs)))) old new →
      MakesRow (DenoteItems Sub (items_of (map f xs))) old new
  all_items i old new le a =
      subst (λ (l : List X). MakesRow (DenoteItems Sub (items_of (map f l))) old new) (take_all i xs le) a

pub none_of : {X : Type 0} (o : Option X) → ((x : X) → o ≡ Some x → ⊥) → o ≡ None
none_of None not = refl
none_of (Some x) not = absurd (not x refl)

-- no unknown elements
pub no_unknown : (Sub : ℕ → Json → Value → Type 0) (unknown : Option ℕ) → DenoteUnknown Sub unknown None none
no_unknown Sub None = refl
no_unknown Sub (Some t) = refl

-- Members of sets.

pub member_made : (Sub : Json → Value → Type 0) (m : Member) (fresh : OwnedTape) → owned_marks fresh ≡ [] →
    Makes (Sub (document_of m)) fresh m.made → IsMember Sub m
member_made Sub m fresh empty a = (a.kept, appended_to_none fresh m.made (tape_of a.kept) empty a.put, a.denotes)

pub member_more : (Sub : Json → Value → Type 0) (ms ns : List Member) (m : Member) (fresh : OwnedTape) (js : List Json) →
    ns ≡ ms ++ m ∷ [] → map document_of ms ≡ js → All (IsMember Sub) ms → owned_marks fresh ≡ [] →
    Makes (Sub (document_of m)) fresh m.made → (map document_of ns ≡ js ++ document_of m ∷ []) × All (IsMember Sub) ns
member_more Sub ms ns m fresh js e is all empty made = (
  ap (λ (l : List Member). map document_of l) e ∙ map-append document_of ms (m ∷ []) ∙ ap (λ (l : List Json). l ++ document_of m ∷ []) is,
  subst (All (IsMember Sub)) (sym e) (All-push (IsMember Sub) ms m all (member_made Sub m fresh empty made)),
)

pub member_next : (Sub : Json → Value → Type 0) (ms : List Member) (i : ℕ) (m d : Member) → m ≡ get_or ms i d → i < length ms →
    All (IsMember Sub) ms → IsMember Sub m
member_next Sub ms i m d is lt all = subst (IsMember Sub) (sym is) (all i d lt)

pub taken_more : {X : Type 0} (f : X → Json) (xs : List X) (i : ℕ) (x d : X) → x ≡ get_or xs i d → i < length xs →
    map f (take (i + 1) xs) ≡ map f (take i xs) ++ f x ∷ []
taken_more {X} f xs i x d is lt = ap (λ (l : List X). map f l) (take_more xs i d lt)
    ∙ map-append f (take i xs) (get_or xs i d ∷ []) ∙ ap (λ (y : X). map f (take i xs) ++ f y ∷ []) (sym is)

pub listed : (js : List Json) → listed_items (items_of js) ≡ js
listed [] = refl
listed (j ∷ js) = ap (λ (l : List Json). j ∷ l) (listed js)

pub members_in_order : (ms ns : List Member) (js : List Json) → IsPermutation ms ns → map document_of ms ≡ js →
    IsPermutation (listed_items (items_of js)) (listed_items (items_of (map document_of ns)))
members_in_order ms ns js p e =
    subst (λ (l : List Json). IsPermutation l (listed_items (items_of (map document_of ns)))) (e ∙ sym (listed js))
    (subst (λ (l : List Json). IsPermutation (map document_of ms) l) (sym (listed (map document_of ns)))
    (IsPermutation-map document_of ms ns p))

-- Kinds.

module _ (types : Types) (depth : ℕ) (Sub : ℕ → Json → Value → Type 0) (at : ℕ) (j : Json) (v : Value) where
  pub sequence_is : (kind : Kind) → kind_at types.table (Some at) ≡ Some kind →
      DenotesRow types depth Sub at (fields_of (kind_at types.table (Some at))) (type_of_unknown types (Some at)) j v →
      DenotesRow types depth Sub at (fields_of (Some kind)) (unknown_type kind) j v
  sequence_is kind e d = subst (λ (k : Option Kind). DenotesRow types depth Sub at (fields_of k) (option_and_then unknown_type k) j v) e d

  pub choice_is : (kind : Kind) → kind_at types.table (Some at) ≡ Some kind →
      DenotesChosen types Sub at (arms_of (kind_at types.table (Some at))) j v →
      DenotesChosen types Sub at (arms_of (Some kind)) j v
  choice_is kind e d = subst (λ (k : Option Kind). DenotesChosen types Sub at (arms_of k) j v) e d

-- the type that all tags and bounds are on, and its kind
pub denotes_by : (types : Types) (depth nesting of at : ℕ) (kind : Kind) (j : Json) (v : Value) → (nesting ≡ 0 → ⊥) →
    resolved types.table (Some of) ≡ Some at → kind_at types.table (Some at) ≡ Some kind →
    DenotesKind types depth (Denotes types depth (nesting - 1)) at (Some kind) j v → Denotes types depth nesting of j v
unfolding Denotes
denotes_by types depth zero of at kind j v some r k d = absurd (some refl)
denotes_by types depth (suc n) of at kind j v some r k d =
    let e : suc n - 1 ≡ n = omega arith in
    subst (λ (a : Option ℕ). DenotesResolved types depth (Denotes types depth n) a j v) (sym r)
    (subst (λ (o : Option Kind). DenotesKind types depth (Denotes types depth n) at o j v) (sym k)
    (subst (λ (m : ℕ). DenotesKind types depth (Denotes types depth m) at (Some kind) j v) e d))
