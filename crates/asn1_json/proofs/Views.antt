-- Values of the crate `json` that have no parts, as documents.
use Rattle.std.proofs.Common.{◌≡◌, ◌∙◌, ap, sym, subst, ℕ, Bool, List, Vec, rules}
use Rattle.std.specs.Borrow.{Bor}
use Rattle.json.specs.Json as documents
use Rattle.json.specs.Value.{items_view, members_view, value_view}
use Rattle.json.specs.declared.value.Value.{Value, String, Number, Bool as Truth, Null, Array, Object, the_lemmas}
use Rattle.json.specs.declared.value.Value.TheOpen.{Value-F}
use Rattle.json.specs.declared.value.Value.TheVariants.{rolls-Null, rolls-Bool, rolls-Number, rolls-String, rolls-Array, rolls-Object}
use Rattle.json.specs.declared.value.Value.TheViews.{out-Value, roll-Value, roll-out-Value}
use Rattle.json.proofs.Trees.{view-Array, view-Object}

pub null_view : (A : Type 0) → value_view {A = A} Null ≡ documents.null
null_view A = search (rules, the_lemmas)

pub truth_view : (A : Type 0) → (b : Bool) → value_view {A = A} (Truth b) ≡ documents.boolean b
truth_view A b = search (rules, the_lemmas)

pub number_view : (A : Type 0) → (s : Bor (List ℕ)) → value_view {A = A} (Number s) ≡ documents.number s.now
number_view A s = search (rules, the_lemmas)

pub string_view : (A : Type 0) → (s : Bor (List ℕ)) → value_view {A = A} (String s) ≡ documents.string s.now
string_view A s = search (rules, the_lemmas)

-- what is true of each document is true of this one
view_layer : {A : Type 0} → (v : Value A) (o : Value-F A (Value A)) → roll-Value A o ≡ v → (P : documents.Json → Type 0) → (v ≡ Null → P documents.null) →
    ((b : Bool) → v ≡ Truth b → P (documents.boolean b)) → ((s : Bor (List ℕ)) → v ≡ Number s → P (documents.number s.now)) →
    ((s : Bor (List ℕ)) → v ≡ String s → P (documents.string s.now)) →
    ((vs : Vec (Value A) A) → v ≡ Array vs → P (documents.array (items_view vs.items))) →
    ((ms : Vec (Bor (List ℕ) × Value A) A) → v ≡ Object ms → P (documents.object (members_view ms.items))) → P (value_view v)
unfolding roll-Value denote.Hole.Carrier.roll
view_layer {A} v Value-F.Null e P n b s t xs ms =
    let is : v ≡ Null = sym (rolls-Null ∙ e) in subst P (sym (ap value_view is ∙ null_view A)) (n is)
view_layer {A} v (Value-F.Bool c) e P n b s t xs ms =
    let is : v ≡ Truth c = sym (rolls-Bool c ∙ e) in subst P (sym (ap value_view is ∙ truth_view A c)) (b c is)
view_layer {A} v (Value-F.Number x) e P n b s t xs ms =
    let is : v ≡ Number x = sym (rolls-Number x ∙ e) in subst P (sym (ap value_view is ∙ number_view A x)) (s x is)
view_layer {A} v (Value-F.String x) e P n b s t xs ms =
    let is : v ≡ String x = sym (rolls-String x ∙ e) in subst P (sym (ap value_view is ∙ string_view A x)) (t x is)
view_layer {A} v (Value-F.Array vs) e P n b s t xs ms =
    let is : v ≡ Array vs = sym (rolls-Array vs ∙ e) in subst P (sym (ap value_view is ∙ view-Array vs)) (xs vs is)
view_layer {A} v (Value-F.Object vs) e P n b s t xs ms =
    let is : v ≡ Object vs = sym (rolls-Object vs ∙ e) in subst P (sym (ap value_view is ∙ view-Object vs)) (ms vs is)

pub view_cases : {A : Type 0} → (v : Value A) (P : documents.Json → Type 0) → (v ≡ Null → P documents.null) →
    ((b : Bool) → v ≡ Truth b → P (documents.boolean b)) → ((s : Bor (List ℕ)) → v ≡ Number s → P (documents.number s.now)) →
    ((s : Bor (List ℕ)) → v ≡ String s → P (documents.string s.now)) →
    ((vs : Vec (Value A) A) → v ≡ Array vs → P (documents.array (items_view vs.items))) →
    ((ms : Vec (Bor (List ℕ) × Value A) A) → v ≡ Object ms → P (documents.object (members_view ms.items))) → P (value_view v)
view_cases {A} v P n b s t xs ms = view_layer v (out-Value A v) (roll-out-Value A v) P n b s t xs ms
