-- Documents that denote no value without parts of a kind.
use Rattle.std.proofs.Common.{◌≡◌, refl, ℕ, ℤ, Bool, List, Vec}
use Rattle.std.specs.Borrow.{Bor}
use Rattle.json.specs.Json.{Json, boolean, null, number, string, array, object}
use Rattle.json.specs.Json as documents
use Rattle.json.specs.Value.{value_view}
use Rattle.json.specs.declared.value.Value.{Value, String, Number, Bool as Truth, Null, Array, Object}
use Rattle.asn1_schema.specs.declared.names.PartName.{PartName}
use Rattle.asn1_schema.specs.declared.schema.Kind.{Kind}
use Rattle.asn1_schema.specs.declared.schema.Kind.TheVariants as kinds
use Rattle.asn1_schema.specs.Values.{LeafValue}
use Rattle.asn1_json.specs.DenotedLeaves.{DenotesInteger, DenotesLeaf, DenotesListed}
use Rattle.asn1_json.proofs.Views.{view_cases}

module _ {A : Type 0} (v : Value A) where
  pub no_truth : ((b : Bool) → v ≡ Truth b → ⊥) → (b : Bool) → value_view v ≡ boolean b → ⊥
  no_truth not b = view_cases v (λ j. j ≡ boolean b → ⊥) (λ e f. absurd (cc (f))) (λ c e f. not c e) (λ s e f. absurd (cc (f)))
      (λ s e f. absurd (cc (f))) (λ xs e f. absurd (cc (f))) (λ ms e f. absurd (cc (f)))

  pub no_null : (v ≡ Null → ⊥) → value_view v ≡ null → ⊥
  no_null not = view_cases v (λ j. j ≡ null → ⊥) (λ e f. not e) (λ c e f. absurd (cc (f))) (λ s e f. absurd (cc (f)))
      (λ s e f. absurd (cc (f))) (λ xs e f. absurd (cc (f))) (λ ms e f. absurd (cc (f)))

  pub no_string : ((s : Bor (List ℕ)) → v ≡ String s → ⊥) → (t : List ℕ) → value_view v ≡ string t → ⊥
  no_string not t = view_cases v (λ j. j ≡ string t → ⊥) (λ e f. absurd (cc (f))) (λ c e f. absurd (cc (f))) (λ s e f. absurd (cc (f)))
      (λ s e f. not s e) (λ xs e f. absurd (cc (f))) (λ ms e f. absurd (cc (f)))

  pub no_object : ((ms : Vec (Bor (List ℕ) × Value A) A) → v ≡ Object ms → ⊥) → (ns : documents.Members) → value_view v ≡ object ns → ⊥
  no_object not ns = view_cases v (λ j. j ≡ object ns → ⊥) (λ e f. absurd (cc (f))) (λ c e f. absurd (cc (f))) (λ s e f. absurd (cc (f)))
      (λ s e f. absurd (cc (f))) (λ xs e f. absurd (cc (f))) (λ ms e f. not ms e)

  pub no_array : ((xs : Vec (Value A) A) → v ≡ Array xs → ⊥) → (js : documents.Items) → value_view v ≡ array js → ⊥
  no_array not js = view_cases v (λ j. j ≡ array js → ⊥) (λ e f. absurd (cc (f))) (λ c e f. absurd (cc (f))) (λ s e f. absurd (cc (f)))
      (λ s e f. absurd (cc (f))) (λ xs e f. not xs e) (λ ms e f. absurd (cc (f)))

  pub no_number : ((s : Bor (List ℕ)) → v ≡ Number s → ⊥) → (n : ℤ) → DenotesInteger (value_view v) n → ⊥
  no_number not n = view_cases v (λ j. DenotesInteger j n → ⊥) (λ e f. f) (λ c e f. f) (λ s e f. not s e)
      (λ s e f. f) (λ xs e f. f) (λ ms e f. f)

  pub no_listed : (labels : List PartName) → ((s : Bor (List ℕ)) → v ≡ String s → ⊥) → ((s : Bor (List ℕ)) → v ≡ Number s → ⊥) →
      (n : ℤ) → DenotesListed labels (value_view v) n → ⊥
  no_listed labels not nor n = view_cases v (λ j. DenotesListed labels j n → ⊥) (λ e f. f) (λ c e f. f) (λ s e f. nor s e)
      (λ s e f. not s e) (λ xs e f. f) (λ ms e f. f)

-- a kind of values with parts
pub no_kind : (labels : List PartName) (kind : Kind) (j : Json) (m : LeafValue) → (kind ≡ kinds.Boolean → ⊥) → (kind ≡ kinds.Null → ⊥) →
    (kind ≡ kinds.Integer → ⊥) → ((ns : _) (x : Bool) → kind ≡ kinds.Enumerated ns x → ⊥) → ((x : Bool) → kind ≡ kinds.Bits x → ⊥) →
    (kind ≡ kinds.Octets → ⊥) → ((x : Bool) → kind ≡ kinds.Identifier x → ⊥) → ((x : _) → kind ≡ kinds.Text x → ⊥) →
    ((x : _) → kind ≡ kinds.Time x → ⊥) → (kind ≡ kinds.Any → ⊥) → DenotesLeaf labels kind j m → ⊥
no_kind labels kinds.Boolean j m a b c d e f g h i k x = a refl
no_kind labels kinds.Null j m a b c d e f g h i k x = b refl
no_kind labels kinds.Integer j m a b c d e f g h i k x = c refl
no_kind labels (kinds.Enumerated ns y) j m a b c d e f g h i k x = d ns y refl
no_kind labels (kinds.Bits y) j m a b c d e f g h i k x = e y refl
no_kind labels kinds.Octets j m a b c d e f g h i k x = f refl
no_kind labels (kinds.Identifier y) j m a b c d e f g h i k x = g y refl
no_kind labels (kinds.Text y) j m a b c d e f g h i k x = h y refl
no_kind labels (kinds.Time y) j m a b c d e f g h i k x = i y refl
no_kind labels kinds.Any j m a b c d e f g h i k x = k refl
no_kind labels (kinds.Sequence fields unknown) j m a b c d e f g h i k x = x
no_kind labels (kinds.Set fields unknown) j m a b c d e f g h i k x = x
no_kind labels (kinds.SequenceOf t) j m a b c d e f g h i k x = x
no_kind labels (kinds.SetOf t) j m a b c d e f g h i k x = x
no_kind labels (kinds.Choice arms) j m a b c d e f g h i k x = x
no_kind labels (kinds.Explicit t) j m a b c d e f g h i k x = x
no_kind labels (kinds.Within t lower upper) j m a b c d e f g h i k x = x
