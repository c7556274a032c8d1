-- Why octets are refused: what is told of a type, of a field and of a row.
use Rattle.std.proofs.Common.{◌≡◌, ◌∙◌, ap, sym, subst, refl, ℕ, zero, suc, ◌-◌, arith, List, [], ◌∷◌, ◌++◌, length, true}
use Rattle.std.specs.Prelude.{Option, Some, None, slice_get, Result, Ok, Err, IfErr}
use Rattle.asn1_schema.specs.declared.fault.Fault.{Fault}
use Rattle.asn1_schema.specs.declared.fault.Fault.TheVariants as faults
use Rattle.std.proofs.lemmas.List.{length-append}
use Rattle.asn1_schema.specs.declared.schema.Presence.{Presence}
use Rattle.asn1_schema.specs.declared.schema.Presence.TheVariants as presences
use Rattle.asn1_schema.specs.declared.schema.Field.{Field}
use Rattle.asn1_schema.specs.declared.schema.Node.{Node}
use Rattle.asn1_schema.specs.declared.schema.Kind.{Kind}
use Rattle.asn1_schema.specs.declared.refusal.Reason.{Reason}
use Rattle.asn1_schema.specs.declared.refusal.Reason.TheVariants as reasons
use Rattle.asn1_schema.specs.declared.refusal.Refusal.{Refusal}
use Rattle.asn1_schema.specs.Sound.{node_at}
use Rattle.asn1_schema.specs.Refusals.{IsOfType, IsOfField, IsDefault, IsTold, IsToldField, HasFieldAt, HasFieldsAt, row_fields, may_be_why}

-- what no type rules out
pub any_tag : (n : Option Node) → IsOfType reasons.Tag n
any_tag None = tt
any_tag (Some n) = refl

pub any_element : (n : Option Node) → IsOfType reasons.Element n
any_element None = tt
any_element (Some n) = refl

pub any_missing : (n : Option Node) → IsOfType reasons.MissingField n
any_missing None = tt
any_missing (Some n) = refl

pub any_repeated : (n : Option Node) → IsOfType reasons.Repeated n
any_repeated None = tt
any_repeated (Some n) = refl

pub any_default : (n : Option Node) → IsOfType reasons.Default n
any_default None = tt
any_default (Some n) = refl

pub any_trailing : (n : Option Node) → IsOfType reasons.TrailingOctets n
any_trailing None = tt
any_trailing (Some n) = refl

-- what the type that is there does not rule out
pub of_kind : (table : List Node) (of : ℕ) (reason : Reason) (node : Node) (kind : Kind) → node_at table of ≡ Some node →
    node.kind ≡ kind → may_be_why reason kind ≡ true → IsOfType reason (node_at table of)
of_kind table of reason node kind found k w = subst (λ (z : Option Node). IsOfType reason z) (sym found)
    (subst (λ (z : Kind). may_be_why reason z ≡ true) (sym k) w)

pub of_no_type : (n : Option Node) → n ≡ None → (reason : Reason) → IsOfType reason n
of_no_type n none reason = subst (λ (z : Option Node). IsOfType reason z) (sym none) tt

-- A refusal is told, of no field yet.
pub told_as : (table : List Node) (own : Option Field) (refusal : Refusal) (of : ℕ) (reason : Reason) → refusal.of ≡ of →
    refusal.reason ≡ reason → refusal.field ≡ None → IsOfType reason (node_at table of) → IsOfField reason of own →
    IsTold table own refusal
told_as table own refusal of reason o w f t k = record {
  field = own;
  of_type = subst (λ (z : Reason). IsOfType z (node_at table refusal.of)) (sym w)
      (subst (λ (z : ℕ). IsOfType reason (node_at table z)) (sym o) t);
  of_field = subst (λ (z : Reason). IsOfField z refusal.of own) (sym w)
      (subst (λ (z : ℕ). IsOfField reason z own) (sym o) k);
  place = subst (λ (z : Option ℕ). IsToldField table own refusal.row z own) (sym f) refl;
}

-- What is told within a field is told of it, or of one further in.
up : (reason : Reason) (of : ℕ) (f : Field) → IsOfField reason of None → IsOfField reason of (Some f)
up reasons.Nothing of f a = tt
up reasons.Depth of f a = tt
up reasons.MissingType of f a = tt
up reasons.Element of f a = tt
up reasons.Tag of f a = tt
up reasons.Form of f a = tt
up reasons.Contents of f a = tt
up reasons.Bounds of f a = tt
up reasons.MissingField of f a = absurd a
up reasons.Order of f a = tt
up reasons.Repeated of f a = absurd a
up reasons.Default of f a = absurd a
up reasons.TrailingOctets of f a = tt

pub told_up : (table : List Node) (f : Field) (refusal : Refusal) → IsTold table None refusal → IsTold table (Some f) refusal
told_up table f refusal t =
    let both = by_place refusal.field t.field t.place t.of_field in
    record { field = both.0; of_type = t.of_type; of_field = both.2; place = both.1 }
  where
    by_place : (told : Option ℕ) (g : Option Field) → IsToldField table None refusal.row told g →
        IsOfField refusal.reason refusal.of g →
        (h : Option Field) × IsToldField table (Some f) refusal.row told h × IsOfField refusal.reason refusal.of h
    by_place None g e k = (
      Some f,
      refl,
      up refusal.reason refusal.of f (subst (λ (z : Option Field). IsOfField refusal.reason refusal.of z) e k),
    )
    by_place (Some place) g e k = (g, e, k)

-- a field that may not be left out is not there
pub told_missing : (table : List Node) (f : Field) (refusal : Refusal) → f.presence ≡ presences.Required →
    refusal.of ≡ f.of → refusal.reason ≡ reasons.MissingField → refusal.field ≡ None → IsTold table (Some f) refusal
told_missing table f refusal p o w k =
    told_as table (Some f) refusal f.of reasons.MissingField o w k (any_missing (node_at table f.of)) (refl, p)

pub told_default : (table : List Node) (f : Field) (refusal : Refusal) → IsDefault f.presence →
    refusal.of ≡ f.of → refusal.reason ≡ reasons.Default → refusal.field ≡ None → IsTold table (Some f) refusal
told_default table f refusal p o w k =
    told_as table (Some f) refusal f.of reasons.Default o w k (any_default (node_at table f.of)) (refl, p)

pub told_repeated : (table : List Node) (f : Field) (refusal : Refusal) →
    refusal.of ≡ f.of → refusal.reason ≡ reasons.Repeated → refusal.field ≡ None → IsTold table (Some f) refusal
told_repeated table f refusal o w k =
    told_as table (Some f) refusal f.of reasons.Repeated o w k (any_repeated (node_at table f.of)) refl

-- The fields of a row are at their places.

slice_get_seam : (front back : List Field) (f : Field) → slice_get (front ++ f ∷ back) (length front) ≡ Some f
slice_get_seam [] back f = refl
slice_get_seam (x ∷ front) back f = slice_get_seam front back f

pub field_here : (done back fields : List Field) (f : Field) (place : ℕ) → fields ≡ done ++ f ∷ back →
    place ≡ length fields - length (f ∷ back) → slice_get fields place ≡ Some f
field_here done back fields f place is at =
    let n = ap length is in
    let m = length-append done (f ∷ back) in
    let p : place ≡ length done = omega (arith, n, m, at) in
    ap (λ (z : List Field). slice_get z place) is ∙ ap (λ (i : ℕ). slice_get (done ++ f ∷ back) i) p
    ∙ slice_get_seam done back f

pub fields_there : (table : List Node) (row : ℕ) (node : Node) (fields : List Field) → node_at table row ≡ Some node →
    row_fields node.kind ≡ Some fields → HasFieldsAt table row fields
fields_there table row node fields found kind = λ place field is.
    record { node = node; fields = fields; found = found; kind = kind; is = is }

-- A list has no fields.
pub no_fields_there : (table : List Node) (row : ℕ) (fields : List Field) → fields ≡ [] → HasFieldsAt table row fields
no_fields_there table row fields none = λ place field is.
    absurd (nothing place field (sym (ap (λ (z : List Field). slice_get z place) none) ∙ is))
  where
    nothing : (place : ℕ) (field : Field) → slice_get {X = Field} [] place ≡ Some field → ⊥
    nothing place field e = absurd (cc)

-- a refusal of a value of the type that is there
pub told_of_kind : (table : List Node) (refusal : Refusal) (of : ℕ) (reason : Reason) (node : Node) (kind : Kind) →
    refusal.of ≡ of → refusal.reason ≡ reason → refusal.field ≡ None → node_at table of ≡ Some node → node.kind ≡ kind →
    may_be_why reason kind ≡ true → IsOfField reason of None → IsTold table None refusal
told_of_kind table refusal of reason node kind o w f found is may k =
    told_as table None refusal of reason o w f (of_kind table of reason node kind found is may) k

-- where memory ran out nothing is told
pub not_refused : {T : Type 0} (r : Result T Fault) → IfErr r (λ e. e ≡ faults.Memory) → r ≡ Err faults.Refused → ⊥
not_refused (Ok x) m e = absurd (cc)
not_refused (Err e) m is = absurd (let same : e ≡ faults.Refused = cc in cc)

pub fault_is : {T : Type 0} (x y : Fault) (r : Result T Fault) → r ≡ Err x → r ≡ Err y → x ≡ y
fault_is x y r a b = cc
