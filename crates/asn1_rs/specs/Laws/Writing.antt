-- What is written is lawful: for what holds an item, for lists and sets of items, and under tags.
use Rattle.std.specs.Prelude.{◌≡◌, ℕ, ◌<◌, ◌^◌, Bool, true, List, length, slice_index_or}
use Rattle.x690.specs.Collections.{AllDiffer, AnyList}
use Rattle.x690.specs.Identifiers.{Identifier}
use Rattle.asn1_rs.specs.Grammar.Form.{IsStrict}
use Rattle.asn1_rs.specs.Grammar.Item.{ItemGrammar, IsLawfulItem, IsLawfulWriting, by_inner}
use Rattle.asn1_rs.specs.Kinds.Writing.{list_writing, set_writing}
use Rattle.asn1_rs.specs.Lists.{list_grammar}
use Rattle.asn1_rs.specs.Set.{member_grammar, multiset_grammar, set_of}
use Rattle.asn1_rs.specs.Tagged.Explicit.{explicit_grammar}
use Rattle.asn1_rs.specs.Tagged.Headed.{explicit_headed, implicit_headed}
use Rattle.asn1_rs.specs.Tagged.Implicit.{implicit_grammar}
use Rattle.asn1_rs.specs.Tagged.Writing.{explicit_under, headed_writing, implicit_under, tag_writing}
use Rattle.asn1_rs.specs.ToDer.{Writing, inner_writing, whole_octets, whole_refuses}
use Rattle.x690.specs.Collections.{multiset}
use Rattle.x690.specs.Laws.Collections.{permutation_from_multiset}
use Rattle.asn1_rs.specs.Laws.Forms.{der_strict, behind_header, whole_writable}
use Rattle.asn1_rs.specs.Laws.AssertValid.{list_writable, members_writable, multiset_writable}
use Rattle.asn1_rs.specs.Laws.Lists.{list_by_value, list_has_form, list_writes_form}
use Rattle.asn1_rs.specs.Laws.Set.{members_are, members_have_form, members_moved, multiset_has_form, set_by_value}
use Rattle.asn1_rs.specs.Laws.Set.{set_writes_form}
use Rattle.asn1_rs.specs.Laws.Tagged.{under_tag}
use Rattle.asn1_rs.specs.Laws.Tagged.Explicit.{explicit_by_value, explicit_has_form, explicit_writes_form}
use Rattle.asn1_rs.specs.Laws.Tagged.Headed.{explicit_headed_by_value, explicit_headed_has_form}
use Rattle.asn1_rs.specs.Laws.Tagged.Headed.{explicit_headed_writes_form, implicit_headed_by_value}
use Rattle.asn1_rs.specs.Laws.Tagged.Headed.{implicit_headed_has_form, implicit_headed_writes_form}
use Rattle.asn1_rs.specs.Laws.Tagged.Implicit.{implicit_by_value, implicit_has_form, implicit_writes_form}

-- What holds an item.

-- what holds one item, and nothing else
pub inner_lawful_writing : {S T : Type 0} (held : T → S) (G : ItemGrammar S) (w : Writing S) → IsLawfulWriting G w →
    IsLawfulWriting (by_inner held G) (inner_writing held w)
inner_lawful_writing held G w l = record {
  tells_all = λ x. l.tells_all (held x);
  by_value = λ x y. l.by_value (held x) (held y);
  form = λ x. l.form (held x);
  der_form = λ x. l.der_form (held x);
  der_writable = λ x. l.der_writable (held x);
}

-- Lists and sets.

module _ {S : Type 0} (G : ItemGrammar S) (w : Writing S) (item : IsLawfulItem G) (l : IsLawfulWriting G w) where
  -- an item in DER form whose octets fit in memory is written as its strict encoding
  pub der_written : (x : S) → G.IsDer (G.value x) → length (whole_octets w x) < 2 ^ 64 →
      ∥ IsStrict G.Form (G.value x) (whole_octets w x) ∥₁
  der_written = der_strict G.value G.IsDer G.Form w l.form l.der_form item.form_fits

-- lists
pub list_lawful_writing : {S W : Type 0} (number : ℕ) (items : W → List S) (G : ItemGrammar S) (w : Writing S) →
    IsLawfulItem G → IsLawfulWriting G w → IsLawfulWriting (list_grammar number items G) (list_writing number items w)
list_lawful_writing number items G w item l = record {
  tells_all = λ v k d h. l.tells_all (slice_index_or (items v) k d);
  by_value = list_by_value number items G.value w l.by_value;
  form = list_writes_form number G.value G.Form w l.form items;
  der_form = list_has_form number items G.value G.IsDer G.Form w (der_written G w item l);
  der_writable = list_writable G.value G.IsDer w l.der_writable number items;
}

-- sets whose members differ
pub member_lawful_writing : {S W : Type 0} (test : S → S → Bool) (items : W → List S) (G : ItemGrammar S)
    (w : Writing S) → ((x y : S) → test x y ≡ true → G.value x ≡ G.value y → ⊥) → IsLawfulItem G → IsLawfulWriting G w →
    IsLawfulWriting (member_grammar test items G) (set_writing items w)
member_lawful_writing test items G w apart item l = record {
  tells_all = λ s k d h. l.tells_all (slice_index_or (items s) k d);
  by_value =
      λ x y e. set_by_value items G.value w l.by_value x y (members_moved test G.value apart (items x) (items y) e);
  form = λ s i c f. set_writes_form G.value G.Form w l.form set_of AllDiffer (items s) c _ f.1
      (members_are test G.value apart (items s) f.1.items f.1.once f.1.are) i f.0;
  der_form = members_have_form items G.value G.IsDer G.Form w (der_written G w item l) test apart;
  der_writable = members_writable G.value G.IsDer w l.der_writable items test apart;
}

-- sets in which a member may stand more than once
pub multiset_lawful_writing : {S W : Type 0} (items : W → List S) (G : ItemGrammar S) (w : Writing S) → IsLawfulItem G →
    IsLawfulWriting G w → IsLawfulWriting (multiset_grammar items G) (set_writing items w)
multiset_lawful_writing items G w item l = record {
  tells_all = λ s k d h. l.tells_all (slice_index_or (items s) k d);
  by_value = λ x y e. set_by_value items G.value w l.by_value x y (permutation_from_multiset _ _ e);
  form = λ s i c f. set_writes_form G.value G.Form w l.form multiset AnyList (items s) c _ f.1
      (permutation_from_multiset _ _ f.1.are) i f.0;
  der_form = multiset_has_form items G.value G.IsDer G.Form w (der_written G w item l);
  der_writable = multiset_writable G.value G.IsDer w l.der_writable items;
}

-- Under a tag.

-- values under a tag of this class and number
module _ {S T : Type 0} (class number : ℕ) (inner : T → S) (G : ItemGrammar S) (w : Writing S) (item : IsLawfulItem G)
    (l : IsLawfulWriting G w) where
  -- an item under an explicit tag
  pub explicit_lawful_writing : IsLawfulWriting (explicit_grammar class number inner G)
      (tag_writing class number inner (explicit_under w) w)
  explicit_lawful_writing = record {
    tells_all = λ t. l.tells_all (inner t);
    by_value = explicit_by_value class number inner G.value w l.by_value;
    form = explicit_writes_form class number inner G.value w G.Form l.form;
    der_form = explicit_has_form class number inner G.value w G.Form G.IsDer (der_written G w item l);
    der_writable = λ t d.
        let own = l.der_writable (inner t) d.2 in
        let under = under_tag class (w.count_refuses (inner t)) (whole_refuses w (inner t)) d.0 own.0
        (whole_writable w (inner t) own) in
        (own.0, under.0, under.1);
  }

  -- an item under an implicit tag
  pub implicit_lawful_writing : (own : ℕ) →
      IsLawfulWriting (implicit_grammar class number own inner G) (tag_writing class number inner (implicit_under w) w)
  implicit_lawful_writing own = record {
    tells_all = λ t. l.tells_all (inner t);
    by_value = implicit_by_value class number inner G.value w l.by_value;
    form = implicit_writes_form class number inner G.value w G.Form l.form;
    der_form = implicit_has_form class number inner G.value w G.Form G.IsDer l.der_form;
    der_writable = λ t d.
        let own = l.der_writable (inner t) d.2 in
        let under = under_tag class (w.count_refuses (inner t)) (w.content_refuses (inner t)) d.0 own.0 own.2 in
        (own.0, under.0, under.1);
  }

-- With the header in hand.

-- values with the header of their tag in hand
module _ {S T : Type 0} (identifier : T → Identifier) (inner : T → S) (G : ItemGrammar S) (w : Writing S)
    (item : IsLawfulItem G) (l : IsLawfulWriting G w) where
  -- an item with the header of its explicit tag
  pub explicit_headed_lawful_writing : IsLawfulWriting (explicit_headed identifier inner G)
      (headed_writing identifier inner (explicit_under w) w)
  explicit_headed_lawful_writing = record {
    tells_all = λ t. l.tells_all (inner t);
    by_value = explicit_headed_by_value identifier inner G.value w l.by_value;
    form = explicit_headed_writes_form identifier inner G.value w G.Form l.form;
    der_form = explicit_headed_has_form identifier inner G.value w G.Form G.IsDer (der_written G w item l);
    der_writable = λ t d.
        let own = l.der_writable (inner t) d.2 in
        (own.0, behind_header (w.count_refuses (inner t)) own.0, whole_writable w (inner t) own);
  }

  -- an item with the header of its implicit tag
  pub implicit_headed_lawful_writing : (own : ℕ) →
      IsLawfulWriting (implicit_headed identifier own inner G) (headed_writing identifier inner (implicit_under w) w)
  implicit_headed_lawful_writing own = record {
    tells_all = λ t. l.tells_all (inner t);
    by_value = implicit_headed_by_value identifier inner G.value w l.by_value;
    form = implicit_headed_writes_form identifier inner G.value w G.Form l.form;
    der_form = implicit_headed_has_form identifier inner G.value w G.Form G.IsDer l.der_form;
    der_writable = λ t d.
        let own = l.der_writable (inner t) d.2 in
        (own.0, behind_header (w.count_refuses (inner t)) own.0, own.2);
  }
