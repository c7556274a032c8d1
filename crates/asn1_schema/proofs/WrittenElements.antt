-- Contents octets and elements of the kinds whose elements have one tag.
use Rattle.std.proofs.Common.{◌≡◌, ◌∙◌, sym, subst, refl, ℕ, zero, suc, ◌-◌, ◌<◌, ◌≤◌, inl, inr, Bool, true, false, List, [], ◌∷◌, ◌++◌, append-nil, length, arith}
use Rattle.std.specs.Prelude.{◌&&◌, Option, Some, None, slice_get, Result, Ok, Err, IfOk, IfErr, nat_eq}
use Rattle.std.specs.List.{list_any}
use Rattle.std.specs.declared.vec.Vec.{Vec}
use Rattle.std.specs.declared.alloc.Global.{Global}
use Rattle.std.proofs.lemmas.Bool.{eq-eqb}
use Rattle.x690.specs.Rules.{der_rule}
use Rattle.x690.specs.Identifiers.{Identifier}
use Rattle.x690.specs.Elements.{Parts, IsDerElement}
use Rattle.x690.specs.Strict.{definite_parts}
use Rattle.x690.specs.Laws.Elements.{definite_element_is_octets}
use Rattle.asn1_schema.specs.declared.fault.Fault.{Fault}
use Rattle.asn1_schema.specs.declared.fault.Fault.TheVariants as faults
use Rattle.asn1_schema.specs.declared.schema.TypeTag.{TypeTag}
use Rattle.asn1_schema.specs.declared.schema.Tags.{Tags}
use Rattle.asn1_schema.specs.declared.schema.Tags.TheVariants as tags
use Rattle.asn1_schema.specs.declared.schema.Field.{Field}
use Rattle.asn1_schema.specs.declared.schema.Node.{Node}
use Rattle.asn1_schema.specs.declared.schema.Kind.{Kind}
use Rattle.asn1_schema.specs.declared.schema.Kind.TheVariants as kinds
use Rattle.asn1_schema.specs.declared.tape.Item.{Item}
use Rattle.asn1_schema.specs.Values.{Value}
use Rattle.asn1_schema.specs.Grammar.{is_tag_of, has_tag, KindBody, Through, Body, Word}
use Rattle.asn1_schema.specs.Rules.{strict}
use Rattle.asn1_schema.specs.Tape.{Mark, tape_of, value_of}
use Rattle.asn1_schema.specs.Sound.{is_sound, is_single, are_classes, kind_unambiguous, all_unambiguous, in_order}
use Rattle.asn1_schema.specs.Sound.{fields_unambiguous}
use Rattle.asn1_schema.specs.Writing.{before, NoneAtEnd, Writes, IsOneTag, constructed_of, is_tagged, plain, Nowhere, IsContentOfKind, IsFieldRow, IsFieldSet, IsList, MakesElement, id_with, Grew}
use Rattle.asn1_schema.proofs.Tags.{first_of_two, both_hold, first_holds, second_holds}
use Rattle.asn1_schema.proofs.Tags.{node_told as kind_told_at}
use Rattle.asn1_schema.proofs.WrittenLeaves.{writes_map}

-- A sound table's types of these kinds have one tag, of a class that there is.

classes_at : (table nodes : List Node) (t : ℕ) (node : Node) → all_unambiguous table nodes ≡ true →
    slice_get nodes t ≡ Some node → are_classes node.tags ≡ true
classes_at table [] t node told e = absurd (cc)
classes_at table (n ∷ nodes) zero node told e =
    let same : n ≡ node = cc in
    subst (λ (z : Node). are_classes z.tags ≡ true) same
    (first_holds (are_classes n.tags) (kind_unambiguous table n.tags n.kind)
    (first_holds (are_classes n.tags && kind_unambiguous table n.tags n.kind) (all_unambiguous table nodes) told))
classes_at table (n ∷ nodes) (suc t) node told e = classes_at table nodes t node
    (second_holds (are_classes n.tags && kind_unambiguous table n.tags n.kind) (all_unambiguous table nodes) told) e

pub classes_of : (table : List Node) (t : ℕ) (node : Node) → is_sound table ≡ true → slice_get table t ≡ Some node →
    are_classes node.tags ≡ true
unfolding is_sound
classes_of table t node sound e =
    classes_at table table t node (first_holds (all_unambiguous table table) (in_order 0 table) sound) e

single_told : (table : List Node) (ts : Tags) (kind : Kind) → is_tagged kind ≡ true →
    kind_unambiguous table ts kind ≡ true →
    is_single ts ≡ true
single_told table ts (kinds.Sequence fields unknown) g k = first_holds (is_single ts) (fields_unambiguous false table unknown fields.items) k
single_told table ts (kinds.Choice arms) g k = absurd (cc)
single_told table ts (kinds.Within t lower upper) g k = absurd (cc)
single_told table ts kinds.Any g k = absurd (cc)
single_told table ts kinds.Boolean g k = k
single_told table ts kinds.Null g k = k
single_told table ts kinds.Integer g k = k
single_told table ts (kinds.Enumerated numbers extensible) g k = k
single_told table ts (kinds.Bits named) g k = k
single_told table ts kinds.Octets g k = k
single_told table ts (kinds.Identifier relative) g k = k
single_told table ts (kinds.Text kind) g k = k
single_told table ts (kinds.Time kind) g k = k
single_told table ts (kinds.Set fields unknown) g k = first_holds (is_single ts) (fields_unambiguous true table unknown fields.items) k
single_told table ts (kinds.SequenceOf t) g k = k
single_told table ts (kinds.SetOf t) g k = k
single_told table ts (kinds.Explicit t) g k = k

pub single_of : (table : List Node) (t : ℕ) (node : Node) → is_sound table ≡ true → slice_get table t ≡ Some node →
    is_tagged node.kind ≡ true → is_single node.tags ≡ true
single_of table t node sound e g = single_told table node.tags node.kind g (kind_told_at table t node sound e)

-- all kinds but choices, bounds and any element
pub tagged_kind : (kind : Kind) → ((arms : Vec ℕ Global) → kind ≡ kinds.Choice arms → ⊥) →
    ((t : ℕ) (lower upper : Option _) → kind ≡ kinds.Within t lower upper → ⊥) → (kind ≡ kinds.Any → ⊥) →
    is_tagged kind ≡ true
tagged_kind (kinds.Choice arms) c w a = absurd (c arms refl)
tagged_kind (kinds.Within t lower upper) c w a = absurd (w t lower upper refl)
tagged_kind kinds.Any c w a = absurd (a refl)
tagged_kind kinds.Boolean c w a = refl
tagged_kind kinds.Null c w a = refl
tagged_kind kinds.Integer c w a = refl
tagged_kind (kinds.Enumerated numbers extensible) c w a = refl
tagged_kind (kinds.Bits named) c w a = refl
tagged_kind kinds.Octets c w a = refl
tagged_kind (kinds.Identifier relative) c w a = refl
tagged_kind (kinds.Text kind) c w a = refl
tagged_kind (kinds.Time kind) c w a = refl
tagged_kind (kinds.Sequence fields unknown) c w a = refl
tagged_kind (kinds.Set fields unknown) c w a = refl
tagged_kind (kinds.SequenceOf t) c w a = refl
tagged_kind (kinds.SetOf t) c w a = refl
tagged_kind (kinds.Explicit t) c w a = refl

-- No element nests at depth 0, or is of a type that is not there.

at_zero : (table : List Node) (t : ℕ) (p : Parts) (v : Value) → Body strict table 0 t p v → ⊥
unfolding Body
at_zero table t p v a = a

pub none_at_zero : (table : List Node) (depth t : ℕ) (tape : List Mark) → depth ≡ 0 →
    NoneAtEnd (Word strict table depth t) tape
none_at_zero table depth t tape z word kept rest w e =
    at_zero table t w.parts (value_of kept) (subst (λ (d : ℕ). Body strict table d t w.parts (value_of kept)) z w.value)

node_of : (table : List Node) (depth t : ℕ) (p : Parts) (v : Value) → Body strict table depth t p v →
    (node : Node) × (slice_get table t ≡ Some node)
unfolding Body Through
node_of table zero t p v a = absurd a
node_of table (suc depth) t p v a = (a.node, a.found)

pub none_of_none : (table : List Node) (depth t : ℕ) (tape : List Mark) → slice_get table t ≡ None →
    NoneAtEnd (Word strict table depth t) tape
none_of_none table depth t tape n word kept rest w e =
    let f = node_of table depth t w.parts (value_of kept) w.value in
    let g : None ≡ Some f.0 = sym n ∙ f.1 in
    absurd (cc)

-- what is found is within the table
pub found_within : (table : List Node) (t : ℕ) (node : Node) → slice_get table t ≡ Some node → t < length table
found_within [] t node e = absurd (cc)
found_within (n ∷ table) zero node e = omega arith
found_within (n ∷ table) (suc t) node e = let i = found_within table t node e in omega (arith, i)

-- the one tag is an identifier's
has_one : (ts : Tags) (tag : TypeTag) (b : Bool) → IsOneTag ts tag → has_tag ts (id_with tag.class b tag.number) ≡ true
has_one (tags.AllBut ts) tag b one = absurd one
has_one (tags.Among ts) tag b one =
    let id = id_with tag.class b tag.number in
    subst (λ (z : List TypeTag). list_any (is_tag_of id) z ≡ true) (sym one.0)
    (first_of_two (is_tag_of id tag) false (both_hold (nat_eq tag.class tag.class) (nat_eq tag.number tag.number)
    (eq-eqb tag.class tag.class refl) (eq-eqb tag.number tag.number refl)))

-- contents octets of these kinds are those of any element
module _ (depth : ℕ) (Sub Same : ℕ → Parts → Value → Type 0) where
  content_moved : (kind : Kind) → is_tagged kind ≡ true → (id : Identifier) (c : List ℕ) (v : Value) →
      id.constructed ≡ constructed_of kind → KindBody strict depth Sub Nowhere kind (plain kind c) v →
      KindBody strict depth Sub Same kind (definite_parts id c) v
  content_moved kinds.Boolean p id c v e a = (a.0, a.1, e, a.3)
  content_moved kinds.Null p id c v e a = (a.0, e, a.2)
  content_moved kinds.Integer p id c v e a = (a.0, a.1, e, a.3)
  content_moved (kinds.Enumerated numbers extensible) p id c v e a = (a.0, a.1, e, a.3, a.4)
  content_moved (kinds.Bits named) p id c v e (o, is, inl s, n) = (o, is, inl (e, s.1), n)
  content_moved (kinds.Bits named) p id c v e (o, is, inr s, n) = absurd (let f = s.0 in cc)
  content_moved kinds.Octets p id c v e (o, is, inl s) = (o, is, inl (e, s.1))
  content_moved kinds.Octets p id c v e (o, is, inr s) = absurd (let f = s.0 in cc)
  content_moved (kinds.Identifier relative) p id c v e a = (a.0, e, a.2, a.3)
  content_moved (kinds.Text kind) p id c v e (o, is, inl s, t) = (o, is, inl (e, s.1), t)
  content_moved (kinds.Text kind) p id c v e (o, is, inr s, t) = absurd (let f = s.0 in cc)
  content_moved (kinds.Time kind) p id c v e (o, is, inl s, t) = (o, is, inl (e, s.1), t)
  content_moved (kinds.Time kind) p id c v e (o, is, inr s, t) = absurd (let f = s.0 in cc)
  content_moved (kinds.Sequence fields unknown) p id c v e a = (a.0, a.1, e, a.3)
  content_moved (kinds.Set fields unknown) p id c v e a = (a.0, a.1, e, a.3)
  content_moved (kinds.SequenceOf t) p id c v e a = (a.0, a.1, e, a.3)
  content_moved (kinds.SetOf t) p id c v e a = (a.0, a.1, e, a.3)
  content_moved (kinds.Explicit t) p id c v e a = (e, a.1)
  content_moved kinds.Any p id c v e a = absurd (cc)
  content_moved (kinds.Choice arms) p id c v e a = absurd (cc)
  content_moved (kinds.Within t lower upper) p id c v e a = absurd (cc)

  content_of : (kind : Kind) → is_tagged kind ≡ true → (p : Parts) (v : Value) →
      KindBody strict depth Sub Same kind p v → KindBody strict depth Sub Nowhere kind (plain kind p.content) v
  content_of kinds.Boolean e p v a = (a.0, a.1, refl, a.3)
  content_of kinds.Null e p v a = (a.0, refl, a.2)
  content_of kinds.Integer e p v a = (a.0, a.1, refl, a.3)
  content_of (kinds.Enumerated numbers extensible) e p v a = (a.0, a.1, refl, a.3, a.4)
  content_of (kinds.Bits named) e p v (o, is, inl s, n) = (o, is, inl (refl, s.1), n)
  content_of (kinds.Bits named) e p v (o, is, inr s, n) = absurd (let f = s.0 in cc)
  content_of kinds.Octets e p v (o, is, inl s) = (o, is, inl (refl, s.1))
  content_of kinds.Octets e p v (o, is, inr s) = absurd (let f = s.0 in cc)
  content_of (kinds.Identifier relative) e p v a = (a.0, refl, a.2, a.3)
  content_of (kinds.Text kind) e p v (o, is, inl s, t) = (o, is, inl (refl, s.1), t)
  content_of (kinds.Text kind) e p v (o, is, inr s, t) = absurd (let f = s.0 in cc)
  content_of (kinds.Time kind) e p v (o, is, inl s, t) = (o, is, inl (refl, s.1), t)
  content_of (kinds.Time kind) e p v (o, is, inr s, t) = absurd (let f = s.0 in cc)
  content_of (kinds.Sequence fields unknown) e p v a = (a.0, a.1, refl, a.3)
  content_of (kinds.Set fields unknown) e p v a = (a.0, a.1, refl, a.3)
  content_of (kinds.SequenceOf t) e p v a = (a.0, a.1, refl, a.3)
  content_of (kinds.SetOf t) e p v a = (a.0, a.1, refl, a.3)
  content_of (kinds.Explicit t) e p v a = (refl, a.1)
  content_of kinds.Any e p v a = absurd (cc)
  content_of (kinds.Choice arms) e p v a = absurd (cc)
  content_of (kinds.Within t lower upper) e p v a = absurd (cc)

body_made : (table : List Node) (depth t : ℕ) (node : Node) (tag : TypeTag) (c : List ℕ) (v : Value) →
    slice_get table t ≡ Some node → IsOneTag node.tags tag → is_tagged node.kind ≡ true →
    IsContentOfKind table depth node.kind c v → Body strict table (suc depth) t
    (definite_parts (id_with tag.class (constructed_of node.kind) tag.number) c) v
unfolding Body Through
body_made table depth t node tag c v found one some a = record {
  node = node;
  found = found;
  tagged = has_one node.tags tag (constructed_of node.kind) one;
  body = content_moved depth (Body strict table depth) (Through strict depth (Body strict table depth) table t) node.kind
      some (id_with tag.class (constructed_of node.kind) tag.number) c v refl a;
}

body_content : (table : List Node) (depth t : ℕ) (node : Node) (p : Parts) (v : Value) → slice_get table t ≡ Some node →
    is_tagged node.kind ≡ true → Body strict table (suc depth) t p v → IsContentOfKind table depth node.kind p.content v
unfolding Body Through
body_content table depth t node p v found some a =
    let same : a.node ≡ node = cc in
    content_of depth (Body strict table depth) (Through strict depth (Body strict table depth) table t) node.kind some p v
    (subst (λ (z : Node). KindBody strict depth (Body strict table depth)
    (Through strict depth (Body strict table depth) table t) z.kind p v) same a.body)

module _ (table : List Node) (depth t : ℕ) (node : Node) (tape : List Item) (at : ℕ) (some : 0 < depth)
    (found : slice_get table t ≡ Some node) (tagged : is_tagged node.kind ≡ true) where
  -- what is no content of a value is no element of one
  pub content_refused : (old new : List ℕ) (e : Fault) →
      Writes (IsContentOfKind table (depth - 1) node.kind) tape at old new (Err e) →
      Writes (Word strict table depth t) tape at old new (Err e)
  content_refused old new e w = (λ is word kept rest h f. by_depth depth some (w.0 is) word kept rest h f, w.1)
    where
      by_depth : (d : ℕ) → 0 < d → NoneAtEnd (IsContentOfKind table (d - 1) node.kind) (before tape at) →
          NoneAtEnd (Word strict table d t) (before tape at)
      by_depth zero l n word kept rest h e = absurd (omega (arith, l))
      by_depth (suc d) l n word kept rest h e =
          let z : suc d - 1 ≡ d = omega arith in
          n h.parts.content kept rest
          (subst (λ (k : ℕ). IsContentOfKind table k node.kind h.parts.content (value_of kept)) (sym z)
          (body_content table d t node h.parts (value_of kept) found tagged h.value)) e

  word_made : (d : ℕ) → 0 < d → (tag : TypeTag) (c word : List ℕ) (v : Value) → IsOneTag node.tags tag →
      IsDerElement word (definite_parts (id_with tag.class (constructed_of node.kind) tag.number) c) →
      IsContentOfKind table (d - 1) node.kind c v → Word strict table d t word v
  word_made zero l tag c word v one element h = absurd (omega (arith, l))
  word_made (suc d) l tag c word v one element h =
      let z : suc d - 1 ≡ d = omega arith in
      record {
        parts = definite_parts (id_with tag.class (constructed_of node.kind) tag.number) c;
        element = element;
        value = body_made table d t node tag c v found one tagged (subst (λ (k : ℕ). IsContentOfKind table k node.kind c v) z h);
      }

  -- what is content of a value, in an element, is a word
  pub element_written : (rest held : ℕ) (old mid new : List ℕ) (constructed : Bool) (r : Result ℕ Fault) →
      Writes (IsContentOfKind table (depth - 1) node.kind) tape at old mid (Ok rest) →
      held ≡ length old → constructed ≡ constructed_of node.kind →
      IfOk r (λ n. (n ≡ rest) × ((tag : TypeTag) × IsOneTag node.tags tag ×
      MakesElement (id_with tag.class constructed tag.number) held mid new)) → IfErr r (λ e. e ≡ faults.Memory) →
      ((content behind : List ℕ) → mid ≡ content ++ behind → held ≡ length behind → Grew behind new) →
      Writes (Word strict table depth t) tape at old new r
  element_written rest held old mid new b (Err e) w l c ok err grew =
      (λ is. absurd (is err), grew w.1.word old w.1.put l)
  element_written rest held old mid new b (Ok n) w l c ok err grew =
      let puts = w.1 in
      let tag = ok.1.0 in
      let made = ok.1.2 puts.word old puts.are_octets puts.put l in
      let element = subst (λ (x : Bool). IsDerElement made.0 (definite_parts (id_with tag.class x tag.number) puts.word)) c
      made.1 in (
        subst (λ (x : ℕ). x ≤ at) (sym ok.0) w.0,
        record {
          word = made.0;
          kept = puts.kept;
          are_octets = definite_element_is_octets der_rule made.0
              (definite_parts (id_with tag.class (constructed_of node.kind) tag.number) puts.word) element;
          holds = word_made depth some tag puts.word made.0 (value_of puts.kept) ok.1.1 element puts.holds;
          taken = subst (λ (x : ℕ). before tape at ≡ before tape x ++ tape_of puts.kept) (sym ok.0) puts.taken;
          put = made.2;
        },
      )

-- a row is the contents octets of a sequence, or of a set
pub row_written : (table : List Node) (depth : ℕ) (fields : Vec Field Global) (unknown : Option ℕ) (tape : List Item) (at : ℕ)
    (old new : List ℕ) (r : Result ℕ Fault) → Writes (IsFieldRow table depth unknown fields.items) tape at old new r →
    Writes (IsContentOfKind table depth (kinds.Sequence fields unknown)) tape at old new r
row_written table depth fields unknown tape at old new r w =
    writes_map (IsFieldRow table depth unknown fields.items)
    (IsContentOfKind table depth (kinds.Sequence fields unknown))
    (λ o v a. (a.0, a.1, refl, a.2)) (λ o v a. (a.0, a.1, a.3)) tape at old new r w

pub any_row_written : (table : List Node) (depth : ℕ) (fields : Vec Field Global) (unknown : Option ℕ)
    (tape : List Item) (at : ℕ) (old new : List ℕ) (r : Result ℕ Fault) →
    Writes (IsFieldSet table depth unknown fields.items) tape at old new r →
    Writes (IsContentOfKind table depth (kinds.Set fields unknown)) tape at old new r
any_row_written table depth fields unknown tape at old new r w =
    writes_map (IsFieldSet table depth unknown fields.items) (IsContentOfKind table depth (kinds.Set fields unknown))
    (λ o v a. (a.0, a.1, refl, a.2)) (λ o v a. (a.0, a.1, a.3)) tape at old new r w

-- and a list those of one
pub list_written : (table : List Node) (depth t : ℕ) (tape : List Item) (at : ℕ)
    (old new : List ℕ) (r : Result ℕ Fault) → Writes (IsList table depth t false) tape at old new r →
    Writes (IsContentOfKind table depth (kinds.SequenceOf t)) tape at old new r
list_written table depth t tape at old new r w =
    writes_map (IsList table depth t false) (IsContentOfKind table depth (kinds.SequenceOf t))
    (λ o v a. (a.0, a.1, refl, a.2)) (λ o v a. (a.0, a.1, a.3)) tape at old new r w

pub set_written : (table : List Node) (depth t : ℕ) (tape : List Item) (at : ℕ)
    (old new : List ℕ) (r : Result ℕ Fault) → Writes (IsList table depth t true) tape at old new r →
    Writes (IsContentOfKind table depth (kinds.SetOf t)) tape at old new r
set_written table depth t tape at old new r w =
    writes_map (IsList table depth t true) (IsContentOfKind table depth (kinds.SetOf t))
    (λ o v a. (a.0, a.1, refl, a.2)) (λ o v a. (a.0, a.1, a.3)) tape at old new r w

-- a word is the contents octets of an explicit tag
pub explicit_written : (table : List Node) (depth t : ℕ) (tape : List Item) (at : ℕ) (old new : List ℕ)
    (r : Result ℕ Fault) → Writes (Word strict table depth t) tape at old new r →
    Writes (IsContentOfKind table depth (kinds.Explicit t)) tape at old new r
explicit_written table depth t tape at old new r w =
    writes_map (Word strict table depth t) (IsContentOfKind table depth (kinds.Explicit t))
    (λ o v a. (refl, record { word = o; says = a; is = sym (append-nil o) }))
    (λ o v a. subst (λ (z : List ℕ). Word strict table depth t z v) (sym (a.1.is ∙ append-nil a.1.word)) a.1.says)
    tape at old new r w
