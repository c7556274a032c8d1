-- Values that are read.
use Rattle.std.proofs.Common.{◌≡◌, ◌≢◌, ◌∙◌, ap, sym, subst, refl, ℕ, zero, suc, ◌+◌, ◌-◌, ◌<◌, inl, inr, Bool, true, false, List, [], ◌∷◌, ◌++◌, arith, append_assoc, length}
use Rattle.std.specs.Prelude.{ℤ, Option, Some, None, slice_get, Result, Ok, Err, OnOk, IfErr}
use Rattle.std.proofs.lemmas.Bool.{cases_lt}
use Rattle.std.proofs.lemmas.List.{append-nil, length-append}
use Rattle.std.specs.declared.vec.Vec.{Vec}
use Rattle.std.specs.declared.alloc.Global.{Global}
use Rattle.x690.specs.Elements.{Parts, BeginsWithElement}
use Rattle.x690.specs.Joined.{NoPrefix}
use Rattle.asn1_headers.specs.Answers.{HasPrefix}
use Rattle.asn1_schema.specs.declared.fault.Fault.{Fault}
use Rattle.asn1_schema.specs.declared.fault.Fault.TheVariants as faults
use Rattle.asn1_schema.specs.declared.coding.Coding.{Coding}
use Rattle.asn1_schema.specs.declared.coding.Coding.TheVariants as codings
use Rattle.asn1_schema.specs.declared.schema.Node.{Node}
use Rattle.asn1_schema.specs.declared.schema.Kind.{Kind}
use Rattle.asn1_schema.specs.declared.schema.Kind.TheVariants as kinds
use Rattle.asn1_schema.specs.declared.tape.Item.{Item}
use Rattle.asn1_schema.specs.Values.{Value, Values, leaf, row, chosen, measure}
use Rattle.asn1_schema.specs.Grammar.{Rules, has_tag, Says, Begins, AreItems, AnyOrder, KindBody, IsOfNode, Through, Body, Word, IsMeasured}
use Rattle.asn1_schema.specs.Tape.{kept_leaf, kept_chosen, Mark, mark, marks, arm_mark, arm_end_mark, value_of, tape_of}
use Rattle.asn1_schema.specs.Sound.{is_sound, HasTagAt, arms_unambiguous, all_before, leads_back}
use Rattle.asn1_schema.specs.Reading.{rules_of, Judges, PutsValue, ReadsValue, JudgesBounds, PutsPrefix, HasNoPrefix, ReadsPrefix, BeginsTagged}
use Rattle.asn1_schema.proofs.Depths.{unless, where_memory}
use Rattle.asn1_schema.proofs.Bounded.{bounds_read}
use Rattle.asn1_schema.proofs.Tags.{node_order, one_arm}
use Rattle.asn1_schema.proofs.Strings.{AreLawfulRules}
use Rattle.asn1_schema.proofs.Lawful.{der_lawful, ber_lawful}
use Rattle.asn1_schema.proofs.OneValue.{same_front, tag_of_body, one_value}
use Rattle.asn1_schema.proofs.Arms.{arm_of_body, body_arm, longer, settled}

pub lawful_of : (e : Coding) → AreLawfulRules (rules_of e)
lawful_of codings.Der = der_lawful
lawful_of (codings.Ber max) = ber_lawful max

pub written_of : (e : Coding) → (rules_of e).defaults_written ≡ true
written_of codings.Der = refl
written_of (codings.Ber max) = refl

-- the arms of a choice stand before it
pub order_of : (table : List Node) (t : ℕ) (node : Node) (arms : Vec ℕ Global) → is_sound table ≡ true →
    slice_get table t ≡ Some node → node.kind ≡ kinds.Choice arms → all_before t arms.items ≡ true
order_of table t node arms sound found is =
    subst (λ (z : Kind). leads_back t z ≡ true) is (node_order table t node sound found)

-- an item more
pub leaf_read : {T : Type 0} (P : Value → Type 0) (old new : List Item) (item : Item) (r : Result T Fault) →
    Judges P (Ok item) → OnOk r (marks new ≡ marks old ++ mark item ∷ []) → IfErr r (λ e. e ≡ faults.Memory) →
    ReadsValue P old new r
leaf_read P old new item (Ok x) j ok err = record {
  kept = kept_leaf j.0;
  holds = j.2;
  is = ok ∙ ap (λ (z : Mark). marks old ++ z ∷ []) j.1;
}
leaf_read P old new item (Err e) j ok err = where_memory e ((v : Value) → P v → ⊥) err

pub leaf_put : {T : Type 0} (P : Value → Type 0) (judged : Result Item Fault) (old new : List Item) (r : Result T Fault) →
    Judges P judged → ((item : Item) → judged ≡ Ok item →
    OnOk r (marks new ≡ marks old ++ mark item ∷ []) × IfErr r (λ e. e ≡ faults.Memory)) →
    ((e : Fault) → judged ≡ Err e → r ≡ Err e) → ReadsValue P old new r
leaf_put P (Ok item) old new r j put refused =
    let a = put item refl in
    leaf_read P old new item r j a.0 a.1
leaf_put {T} P (Err e) old new r j put refused =
    subst (λ (x : Result T Fault). ReadsValue P old new x) (sym (refused e refl)) j

pub no_leaf : (T : Type 0) (P : Value → Type 0) (old : List Item) (e : Fault) → Judges P (Err e) →
    ReadsValue {T = T} P old old (Err e)
no_leaf T P old e j = j

pub no_value : (T : Type 0) (P Q : Value → Type 0) → ((v : Value) → Q v → P v) → (old : List Item) (e : Fault) →
    Judges P (Err e) → ReadsValue {T = T} Q old old (Err e)
no_value T P Q f old e j = unless e ((v : Value) → P v → ⊥) ((v : Value) → Q v → ⊥) (λ n v q. n v (f v q)) j

-- what is judged as one is judged as another with the same values
pub judges_map : (P Q : Value → Type 0) → ((v : Value) → P v → Q v) → ((v : Value) → Q v → P v) →
    (r : Result Item Fault) → Judges P r → Judges Q r
judges_map P Q f g (Ok item) j = (j.0, j.1, f (leaf j.0) j.2)
judges_map P Q f g (Err e) j = unless e ((v : Value) → P v → ⊥) ((v : Value) → Q v → ⊥) (λ n v q. n v (g v q)) j

-- what is read as one is read as another with the same values
pub reads_map : {T : Type 0} (P Q : Value → Type 0) → ((v : Value) → P v → Q v) → ((v : Value) → Q v → P v) →
    (old new : List Item) (r : Result T Fault) → ReadsValue P old new r → ReadsValue Q old new r
reads_map P Q f g old new (Ok x) a = record { kept = a.kept; holds = f (value_of a.kept) a.holds; is = a.is }
reads_map P Q f g old new (Err e) a =
    unless e ((v : Value) → P v → ⊥) ((v : Value) → Q v → ⊥) (λ n v q. n v (g v q)) a

-- Types of a table, by their nodes.
module _ (R : Rules) (table : List Node) where
  body_up : (depth t : ℕ) (p : Parts) (v : Value) → depth ≢ 0 →
      IsOfNode R (depth - 1) (Body R table (depth - 1)) (Through R (depth - 1) (Body R table (depth - 1)) table t) table t p v →
      Body R table depth t p v
  unfolding Body Through
  body_up zero t p v some a = absurd (some refl)
  body_up (suc d) t p v some a =
      let e : suc d - 1 ≡ d = omega arith in
      subst (λ (z : ℕ). IsOfNode R z (Body R table z) (Through R z (Body R table z) table t) table t p v) e a

  body_down : (depth t : ℕ) (p : Parts) (v : Value) → Body R table depth t p v →
      IsOfNode R (depth - 1) (Body R table (depth - 1)) (Through R (depth - 1) (Body R table (depth - 1)) table t) table t p v
  unfolding Body Through
  body_down zero t p v a = absurd a
  body_down (suc d) t p v a =
      let e : d ≡ suc d - 1 = omega arith in
      subst (λ (z : ℕ). IsOfNode R z (Body R table z) (Through R z (Body R table z) table t) table t p v) e a

  -- nothing nests at depth 0
  pub body_some : (depth t : ℕ) (p : Parts) (v : Value) → Body R table depth t p v → depth ≢ 0
  unfolding Body
  body_some zero t p v a e = a
  body_some (suc d) t p v a e = absurd (omega arith)

  -- what is read as the kind of its node is read as its type
  pub reads_up : {T : Type 0} (depth t : ℕ) (p : Parts) (node : Node) (kind : Kind)
      (old new : List Item) (result : Result T Fault) → depth ≢ 0 → slice_get table t ≡ Some node →
      has_tag node.tags p.id ≡ true → node.kind ≡ kind →
      ReadsValue (KindBody R (depth - 1) (Body R table (depth - 1)) (Through R (depth - 1) (Body R table (depth - 1)) table t)
      kind p) old new result → ReadsValue (Body R table depth t p) old new result
  reads_up depth t p node kind old new result some found tagged is a =
      reads_map (KindBody R (depth - 1) (Body R table (depth - 1)) (Through R (depth - 1) (Body R table (depth - 1)) table t)
      kind p) (Body R table depth t p)
      (λ v b. body_up depth t p v some (record {
        node = node;
        found = found;
        tagged = tagged;
        body = subst (λ (k : Kind). KindBody R (depth - 1) (Body R table (depth - 1))
            (Through R (depth - 1) (Body R table (depth - 1)) table t) k p v) (sym is) b;
      }))
      (λ v b. let down = body_down depth t p v b in
      let same : down.node ≡ node = cc in
      subst (λ (k : Kind). KindBody R (depth - 1) (Body R table (depth - 1))
      (Through R (depth - 1) (Body R table (depth - 1)) table t) k p v) (ap (λ (n : Node). n.kind) same ∙ is) down.body)
      old new result a

  -- so what is judged as a leaf of its kind, and put
  pub leaf_up : {T : Type 0} (depth t : ℕ) (p : Parts) (node : Node) (kind : Kind) (judged : Result Item Fault)
      (old new : List Item) (r : Result T Fault) → depth ≢ 0 → slice_get table t ≡ Some node →
      has_tag node.tags p.id ≡ true → node.kind ≡ kind →
      Judges (KindBody R (depth - 1) (Body R table (depth - 1)) (Through R (depth - 1) (Body R table (depth - 1)) table t)
      kind p) judged → ((item : Item) → judged ≡ Ok item →
      OnOk r (marks new ≡ marks old ++ mark item ∷ []) × IfErr r (λ e. e ≡ faults.Memory)) →
      ((e : Fault) → judged ≡ Err e → r ≡ Err e) → ReadsValue (Body R table depth t p) old new r
  leaf_up depth t p node kind judged old new r some found tagged is j put refused =
      reads_up depth t p node kind old new r some found tagged is (leaf_put (KindBody R (depth - 1)
      (Body R table (depth - 1)) (Through R (depth - 1) (Body R table (depth - 1)) table t) kind p) judged old new r j put
      refused)

  -- what is none of its kind is none of its type
  pub kind_refused : (depth t : ℕ) (p : Parts) (node : Node) (kind : Kind) → slice_get table t ≡ Some node →
      node.kind ≡ kind → ((v : Value) → KindBody R (depth - 1) (Body R table (depth - 1))
      (Through R (depth - 1) (Body R table (depth - 1)) table t) kind p v → ⊥) → (v : Value) → Body R table depth t p v → ⊥
  kind_refused depth t p node kind found is n v b =
      let down = body_down depth t p v b in
      let same : down.node ≡ node = cc in
      n v (subst (λ (k : Kind). KindBody R (depth - 1) (Body R table (depth - 1))
      (Through R (depth - 1) (Body R table (depth - 1)) table t) k p v) (ap (λ (n : Node). n.kind) same ∙ is) down.body)

  -- no type is there, or it has other tags
  pub no_type : (depth t : ℕ) (p : Parts) → slice_get table t ≡ None → (v : Value) → Body R table depth t p v → ⊥
  no_type depth t p missing v b =
      let found = (body_down depth t p v b).found in absurd (cc)

  pub other_tag : (depth t : ℕ) (p : Parts) (node : Node) → slice_get table t ≡ Some node →
      has_tag node.tags p.id ≡ false → (v : Value) → Body R table depth t p v → ⊥
  other_tag depth t p node found other v b =
      let down = body_down depth t p v b in
      let same : down.node ≡ node = cc in
      let tagged : has_tag node.tags p.id ≡ true =
      subst (λ (n : Node). has_tag n.tags p.id ≡ true) same down.tagged in
      absurd (cc)

-- a set is read as a row of its type
pub set_read : {T : Type 0} (e : Coding) (Sub : Parts → Value → Type 0) (b : Bool) (octets : List ℕ) (old new : List Item)
    (r : Result T Fault) →
    ReadsValue (λ v. (vs : Values) × (v ≡ row vs) × (b ≡ true) × AreItems (rules_of e) Sub AnyOrder octets vs) old new r →
    ReadsValue (λ v. (vs : Values) × (v ≡ row vs) × (b ≡ true) × AreItems (rules_of e) Sub (rules_of e).Order octets vs)
    old new r
set_read codings.Der Sub b octets old new r a = a
set_read (codings.Ber max) Sub b octets old new r a = a

-- Words.
module _ (R : Rules) (lawful : AreLawfulRules R) where
  -- no tag of a type begins octets whose first element has none
  pub tagged_apart : (table : List Node) (t : ℕ) (octets rest : List ℕ) (p : Parts) →
      HasPrefix R.ElementOf octets p rest →
      (HasTagAt table t p.id → ⊥) → BeginsTagged R table t octets → ⊥
  tagged_apart table t octets rest p f other b =
      let u = same_front R lawful octets b.word f.word b.rest rest b.parts p b.element f.fits b.is f.is in
      other (subst (λ (z : Parts). HasTagAt table t z.id) u.0 b.tagged)

  module _ (Sub : Parts → Value → Type 0) where
    pub no_element : (octets : List ℕ) → NoPrefix R.ElementOf octets → HasNoPrefix (Begins R Sub octets)
    no_element octets n v rest b = n b.word rest b.says.parts b.is b.says.element

    pub front_shorter : (octets rest : List ℕ) (p : Parts) → HasPrefix R.ElementOf octets p rest → length rest < length octets
    front_shorter octets rest p f =
        let l = ap length f.is ∙ length-append f.word rest in
        by_word f.word f.fits l
      where
        by_word : (w : List ℕ) → R.ElementOf w p → length octets ≡ length w + length rest → length rest < length octets
        by_word [] a l = absurd (lawful.one.some p a)
        by_word (x ∷ w) a l = omega (arith, l)

    -- no value begins octets where that of their first element is none
    no_value_no_front : (octets rest : List ℕ) (p : Parts) → HasPrefix R.ElementOf octets p rest →
        ((v : Value) → Sub p v → ⊥) → HasNoPrefix (Begins R Sub octets)
    no_value_no_front octets rest p f n v r b =
        let u = same_front R lawful octets b.word f.word r rest b.says.parts p b.says.element f.fits b.is f.is in
        n v (subst (λ (z : Parts). Sub z v) u.0 b.says.value)

    pub front_read : (octets rest : List ℕ) (p : Parts) (old new : List Item) →
        HasPrefix R.ElementOf octets p rest → PutsValue (Sub p) old new → PutsPrefix (Begins R Sub octets) old new rest
    front_read octets rest p old new f a = record {
      kept = a.kept;
      holds = record { word = f.word; says = record { parts = p; element = f.fits; value = a.holds }; is = f.is };
      is = a.is;
    }

    pub front_refused : (T : Type 0) (octets rest : List ℕ) (p : Parts) (old mid new : List Item) (e : Fault) →
        HasPrefix R.ElementOf octets p rest → ReadsValue {T = T} (Sub p) old mid (Err e) →
        ReadsPrefix (Begins R Sub octets) old new (Err e)
    front_refused T octets rest p old mid new e f a =
        unless e ((v : Value) → Sub p v → ⊥) (HasNoPrefix (Begins R Sub octets)) (no_value_no_front octets rest p f) a

    -- the word that the octets are
    pub whole_read : (octets rest : List ℕ) (old new : List Item) → rest ≡ [] →
        PutsPrefix (Begins R Sub octets) old new rest → PutsValue (Says R Sub octets) old new
    whole_read octets rest old new over a = record {
      kept = a.kept;
      holds = subst (λ (z : List ℕ). Says R Sub z (value_of a.kept))
          (sym (append-nil a.holds.word) ∙ (ap (λ (z : List ℕ). a.holds.word ++ z) (sym over) ∙ sym a.holds.is)) a.holds.says;
      is = a.is;
    }

    pub not_whole : (octets rest : List ℕ) (old new : List Item) → (rest ≡ [] → ⊥) →
        PutsPrefix (Begins R Sub octets) old new rest → (v : Value) → Says R Sub octets v → ⊥
    not_whole octets rest old new some a v b =
        let u = same_front R lawful octets a.holds.word octets rest [] a.holds.says.parts b.parts a.holds.says.element
        b.element a.holds.is (sym (append-nil octets)) in
        some u.1

    pub whole_refused : (T : Type 0) (octets : List ℕ) (old mid new : List Item) (e : Fault) →
        ReadsPrefix (Begins R Sub octets) old mid (Err e) → ReadsValue {T = T} (Says R Sub octets) old new (Err e)
    whole_refused T octets old mid new e a =
        unless e (HasNoPrefix (Begins R Sub octets)) ((v : Value) → Says R Sub octets v → ⊥)
        (λ n v b. n v [] (record { word = octets; says = b; is = sym (append-nil octets) })) a

    -- a word is the contents octets of an explicit tag
    pub explicit_read : {T : Type 0} (b : Bool) (octets : List ℕ) (old new : List Item) (r : Result T Fault) → b ≡ true →
        ReadsValue (Says R Sub octets) old new r →
        ReadsValue (λ v. (b ≡ true) × Begins R Sub octets v []) old new r
    explicit_read b octets old new r c a =
        reads_map (Says R Sub octets) (λ v. (b ≡ true) × Begins R Sub octets v [])
        (λ v s. (c, record { word = octets; says = s; is = sym (append-nil octets) }))
        (λ v s. subst (λ (z : List ℕ). Says R Sub z v) (sym (s.1.is ∙ append-nil s.1.word)) s.1.says) old new r a

  -- Choices.
  module _ (table : List Node) (depth : ℕ) (arms : List ℕ) where
    pub no_arm : (p : Parts) → ((k t : ℕ) → slice_get arms k ≡ Some t → HasTagAt table t p.id → ⊥) → (v : Value) →
        (k : ℕ) × (w : Value) × (a : ℕ) × (v ≡ chosen k w) × (slice_get arms k ≡ Some a) × Body R table depth a p w → ⊥
    no_arm p n v b = n b.0 b.2 b.4 (tag_of_body R lawful table depth b.2 p b.1 b.5)

    pub arm_read : {T : Type 0} (p : Parts) (k t : ℕ) (old mid made new : List Item) (r : Result T Fault) →
        slice_get arms k ≡ Some t → marks mid ≡ marks old ++ arm_mark k ∷ [] →
        PutsValue (Body R table depth t p) mid made → OnOk r (marks new ≡ marks made ++ arm_end_mark k ∷ []) →
        IfErr r (λ e. e ≡ faults.Memory) →
        ReadsValue (λ v. (k : ℕ) × (w : Value) × (a : ℕ) × (v ≡ chosen k w) × (slice_get arms k ≡ Some a) ×
        Body R table depth a p w) old new r
    arm_read p k t old mid made new (Ok x) found first a last err = record {
      kept = kept_chosen k a.kept;
      holds = (k, value_of a.kept, t, refl, found, a.holds);
      is = last ∙ (ap (λ (z : List Mark). z ++ arm_end_mark k ∷ []) (a.is ∙ ap (λ (z : List Mark). z ++ tape_of a.kept) first)
          ∙ (ap (λ (z : List Mark). z ++ arm_end_mark k ∷ []) (append_assoc (marks old) (arm_mark k ∷ []) (tape_of a.kept))
          ∙ append_assoc (marks old) (arm_mark k ∷ tape_of a.kept) (arm_end_mark k ∷ [])));
    }
    arm_read p k t old mid made new (Err e) found first a last err = where_memory e _ err

    pub arm_refused : (T U : Type 0) (p : Parts) (k t : ℕ) (old mid made new : List Item) (e : Fault) →
        arms_unambiguous table arms ≡ true → slice_get arms k ≡ Some t → HasTagAt table t p.id →
        ReadsValue {T = U} (Body R table depth t p) mid made (Err e) →
        ReadsValue {T = T} (λ v. (k : ℕ) × (w : Value) × (a : ℕ) × (v ≡ chosen k w) × (slice_get arms k ≡ Some a) ×
        Body R table depth a p w) old new (Err e)
    arm_refused T U p k t old mid made new e told found tagged a = unless e _ _ (λ n v b.
        let same : b.0 ≡ k = one_arm table arms b.0 k b.2 t p.id told b.4 found
        (tag_of_body R lawful table depth b.2 p b.1 b.5) tagged in
        let there : slice_get arms k ≡ Some b.2 = subst (λ (z : ℕ). slice_get arms z ≡ Some b.2) same b.4 in
        let type : b.2 ≡ t = cc in
        n b.1 (subst (λ (z : ℕ). Body R table depth z p b.1) type b.5)) a

  -- a value of an arm is one of the choice
  pub choice_read : {T : Type 0} (table : List Node) → is_sound table ≡ true → (depth t : ℕ) (node : Node)
      (arms : Vec ℕ Global) → slice_get table t ≡ Some node → node.kind ≡ kinds.Choice arms → (p : Parts)
      (old new : List Item) (r : Result T Fault) →
      ReadsValue (λ v. (k : ℕ) × (w : Value) × (a : ℕ) × (v ≡ chosen k w) × (slice_get arms.items k ≡ Some a) ×
      Body R table depth a p w) old new r → ReadsValue (Body R table depth t p) old new r
  choice_read table sound depth t node arms found is p old new r a =
      reads_map (λ v. (k : ℕ) × (w : Value) × (a : ℕ) × (v ≡ chosen k w) × (slice_get arms.items k ≡ Some a) ×
      Body R table depth a p w) (Body R table depth t p)
      (λ v b. subst (Body R table depth t p) (sym b.3)
      (body_arm R lawful table sound depth t node arms b.0 b.2 found is b.4 p b.1 b.5))
      (λ v b. arm_of_body R lawful table sound depth t node arms found is p v b) old new r a

-- none of the arms up to a place
pub arm_next : (P : ℕ → Type 0) (arms : List ℕ) (k : ℕ) →
    ((j : ℕ) → j < k → (t : ℕ) → slice_get arms j ≡ Some t → P t → ⊥) → {u : ℕ} → slice_get arms k ≡ Some u →
    (P u → ⊥) → (j : ℕ) → j < k + 1 → (t : ℕ) → slice_get arms j ≡ Some t → P t → ⊥
arm_next P arms k before {u} e n j l t f h = elim (cases_lt j k) [
  | inl m ↦ before j m t f h
  | inr m ↦
      let same : j ≡ k = omega (arith, l, m) in
      let there : slice_get arms k ≡ Some t = subst (λ (z : ℕ). slice_get arms z ≡ Some t) same f in
      let type : t ≡ u = cc in
      n (subst P type h)
]

-- Bounds: their type stands before them.
module _ (R : Rules) (lawful : AreLawfulRules R) (table : List Node) (sound : is_sound table ≡ true) where
  within_up : (depth t a : ℕ) (p : Parts) (v : Value) → depth ≢ 0 → a < t → Body R table depth a p v →
      Through R (depth - 1) (Body R table (depth - 1)) table t a p v
  unfolding Body
  within_up zero t a p v some l b = absurd (some refl)
  within_up (suc d) t a p v some l b =
      let e : d ≡ suc d - 1 = omega arith in
      subst (λ (z : ℕ). Through R z (Body R table z) table t a p v) e
      (longer R lawful d (Body R table d) table (suc a) t (omega (arith, l)) a p v b)

  within_down : (depth t a : ℕ) (p : Parts) (v : Value) → depth ≢ 0 →
      Through R (depth - 1) (Body R table (depth - 1)) table t a p v → Body R table depth a p v
  unfolding Body
  within_down zero t a p v some b = absurd (some refl)
  within_down (suc d) t a p v some b =
      let e : suc d - 1 ≡ d = omega arith in
      settled table sound R lawful d (Body R table d) t a p v
      (subst (λ (z : ℕ). Through R z (Body R table z) table t a p v) e b)

  pub within_read : {T : Type 0} (depth t a : ℕ) (lower upper : Option ℤ) (p : Parts) (old new : List Item)
      (r : Result T Fault) → depth ≢ 0 → a < t →
      ReadsValue (λ v. Body R table depth a p v × IsMeasured lower upper (measure v)) old new r →
      ReadsValue (KindBody R (depth - 1) (Body R table (depth - 1)) (Through R (depth - 1) (Body R table (depth - 1)) table t)
      (kinds.Within a lower upper) p) old new r
  within_read depth t a lower upper p old new r some l x =
      reads_map (λ v. Body R table depth a p v × IsMeasured lower upper (measure v))
      (KindBody R (depth - 1) (Body R table (depth - 1)) (Through R (depth - 1) (Body R table (depth - 1)) table t)
      (kinds.Within a lower upper) p)
      (λ v b. (within_up depth t a p v some l b.0, b.1)) (λ v b. (within_down depth t a p v some b.0, b.1)) old new r x

  pub within_judged : {T : Type 0} (depth a : ℕ) (lower upper : Option ℤ) (p : Parts) (old new : List Item)
      (r : Result T Fault) (x : PutsValue (Body R table depth a p) old new) →
      JudgesBounds lower upper (measure (value_of x.kept)) r →
      ReadsValue (λ v. Body R table depth a p v × IsMeasured lower upper (measure v)) old new r
  within_judged depth a lower upper p old new r x j =
      bounds_read (Body R table depth a p) lower upper old new r (one_value R lawful table sound depth a p) x j

pub bounds_order : (table : List Node) (t a : ℕ) (lower upper : Option ℤ) (node : Node) → is_sound table ≡ true →
    slice_get table t ≡ Some node → node.kind ≡ kinds.Within a lower upper → a < t
bounds_order table t a lower upper node sound found is =
    let o = subst (λ (z : Kind). leads_back t z ≡ true) is (node_order table t node sound found) in
    grind (arith, o)

-- Where an element begins the octets, a refusal is final: no word begins them, whatever follows.
pub refused_last : (R : Rules) → AreLawfulRules R → (table : List Node) (depth t : ℕ) (octets behind : List ℕ) →
    NoPrefix (Word R table depth t) octets → BeginsWithElement R.ElementOf octets →
    NoPrefix (Word R table depth t) (octets ++ behind)
refused_last R lawful table depth t octets behind n b = λ word rest v is w.
    let e : octets ++ behind ≡ b.0 ++ (b.1 ++ behind) =
    ap (λ (z : List ℕ). z ++ behind) b.4 ∙ append_assoc b.0 b.1 behind in
    let u = lawful.one.one word b.0 rest (b.1 ++ behind) w.parts b.2 w.element b.3 (sym is ∙ e) in
    n word b.1 v (b.4 ∙ ap (λ (z : List ℕ). z ++ b.1) (sym u.0)) w
