-- Choices have the elements of their arms.
use Rattle.std.proofs.Common.{◌≡◌, ◌∙◌, ap, sym, subst, refl, ℕ, zero, suc, ◌≤◌, ◌<◌, arith, true, List}
use Rattle.std.specs.Prelude.{Some, slice_get}
use Rattle.std.specs.declared.vec.Vec.{Vec}
use Rattle.std.specs.declared.alloc.Global.{Global}
use Rattle.x690.specs.Elements.{Parts}
use Rattle.asn1_schema.specs.declared.schema.Node.{Node}
use Rattle.asn1_schema.specs.declared.schema.Kind.{Kind}
use Rattle.asn1_schema.specs.declared.schema.Kind.TheVariants as kinds
use Rattle.asn1_schema.specs.Values.{Value, chosen}
use Rattle.asn1_schema.specs.Grammar.{Rules, KindBody, Through, Body, Word}
use Rattle.asn1_schema.specs.Rules.{strict}
use Rattle.asn1_schema.specs.Sound.{is_sound, kind_unambiguous, arms_unambiguous, arms_included, leads_back}
use Rattle.asn1_schema.proofs.Tags.{second_holds, node_told, node_order, arm_before, arm_held, held_at}
use Rattle.asn1_schema.proofs.Strings.{AreLawfulRules}
use Rattle.asn1_schema.proofs.Lawful.{strict_lawful}
use Rattle.asn1_schema.proofs.OneValue.{tag_of_through}

module _ (R : Rules) (lawful : AreLawfulRules R) (depth : ℕ) (Sub : ℕ → Parts → Value → Type 0) where
  kind_longer : (A B : ℕ → Parts → Value → Type 0) → ((t : ℕ) (p : Parts) (v : Value) → A t p v → B t p v) →
      (kind : Kind) (p : Parts) (v : Value) → KindBody R depth Sub A kind p v → KindBody R depth Sub B kind p v
  kind_longer A B f (kinds.Choice arms) p v a = (a.0, a.1, a.2, a.3, a.4, f a.2 p a.1 a.5)
  kind_longer A B f (kinds.Within t lower upper) p v a = (f t p v a.0, a.1)
  kind_longer A B f _ p v a = a

  -- more choices and bounds lead as far
  pub longer : (table : List Node) (k m : ℕ) → k ≤ m → (t : ℕ) (p : Parts) (v : Value) → Through R depth Sub table k t p v →
      Through R depth Sub table m t p v
  unfolding Through
  longer table zero m l t p v a = absurd a
  longer table (suc k) zero l t p v a = absurd (omega (arith, l))
  longer table (suc k) (suc m) l t p v a = record {
    node = a.node;
    found = a.found;
    tagged = a.tagged;
    body = kind_longer (Through R depth Sub table k) (Through R depth Sub table m) (longer table k m (omega (arith, l)))
        a.node.kind p v a.body;
  }

  arm_through : (table : List Node) → is_sound table ≡ true → (t : ℕ) (node : Node) (arms : Vec ℕ Global) (k a : ℕ) →
      slice_get table t ≡ Some node → node.kind ≡ kinds.Choice arms → slice_get arms.items k ≡ Some a →
      (p : Parts) (v : Value) → Through R depth Sub table (suc a) a p v →
      Through R depth Sub table (suc t) t p (chosen k v)
  unfolding Through
  arm_through table sound t node arms k a found is arm p v b =
      let told =
      subst (λ (z : Kind). kind_unambiguous table node.tags z ≡ true) is (node_told table t node sound found) in
      let held = second_holds (arms_unambiguous table arms.items) (arms_included table node.tags arms.items) told in
      let order = subst (λ (z : Kind). leads_back t z ≡ true) is (node_order table t node sound found) in
      let before : a < t = arm_before t arms.items k a order arm in
      record {
        node = node;
        found = found;
        tagged = held_at table node.tags a p.id (arm_held table node.tags arms.items k a held arm)
            (tag_of_through R lawful depth Sub table (suc a) a p v b);
        body = subst (λ (z : Kind). KindBody R depth Sub (Through R depth Sub table t) z p (chosen k v)) (sym is)
            (k, v, a, refl, arm, longer table (suc a) t before a p v b);
      }

-- where types lead to places before their own, each choice leads no further than its place
module _ (table : List Node) (sound : is_sound table ≡ true) (R : Rules) (lawful : AreLawfulRules R) (depth : ℕ)
    (Sub : ℕ → Parts → Value → Type 0) where
  kind_settled : (A B : ℕ → Parts → Value → Type 0) (t : ℕ) (kind : Kind) → leads_back t kind ≡ true →
      ((a : ℕ) → a < t → (p : Parts) (v : Value) → A a p v → B a p v) → (p : Parts) (v : Value) →
      KindBody R depth Sub A kind p v → KindBody R depth Sub B kind p v
  kind_settled A B t (kinds.Choice arms) o f p v a =
      (a.0, a.1, a.2, a.3, a.4, f a.2 (arm_before t arms.items a.0 a.2 o a.4) p a.1 a.5)
  kind_settled A B t (kinds.Within u lower upper) o f p v a = (f u (grind (arith, o)) p v a.0, a.1)
  kind_settled A B t _ o f p v a = a

  pub settled : (k t : ℕ) (p : Parts) (v : Value) → Through R depth Sub table k t p v →
      Through R depth Sub table (suc t) t p v
  unfolding Through
  settled zero t p v a = absurd a
  settled (suc k) t p v a = record {
    node = a.node;
    found = a.found;
    tagged = a.tagged;
    body = kind_settled (Through R depth Sub table k) (Through R depth Sub table t) t a.node.kind
        (node_order table t a.node sound a.found)
        (λ u l q w b. longer R lawful depth Sub table (suc u) t l u q w (settled k u q w b)) p v a.body;
  }

-- so an element of a choice is one of an arm
pub arm_of_body : (R : Rules) → AreLawfulRules R → (table : List Node) → is_sound table ≡ true → (depth t : ℕ) (node : Node)
    (arms : Vec ℕ Global) → slice_get table t ≡ Some node → node.kind ≡ kinds.Choice arms → (p : Parts) (v : Value) →
    Body R table depth t p v → (k : ℕ) × (w : Value) × (a : ℕ) × (v ≡ chosen k w) ×
    (slice_get arms.items k ≡ Some a) × Body R table depth a p w
unfolding Body Through
arm_of_body R lawful table sound zero t node arms found is p v b = absurd b
arm_of_body R lawful table sound (suc depth) t node arms found is p v b =
    let same : b.node ≡ node = cc in
    let kind : b.node.kind ≡ kinds.Choice arms = ap (λ (z : Node). z.kind) same ∙ is in
    let c = subst (λ (z : Kind). KindBody R depth (Body R table depth)
    (Through R depth (Body R table depth) table t) z p v) kind b.body in
    (c.0, c.1, c.2, c.3, c.4, settled table sound R lawful depth (Body R table depth) t c.2 p c.1 c.5)

pub arm_of_word : (table : List Node) → is_sound table ≡ true → (depth t : ℕ) (node : Node) (arms : Vec ℕ Global) →
    slice_get table t ≡ Some node → node.kind ≡ kinds.Choice arms → (o : List ℕ) (v : Value) →
    Word strict table depth t o v → (k : ℕ) × (w : Value) × (a : ℕ) × (v ≡ chosen k w) ×
    (slice_get arms.items k ≡ Some a) × Word strict table depth a o w
arm_of_word table sound depth t node arms found is o v x =
    let c = arm_of_body strict strict_lawful table sound depth t node arms found is x.parts v x.value in
    (c.0, c.1, c.2, c.3, c.4, record { parts = x.parts; element = x.element; value = c.5 })

pub body_arm : (R : Rules) → AreLawfulRules R → (table : List Node) → is_sound table ≡ true → (depth t : ℕ) (node : Node)
    (arms : Vec ℕ Global) (k a : ℕ) → slice_get table t ≡ Some node → node.kind ≡ kinds.Choice arms →
    slice_get arms.items k ≡ Some a → (p : Parts) (v : Value) → Body R table depth a p v → Body R table depth t p (chosen k v)
unfolding Body
body_arm R lawful table sound zero t node arms k a found is arm p v b = absurd b
body_arm R lawful table sound (suc depth) t node arms k a found is arm p v b =
    arm_through R lawful depth (Body R table depth) table sound t node arms k a found is arm p v b

pub word_arm : (table : List Node) → is_sound table ≡ true → (depth t : ℕ) (node : Node) (arms : Vec ℕ Global) (k a : ℕ) →
    slice_get table t ≡ Some node → node.kind ≡ kinds.Choice arms → slice_get arms.items k ≡ Some a →
    (o : List ℕ) (v : Value) → Word strict table depth a o v → Word strict table depth t o (chosen k v)
word_arm table sound depth t node arms k a found is arm o v w = record {
  parts = w.parts;
  element = w.element;
  value = body_arm strict strict_lawful table sound depth t node arms k a found is arm w.parts v w.value;
}
