-- Bounds have the elements of their type whose value is within them.
use Rattle.std.proofs.Common.{◌≡◌, ◌∙◌, ap, sym, subst, ℕ, ℤ, zero, suc, arith, true, List}
use Rattle.std.specs.Prelude.{Option, Some, slice_get}
use Rattle.x690.specs.Elements.{Parts}
use Rattle.asn1_schema.specs.declared.schema.Node.{Node}
use Rattle.asn1_schema.specs.declared.schema.Kind.{Kind}
use Rattle.asn1_schema.specs.declared.schema.Kind.TheVariants as kinds
use Rattle.asn1_schema.specs.Values.{Value, measure}
use Rattle.asn1_schema.specs.Grammar.{Rules, KindBody, Through, Body, IsMeasured}
use Rattle.asn1_schema.specs.Sound.{is_sound, kind_unambiguous}
use Rattle.asn1_schema.proofs.Tags.{node_told, held_at}
use Rattle.asn1_schema.proofs.Strings.{AreLawfulRules}
use Rattle.asn1_schema.proofs.Arms.{longer, settled}
use Rattle.asn1_schema.proofs.OneValue.{tag_of_body}
use Rattle.asn1_schema.proofs.Taken.{bounds_order}

module _ (R : Rules) (lawful : AreLawfulRules R) (table : List Node) (sound : is_sound table ≡ true) (t a : ℕ)
    (lower upper : Option ℤ) (node : Node) (found : slice_get table t ≡ Some node)
    (is : node.kind ≡ kinds.Within a lower upper) where
  pub body_within : (depth : ℕ) (p : Parts) (v : Value) → Body R table depth a p v → IsMeasured lower upper (measure v) →
      Body R table depth t p v
  unfolding Body Through
  body_within zero p v b m = absurd b
  body_within (suc d) p v b m = record {
    node = node;
    found = found;
    tagged = held_at table node.tags a p.id
        (subst (λ (z : Kind). kind_unambiguous table node.tags z ≡ true) is (node_told table t node sound found))
        (tag_of_body R lawful table (suc d) a p v b);
    body = subst (λ (z : Kind). KindBody R d (Body R table d) (Through R d (Body R table d) table t) z p v) (sym is) (
      longer R lawful d (Body R table d) table (suc a) t
          (let l = bounds_order table t a lower upper node sound found is in omega (arith, l)) a p v b,
      m,
    );
  }

  pub within_body : (depth : ℕ) (p : Parts) (v : Value) → Body R table depth t p v →
      Body R table depth a p v × IsMeasured lower upper (measure v)
  unfolding Body Through
  within_body zero p v b = absurd b
  within_body (suc d) p v b =
      let same : b.node ≡ node = cc in
      let c = subst (λ (z : Kind). KindBody R d (Body R table d) (Through R d (Body R table d) table t) z p v)
      (ap (λ (z : Node). z.kind) same ∙ is) b.body in
      (settled table sound R lawful d (Body R table d) t a p v c.0, c.1)
