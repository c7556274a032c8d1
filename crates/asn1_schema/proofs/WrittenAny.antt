-- Elements of any type are written.
use Rattle.std.proofs.Common.{◌≡◌, ◌∙◌, ap, sym, subst, refl, ℕ, zero, suc, ◌-◌, ◌<◌, List, [], ◌∷◌, ◌++◌, length, arith, true}
use Rattle.std.specs.Prelude.{Result, Ok}
use Rattle.x690.specs.Octets.{IsOctets}
use Rattle.x690.specs.Rules.{der_rule}
use Rattle.x690.specs.Identifiers.{Identifier}
use Rattle.x690.specs.Elements.{Parts}
use Rattle.x690.specs.Strict.{definite_parts}
use Rattle.x690.specs.Laws.Elements.{definite_element_is_octets}
use Rattle.x690.specs.Laws.Identifiers.{identifier_bounds}
use Rattle.asn1_schema.specs.declared.fault.Fault.{Fault}
use Rattle.asn1_schema.specs.declared.schema.Tags.{Tags}
use Rattle.asn1_schema.specs.declared.schema.Node.{Node}
use Rattle.asn1_schema.specs.declared.schema.Kind.{Kind}
use Rattle.asn1_schema.specs.declared.schema.Kind.TheVariants as kinds
use Rattle.asn1_schema.specs.declared.tape.Item.{Item}
use Rattle.std.specs.Prelude.{Some, slice_get}
use Rattle.asn1_schema.specs.Values.{any, Value, leaf}
use Rattle.asn1_schema.specs.Grammar.{has_tag, Body, Through, KindBody, Word}
use Rattle.asn1_schema.specs.Rules.{strict, IsStrictInside}
use Rattle.asn1_schema.specs.Tape.{leaf_mark, kept_leaf}
use Rattle.asn1_schema.specs.Writing.{before, Writes, IsAny, MayBeAny, MakesElement, NoneAtEnd}
use Rattle.asn1_schema.proofs.WrittenLeaves.{wrong_leaf, writes_map}

-- the form of the length does not count
inside_moved : (depth : ℕ) (p : Parts) → IsStrictInside depth p → IsStrictInside depth (definite_parts p.id p.content)
inside_moved zero p i = i
inside_moved (suc depth) p i = i

same_any : (i j : Identifier) (x y : List ℕ) → leaf (any i x) ≡ leaf (any j y) → (i ≡ j) × (x ≡ y)
same_any i j x y e = (cc, cc)

module _ (ts : Tags) (depth : ℕ) (tape : List Item) (at : ℕ) (id : Identifier) (content : List ℕ)
    (last : (0 < at) × (before tape at ≡ before tape (at - 1) ++ leaf_mark (any id content) ∷ [])) where
  pub not_any : (MayBeAny ts depth id content → ⊥) → NoneAtEnd (IsAny ts depth) (before tape at)
  not_any n = wrong_leaf (IsAny ts depth) tape at (any id content) last.1 (λ o h.
      let same = same_any id h.parts.id content h.parts.content h.value in
      let may : MayBeAny ts depth h.parts.id h.parts.content = (
        (identifier_bounds h.element.header_is.identifier h.parts.id h.element.header_is.identifier_is).0,
        h.tagged,
        inside_moved depth h.parts h.inside,
      ) in
      n (subst (λ (z : Identifier). MayBeAny ts depth z content) (sym same.0)
      (subst (λ (z : List ℕ). MayBeAny ts depth h.parts.id z) (sym same.1) may)))

  pub any_written : MayBeAny ts depth id content → (old mid new : List ℕ) (held : ℕ) → IsOctets content →
      mid ≡ content ++ old → held ≡ length old → MakesElement id held mid new →
      Writes (IsAny ts depth) tape at old new (Ok (at - 1))
  any_written may old mid new held b p h made =
      let m = made content old b p h in (
        omega arith,
        record {
          word = m.0;
          kept = kept_leaf (any id content);
          are_octets = definite_element_is_octets der_rule m.0 (definite_parts id content) m.1;
          holds = record {
            parts = definite_parts id content;
            element = m.1;
            tagged = may.1;
            value = refl;
            inside = may.2;
          };
          taken = last.1;
          put = m.2;
        },
      )

-- an element of any type is one of its type
any_up : (table : List Node) (t : ℕ) (node : Node) → slice_get table t ≡ Some node → node.kind ≡ kinds.Any → (d : ℕ) →
    0 < d → (o : List ℕ) (v : Value) → IsAny node.tags (d - 1) o v → Word strict table d t o v
unfolding Body Through
any_up table t node found is zero l o v a = absurd (omega (arith, l))
any_up table t node found is (suc d) l o v a =
    let z : suc d - 1 ≡ d = omega arith in
    record {
      parts = a.parts;
      element = a.element;
      value = record {
        node = node;
        found = found;
        tagged = a.tagged;
        body = subst (λ (k : Kind). KindBody strict d (Body strict table d) (Through strict d (Body strict table d) table t) k
            a.parts v) (sym is) (a.value, subst (λ (n : ℕ). IsStrictInside n a.parts) z a.inside);
      };
    }

any_down : (table : List Node) (t : ℕ) (node : Node) → slice_get table t ≡ Some node → node.kind ≡ kinds.Any → (d : ℕ) →
    (o : List ℕ) (v : Value) → Word strict table d t o v → IsAny node.tags (d - 1) o v
unfolding Body Through
any_down table t node found is zero o v a = absurd (a.value)
any_down table t node found is (suc d) o v a =
    let z : d ≡ suc d - 1 = omega arith in
    let same : a.value.node ≡ node = cc in
    let body = subst (λ (k : Kind). KindBody strict d (Body strict table d) (Through strict d (Body strict table d) table t) k
    a.parts v) (ap (λ (n : Node). n.kind) same ∙ is) a.value.body in
    record {
      parts = a.parts;
      element = a.element;
      tagged = subst (λ (n : Node). has_tag n.tags a.parts.id ≡ true) same a.value.tagged;
      value = body.0;
      inside = subst (λ (n : ℕ). IsStrictInside n a.parts) z body.1;
    }

pub any_type_written : (table : List Node) (depth t : ℕ) (node : Node) → 0 < depth → slice_get table t ≡ Some node →
    node.kind ≡ kinds.Any → (tape : List Item) (at : ℕ) (old new : List ℕ) (r : Result ℕ Fault) →
    Writes (IsAny node.tags (depth - 1)) tape at old new r → Writes (Word strict table depth t) tape at old new r
any_type_written table depth t node some found is tape at old new r w =
    writes_map (IsAny node.tags (depth - 1)) (Word strict table depth t) (any_up table t node found is depth some)
    (any_down table t node found is depth) tape at old new r w
