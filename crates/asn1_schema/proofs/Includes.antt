-- Words by one set of rules are words by a laxer one, with the same values.
use Rattle.std.proofs.Common.{◌≡◌, subst, refl, ℕ, zero, suc, ◌≤◌, arith, inl, inr, Bool, true, List, [], ◌∷◌}
use Rattle.std.specs.Prelude.{Option, Some, None}
use Rattle.x690.specs.Elements.{Parts}
use Rattle.x690.specs.Laws.Joined.{joined_map}
use Rattle.asn1_schema.specs.declared.schema.TimeKind.{TimeKind}
use Rattle.asn1_schema.specs.declared.schema.Presence.{Presence}
use Rattle.asn1_schema.specs.declared.schema.Presence.TheVariants as presences
use Rattle.asn1_schema.specs.declared.schema.Field.{Field}
use Rattle.asn1_schema.specs.declared.schema.Node.{Node}
use Rattle.asn1_schema.specs.declared.schema.Kind.{Kind}
use Rattle.asn1_schema.specs.declared.schema.Kind.TheVariants as kinds
use Rattle.asn1_schema.specs.Values.{Value, Values, none, absent, more}
use Rattle.asn1_schema.specs.Grammar.{Rules, Says, Begins, StringOf, IsString, IsUniversal, AllButLast, IsBitContent, of_octets, of_bits, AreEach, AreItems, LeftOut, MayStand, IsThere, AreFields, HasMember, AreMembers, AreSet, KindBody, Through, Body, Word}
use Rattle.asn1_schema.specs.Each.{Each}
use Rattle.asn1_schema.proofs.TakesParts.{each_left, each_joined}

-- what the one rules allow, the others do
pub record Includes (R S : Rules) : Type 0 where
  pub element : (o : List ℕ) (p : Parts) → R.ElementOf o p → S.ElementOf o p
  pub truth : (c : List ℕ) (b : Bool) → R.Truth c b → S.Truth c b
  pub unused : (bs : List Bool) → R.Unused bs → S.Unused bs
  pub named : (bs : List Bool) → R.Named bs → S.Named bs
  pub time : (kind : TimeKind) (o : List ℕ) → R.Time kind o → S.Time kind o
  pub in_pieces : R.in_pieces ≡ true → S.in_pieces ≡ true
  pub inside : (d e : ℕ) (p : Parts) → d ≤ e → R.Inside d p → S.Inside e p
  pub order : (words : List (List ℕ)) → R.Order words → S.Order words
  pub tag_order : (ps : List Parts) → R.TagOrder ps → S.TagOrder ps

-- a value that may stand in a field by the one rules may by the others
abbrev pub MayStill : (R S : Rules) → (Parts → Value → Type 0) → (Parts → Value → Type 0) → Type 0
MayStill R S A B = (presence : Presence) (o : List ℕ) (v : Value) → Says R A o v → MayStand R A presence v →
    MayStand S B presence v

abbrev pub Implies : {V : Type 0} → (Parts → V → Type 0) → (Parts → V → Type 0) → Type 0
Implies {V} A B = (p : Parts) (v : V) → A p v → B p v

-- strings of the one sort are of the other
pub record StringIncludes {A : Type 0} (P Q : StringOf A) : Type 0 where
  pub number : P.number ≡ Q.number
  pub content : (c : List ℕ) (xs : List A) → P.Content c xs → Q.Content c xs
  pub whole : (xs : List A) → P.Whole xs → Q.Whole xs

but_last : {A : Type 0} (P Q : A → Type 0) → ((x : A) → P x → Q x) → (xs : List A) → AllButLast P xs → AllButLast Q xs
but_last P Q f [] a = tt
but_last P Q f (x ∷ []) a = tt
but_last P Q f (x ∷ y ∷ ys) a = (f x a.0, but_last P Q f (y ∷ ys) a.1)

module _ (R S : Rules) (inc : Includes R S) where
  says_more : {V : Type 0} (A B : Parts → V → Type 0) → Implies A B → (o : List ℕ) (v : V) → Says R A o v → Says S B o v
  says_more A B f o v a =
      record { parts = a.parts; element = inc.element o a.parts a.element; value = f a.parts v a.value }

  begins_more : (A B : Parts → Value → Type 0) → Implies A B → (o : List ℕ) (v : Value) (r : List ℕ) →
      Begins R A o v r → Begins S B o v r
  begins_more A B f o v r a = record { word = a.word; says = says_more A B f a.word v a.says; is = a.is }

  string_more : {A : Type 0} (P Q : StringOf A) → StringIncludes P Q → (d e : ℕ) → d ≤ e →
      Implies (IsString R P d) (IsString S Q e)
  string_more P Q f zero e l p xs a = absurd a
  string_more P Q f (suc d) zero l p xs a = absurd (omega (arith, l))
  string_more P Q f (suc d) (suc e) l p xs (inl a) = inl (a.0, f.content p.content xs a.1)
  string_more {A} P Q f (suc d) (suc e) l p xs (inr a) = inr (
    inc.in_pieces a.0,
    a.1,
    a.2,
    a.3,
    but_last P.Whole Q.Whole f.whole a.2 a.4,
    joined_map (Says R (λ q ys. IsUniversal P.number q.id × IsString R P d q ys))
        (Says S (λ q ys. IsUniversal Q.number q.id × IsString S Q e q ys))
        (λ o v b. says_more (λ q ys. IsUniversal P.number q.id × IsString R P d q ys)
        (λ q ys. IsUniversal Q.number q.id × IsString S Q e q ys)
        (λ q ys c. (subst (λ (n : ℕ). IsUniversal n q.id) f.number c.0, string_more P Q f d e (omega (arith, l)) q ys c.1)) o v b)
        p.content a.2 a.5,
  )

  octets_more : (d e : ℕ) → d ≤ e → Implies (IsString R of_octets d) (IsString S of_octets e)
  octets_more = string_more of_octets of_octets
      (record { number = refl; content = λ c xs a. a; whole = λ xs a. a })

  bit_content_more : (c : List ℕ) (bs : List Bool) → IsBitContent R c bs → IsBitContent S c bs
  bit_content_more c bs a = record {
    unused = a.unused;
    octets = a.octets;
    are_octets = a.are_octets;
    few = a.few;
    is = a.is;
    bits = a.bits;
    allowed = inc.unused a.unused a.allowed;
  }

  bits_more : (d e : ℕ) → d ≤ e → Implies (IsString R (of_bits R) d) (IsString S (of_bits S) e)
  bits_more = string_more (of_bits R) (of_bits S)
      (record { number = refl; content = bit_content_more; whole = λ xs a. a })

  each_more : (A B : Parts → Value → Type 0) → Implies A B → (words : List (List ℕ)) (vs : Values) →
      AreEach (Says R A) words vs → AreEach (Says S B) words vs
  each_more A B f [] none a = a
  each_more A B f [] (absent vs) a = a
  each_more A B f [] (more v vs) a = a
  each_more A B f (w ∷ ws) none a = a
  each_more A B f (w ∷ ws) (absent vs) a = a
  each_more A B f (w ∷ ws) (more v vs) a = (says_more A B f w v a.0, each_more A B f ws vs a.1)

  items_more : (A B : Parts → Value → Type 0) → Implies A B → (O T : List (List ℕ) → Type 0) →
      ((words : List (List ℕ)) → O words → T words) → (o : List ℕ) (vs : Values) → AreItems R A O o vs →
      AreItems S B T o vs
  items_more A B f O T g o vs a =
      record { words = a.words; is = a.is; each = each_more A B f a.words vs a.each; order = g a.words a.order }

  there_more : (A B : Parts → Value → Type 0) → Implies A B → MayStill R S A B → (presence : Presence) (F G : List ℕ → Values → Type 0) →
      ((r : List ℕ) (xs : Values) → F r xs → G r xs) → (o : List ℕ) (vs : Values) → IsThere R A presence o vs F →
      IsThere S B presence o vs G
  there_more A B f may presence F G g o none a = a
  there_more A B f may presence F G g o (absent vs) a = a
  there_more A B f may presence F G g o (more v vs) a =
      (a.0, begins_more A B f o v a.0 a.1, may presence a.1.word v a.1.says a.2, g a.0 vs a.3)

  left_more : (A B : Parts → Value → Type 0) → Implies A B → (presence : Presence) (F G : Values → Type 0) →
      ((xs : Values) → F xs → G xs) → (vs : Values) → LeftOut R A presence vs F → LeftOut S B presence vs G
  left_more A B f presences.Required F G g vs a = a
  left_more A B f presences.Optional F G g none a = a
  left_more A B f presences.Optional F G g (absent vs) a = g vs a
  left_more A B f presences.Optional F G g (more v vs) a = a
  left_more A B f (presences.Default d) F G g none a = a
  left_more A B f (presences.Default d) F G g (absent vs) a = a
  left_more A B f (presences.Default d) F G g (more v vs) a = (says_more A B f d.items v a.0, g vs a.1)

  module _ (Sub Tub : ℕ → Parts → Value → Type 0) (sub : (t : ℕ) → Implies (Sub t) (Tub t))
      (may : (t : ℕ) → MayStill R S (Sub t) (Tub t)) where
    fields_more : (unknown : Option ℕ) (fs : List Field) (o : List ℕ) (vs : Values) → AreFields R Sub unknown fs o vs →
        AreFields S Tub unknown fs o vs
    fields_more None [] o vs a = a
    fields_more (Some t) [] o vs a = items_more (Sub t) (Tub t) (sub t) _ _ (λ words b. b) o vs a
    fields_more unknown (f ∷ fs) o vs (inl a) =
        inl (there_more (Sub f.of) (Tub f.of) (sub f.of) (may f.of) f.presence (AreFields R Sub unknown fs)
        (AreFields S Tub unknown fs) (λ r xs b. fields_more unknown fs r xs b) o vs a)
    fields_more unknown (f ∷ fs) o vs (inr a) =
        inr (left_more (Sub f.of) (Tub f.of) (sub f.of) f.presence (AreFields R Sub unknown fs o)
        (AreFields S Tub unknown fs o) (λ xs b. fields_more unknown fs o xs b) vs a)

    each_of_more : (t : ℕ) (es : List Parts) (vs : Values) → AreEach (Sub t) es vs → AreEach (Tub t) es vs
    each_of_more t [] none a = a
    each_of_more t [] (absent vs) a = a
    each_of_more t [] (more v vs) a = a
    each_of_more t (e ∷ es) none a = a
    each_of_more t (e ∷ es) (absent vs) a = a
    each_of_more t (e ∷ es) (more v vs) a = (sub t e v a.0, each_of_more t es vs a.1)

    member_more : (t : ℕ) (presence : Presence) (F G : List Parts → Values → Type 0) →
        ((us : List Parts) (xs : Values) → Each (λ p. (o : List ℕ) × R.ElementOf o p) us → F us xs → G us xs) →
        (es : List Parts) (vs : Values) → Each (λ p. (o : List ℕ) × R.ElementOf o p) es →
        HasMember R (Sub t) presence es vs F → HasMember S (Tub t) presence es vs G
    member_more t presence F G g es none c a = a
    member_more t presence F G g es (absent vs) c a = a
    member_more t presence F G g es (more v vs) c a =
        let u = each_left (λ p. (o : List ℕ) × R.ElementOf o p) es a.0 a.1 a.2 c in (
          a.0,
          a.1,
          a.2,
          sub t a.0 v a.3,
          may t presence u.0.0 v (record { parts = a.0; element = u.0.1; value = a.3 }) a.4,
          g a.1 vs u.1 a.5,
        )

    members_more : (unknown : Option ℕ) (fs : List Field) (es : List Parts) (vs : Values) →
        Each (λ p. (o : List ℕ) × R.ElementOf o p) es → AreMembers R Sub unknown fs es vs →
        AreMembers S Tub unknown fs es vs
    members_more None [] es vs c a = a
    members_more (Some t) [] es vs c a = each_of_more t es vs a
    members_more unknown (f ∷ fs) es vs c (inl a) =
        inl (member_more f.of f.presence (AreMembers R Sub unknown fs) (AreMembers S Tub unknown fs)
        (λ us xs d b. members_more unknown fs us xs d b) es vs c a)
    members_more unknown (f ∷ fs) es vs c (inr a) =
        inr (left_more (Sub f.of) (Tub f.of) (sub f.of) f.presence (AreMembers R Sub unknown fs es)
        (AreMembers S Tub unknown fs es) (λ xs b. members_more unknown fs es xs c b) vs a)

    set_more : (unknown : Option ℕ) (fs : List Field) (o : List ℕ) (vs : Values) → AreSet R Sub unknown fs o vs →
        AreSet S Tub unknown fs o vs
    set_more unknown fs o vs a = record {
      elements = a.elements;
      joins = joined_map R.ElementOf S.ElementOf inc.element o a.elements a.joins;
      members = members_more unknown fs a.elements vs
          (each_joined R.ElementOf (λ p. (o : List ℕ) × R.ElementOf o p) (λ x p b. (x, b)) o a.elements a.joins) a.members;
      order = inc.tag_order a.elements a.order;
    }

    kind_more : (d e : ℕ) → d ≤ e → (Same Tame : ℕ → Parts → Value → Type 0) → ((t : ℕ) → Implies (Same t) (Tame t)) →
        (kind : Kind) → Implies (KindBody R d Sub Same kind) (KindBody S e Tub Tame kind)
    kind_more d e l Same Tame same kinds.Boolean p v a = (a.0, a.1, a.2, inc.truth p.content a.0 a.3)
    kind_more d e l Same Tame same kinds.Null p v a = a
    kind_more d e l Same Tame same kinds.Integer p v a = a
    kind_more d e l Same Tame same (kinds.Enumerated numbers extensible) p v a = a
    kind_more d e l Same Tame same (kinds.Bits named) p v a =
        (a.0, a.1, bits_more (suc d) (suc e) (omega (arith, l)) p a.0 a.2, λ n. inc.named a.0 (a.3 n))
    kind_more d e l Same Tame same kinds.Octets p v a = (a.0, a.1, octets_more (suc d) (suc e) (omega (arith, l)) p a.0 a.2)
    kind_more d e l Same Tame same (kinds.Identifier relative) p v a = a
    kind_more d e l Same Tame same (kinds.Text kind) p v a = (a.0, a.1, octets_more (suc d) (suc e) (omega (arith, l)) p a.0 a.2, a.3)
    kind_more d e l Same Tame same (kinds.Time kind) p v a =
        (a.0, a.1, octets_more (suc d) (suc e) (omega (arith, l)) p a.0 a.2, inc.time kind a.0 a.3)
    kind_more d e l Same Tame same kinds.Any p v a = (a.0, inc.inside d e p l a.1)
    kind_more d e l Same Tame same (kinds.Sequence fields unknown) p v a =
        (a.0, a.1, a.2, fields_more unknown fields.items p.content a.0 a.3)
    kind_more d e l Same Tame same (kinds.Set fields unknown) p v a =
        (a.0, a.1, a.2, set_more unknown fields.items p.content a.0 a.3)
    kind_more d e l Same Tame same (kinds.SequenceOf t) p v a =
        (a.0, a.1, a.2, items_more (Sub t) (Tub t) (sub t) _ _ (λ words b. b) p.content a.0 a.3)
    kind_more d e l Same Tame same (kinds.SetOf t) p v a =
        (a.0, a.1, a.2, items_more (Sub t) (Tub t) (sub t) R.Order S.Order inc.order p.content a.0 a.3)
    kind_more d e l Same Tame same (kinds.Choice arms) p v a = (a.0, a.1, a.2, a.3, a.4, same a.2 p a.1 a.5)
    kind_more d e l Same Tame same (kinds.Explicit t) p v a = (a.0, begins_more (Sub t) (Tub t) (sub t) p.content v [] a.1)
    kind_more d e l Same Tame same (kinds.Within t lower upper) p v a = (same t p v a.0, a.1)

    through_more : (d e : ℕ) → d ≤ e → (table : List Node) (k t : ℕ) →
        Implies (Through R d Sub table k t) (Through S e Tub table k t)
    unfolding Through
    through_more d e l table zero t p v a = absurd a
    through_more d e l table (suc k) t p v a = record {
      node = a.node;
      found = a.found;
      tagged = a.tagged;
      body = kind_more d e l (Through R d Sub table k) (Through S e Tub table k) (through_more d e l table k)
          a.node.kind p v a.body;
    }

  module _ (table : List Node) (may : (d e : ℕ) → d ≤ e →
      ((t : ℕ) → Implies (Body R table d t) (Body S table e t)) → (t : ℕ) →
      MayStill R S (Body R table d t) (Body S table e t)) where
    body_more : (d e : ℕ) → d ≤ e → (t : ℕ) → Implies (Body R table d t) (Body S table e t)
    unfolding Body
    body_more zero e l t p v a = absurd a
    body_more (suc d) zero l t p v a = absurd (omega (arith, l))
    body_more (suc d) (suc e) l t p v a =
        let m : d ≤ e = omega (arith, l) in
        through_more (Body R table d) (Body S table e) (body_more d e m) (may d e m (body_more d e m)) d e m table
        (suc t) t p v a

    pub words_more : (d e : ℕ) → d ≤ e → (t : ℕ) (o : List ℕ) (v : Value) → Word R table d t o v → Word S table e t o v
    words_more d e l t o v a = says_more (Body R table d t) (Body S table e t) (body_more d e l t) o v a
