-- One value, and one word.
use Rattle.std.proofs.Common.{◌≡◌, ◌∙◌, ap, sym, subst, refl, ℕ, zero, suc, inl, inr, Bool, true, false, List, [], ◌∷◌, ◌++◌}
use Rattle.std.specs.Prelude.{◌||◌, not, Option, Some, None, slice_get, if◌then◌else◌}
use Rattle.std.specs.List.{concat}
use Rattle.std.proofs.lemmas.List.{append_cancel_left}
use Rattle.x690.specs.Elements.{Parts}
use Rattle.x690.specs.Joined.{IsPrefixFree}
use Rattle.x690.specs.Laws.Integers.{integer_content_one_value}
use Rattle.x690.specs.Laws.Joined.{joined_same}
use Rattle.asn1_schema.specs.Each.{Each}
use Rattle.asn1_schema.specs.declared.schema.Tags.{Tags}
use Rattle.asn1_schema.specs.declared.schema.Presence.{Presence}
use Rattle.asn1_schema.specs.declared.schema.Presence.TheVariants as presences
use Rattle.asn1_schema.specs.declared.schema.Field.{Field}
use Rattle.asn1_schema.specs.declared.schema.Node.{Node}
use Rattle.asn1_schema.specs.declared.schema.Kind.{Kind}
use Rattle.asn1_schema.specs.declared.schema.Kind.TheVariants as kinds
use Rattle.asn1_schema.specs.Values.{boolean, integer, enumerated, bits, octets, text, time}
use Rattle.asn1_schema.specs.Values.{Value, Values, leaf, row, chosen, none, absent, more}
use Rattle.asn1_schema.specs.Grammar.{Rules, Says, Begins, has_tag, trimmed, of_octets, of_bits, AreEach, AreItems, AreUnknown, LeftOut, IsThere, AreFields, Takes, HasMember, AreOthers, AreMembers, AreSet, KindBody, Through, Body, Word}
use Rattle.asn1_schema.specs.Sound.{node_at, apart_from, field_unambiguous, may_be_left_out, apart_from_next, apart_from_unknown, arms_unambiguous, arms_included, fields_unambiguous, kind_unambiguous, is_sound, is_single, HasTagAt}
use Rattle.asn1_schema.proofs.Tags.{first_holds, second_holds, of_optional, apart_at, one_arm, node_told}
use Rattle.asn1_schema.proofs.TakesParts.{each_map, each_put, each_left, one_taken}
use Rattle.asn1_schema.proofs.Strings.{AreLawfulRules, HasOneValue, says_front, string_one, one_octets, one_bits}

-- elements have a tag of their type
abbrev pub HasItsTag : List Node → (ℕ → Parts → Value → Type 0) → Type 0
HasItsTag table Sub = (t : ℕ) (p : Parts) (v : Value) → Sub t p v → HasTagAt table t p.id

nothing_in_front : (x y : List ℕ) → x ++ y ≡ [] → x ≡ []
nothing_in_front [] y e = refl
nothing_in_front (n ∷ x) y e = absurd (cc)

nothing_begins : {V : Type 0} (G : List ℕ → V → Type 0) → IsPrefixFree G → (x y : List ℕ) (v : V) → G x v → x ++ y ≡ [] → ⊥
nothing_begins G one x y v a e = one.some v (subst (λ (z : List ℕ). G z v) (nothing_in_front x y e) a)

-- octets are words with one row of values
pub each_one : (G : List ℕ → Value → Type 0) → IsPrefixFree G → (xs ys : List (List ℕ)) (vs ws : Values) → AreEach G xs vs →
    AreEach G ys ws → concat xs ≡ concat ys → (xs ≡ ys) × (vs ≡ ws)
each_one G one [] [] none none a b e = (refl, refl)
each_one G one [] [] none (absent ws) a b e = absurd b
each_one G one [] [] none (more w ws) a b e = absurd b
each_one G one [] ys (absent vs) ws a b e = absurd a
each_one G one [] ys (more v vs) ws a b e = absurd a
each_one G one [] (y ∷ ys) none none a b e = absurd b
each_one G one [] (y ∷ ys) none (absent ws) a b e = absurd b
each_one G one [] (y ∷ ys) none (more w ws) a b e = absurd (nothing_begins G one y (concat ys) w b.0 (sym e))
each_one G one (x ∷ xs) ys none ws a b e = absurd a
each_one G one (x ∷ xs) ys (absent vs) ws a b e = absurd a
each_one G one (x ∷ xs) [] (more v vs) ws a b e = absurd (nothing_begins G one x (concat xs) v a.0 e)
each_one G one (x ∷ xs) (y ∷ ys) (more v vs) none a b e = absurd b
each_one G one (x ∷ xs) (y ∷ ys) (more v vs) (absent ws) a b e = absurd b
each_one G one (x ∷ xs) (y ∷ ys) (more v vs) (more w ws) a b e =
    let u = one.one x y (concat xs) (concat ys) v w a.0 b.0 e in
    let rest : concat xs ≡ concat ys = append_cancel_left y (concat xs) (concat ys)
    (ap (λ (z : List ℕ). z ++ concat xs) (sym u.0) ∙ e) in
    let others = each_one G one xs ys vs ws a.1 b.1 rest in
    let first = u.0 in
    let value = u.1 in
    let words = others.0 in
    let values = others.1 in
    (cc, cc)

module _ (R : Rules) (lawful : AreLawfulRules R) where
  pub some_octets : (x rest : List ℕ) (p : Parts) → R.ElementOf x p → x ++ rest ≡ [] → ⊥
  some_octets x rest p a e = nothing_begins R.ElementOf lawful.one x rest p a e

  -- one element begins octets, and one rest follows
  pub same_front : (o x y r s : List ℕ) (p q : Parts) → R.ElementOf x p → R.ElementOf y q → o ≡ x ++ r → o ≡ y ++ s →
      (p ≡ q) × (r ≡ s)
  same_front o x y r s p q a b e f =
      let u = lawful.one.one x y r s p q a b (sym e ∙ f) in
      (u.1, append_cancel_left y r s (ap (λ (z : List ℕ). z ++ r) (sym u.0) ∙ (sym e ∙ f)))

  pub one_beginning : (Sub : Parts → Value → Type 0) → HasOneValue Sub → (o : List ℕ) (v w : Value) (r s : List ℕ) →
      Begins R Sub o v r → Begins R Sub o w s → (v ≡ w) × (r ≡ s)
  one_beginning Sub one o v w r s a b =
      let u = same_front o a.word b.word r s a.says.parts b.says.parts a.says.element b.says.element a.is b.is in
      (one b.says.parts v w (subst (λ (z : Parts). Sub z v) u.0 a.says.value) b.says.value, u.1)

  pub items_one : (Sub : Parts → Value → Type 0) → HasOneValue Sub → (Order : List (List ℕ) → Type 0) (o : List ℕ)
      (vs ws : Values) → AreItems R Sub Order o vs → AreItems R Sub Order o ws → vs ≡ ws
  items_one Sub one Order o vs ws a b =
      (each_one (Says R Sub) (says_front R lawful Sub one) a.words b.words vs ws a.each b.each (sym a.is ∙ b.is)).1

  default_one : (Sub : Parts → Value → Type 0) → HasOneValue Sub → (d : List ℕ) (v w : Value) → Says R Sub d v →
      Says R Sub d w → v ≡ w
  default_one Sub one d v w a b = ((says_front R lawful Sub one).one d d [] [] v w a b refl).1

  left_one : (Sub : Parts → Value → Type 0) → HasOneValue Sub → (presence : Presence) (Rest : Values → Type 0) →
      ((xs ys : Values) → Rest xs → Rest ys → xs ≡ ys) → (vs ws : Values) → LeftOut R Sub presence vs Rest →
      LeftOut R Sub presence ws Rest → vs ≡ ws
  left_one Sub one presences.Required Rest rest vs ws a b = absurd a
  left_one Sub one presences.Optional Rest rest none ws a b = absurd a
  left_one Sub one presences.Optional Rest rest (more v vs) ws a b = absurd a
  left_one Sub one presences.Optional Rest rest (absent vs) none a b = absurd b
  left_one Sub one presences.Optional Rest rest (absent vs) (more w ws) a b = absurd b
  left_one Sub one presences.Optional Rest rest (absent vs) (absent ws) a b = ap absent (rest vs ws a b)
  left_one Sub one (presences.Default d) Rest rest none ws a b = absurd a
  left_one Sub one (presences.Default d) Rest rest (absent vs) ws a b = absurd a
  left_one Sub one (presences.Default d) Rest rest (more v vs) none a b = absurd b
  left_one Sub one (presences.Default d) Rest rest (more v vs) (absent ws) a b = absurd b
  left_one Sub one (presences.Default d) Rest rest (more v vs) (more w ws) a b =
      let here = default_one Sub one d.items v w a.0 b.0 in
      let there = rest vs ws a.1 b.1 in
      cc

  there_one : (Sub : Parts → Value → Type 0) → HasOneValue Sub → (presence : Presence) (o : List ℕ)
      (Rest : List ℕ → Values → Type 0) → ((r : List ℕ) (xs ys : Values) → Rest r xs → Rest r ys → xs ≡ ys) →
      (vs ws : Values) → IsThere R Sub presence o vs Rest → IsThere R Sub presence o ws Rest → vs ≡ ws
  there_one Sub one presence o Rest rest none ws a b = absurd a
  there_one Sub one presence o Rest rest (absent vs) ws a b = absurd a
  there_one Sub one presence o Rest rest (more v vs) none a b = absurd b
  there_one Sub one presence o Rest rest (more v vs) (absent ws) a b = absurd b
  there_one Sub one presence o Rest rest (more v vs) (more w ws) a b =
      let u = one_beginning Sub one o v w a.0 b.0 a.1 b.1 in
      let here = u.0 in
      let there = rest b.0 vs ws (subst (λ (z : List ℕ). Rest z vs) u.1 a.3) b.3 in
      cc

  -- who is left out may be
  pub left_may : (Sub : Parts → Value → Type 0) (presence : Presence) (Rest : Values → Type 0) (vs : Values) →
      LeftOut R Sub presence vs Rest → may_be_left_out presence ≡ true
  left_may Sub presences.Required Rest vs a = absurd a
  left_may Sub presences.Optional Rest vs a = refl
  left_may Sub (presences.Default d) Rest vs a = refl

  -- and others follow
  pub left_rest : (Sub : Parts → Value → Type 0) (presence : Presence) (Rest : Values → Type 0) (vs : Values) →
      LeftOut R Sub presence vs Rest → (ws : Values) × Rest ws
  left_rest Sub presences.Required Rest vs a = absurd a
  left_rest Sub presences.Optional Rest none a = absurd a
  left_rest Sub presences.Optional Rest (more v vs) a = absurd a
  left_rest Sub presences.Optional Rest (absent vs) a = (vs, a)
  left_rest Sub (presences.Default d) Rest none a = absurd a
  left_rest Sub (presences.Default d) Rest (absent vs) a = absurd a
  left_rest Sub (presences.Default d) Rest (more v vs) a = (vs, a.1)

  -- an element of the field begins the octets
  pub there_begins : (Sub : Parts → Value → Type 0) (presence : Presence) (o : List ℕ) (vs : Values)
      (Rest : List ℕ → Values → Type 0) → IsThere R Sub presence o vs Rest →
      (v : Value) × (rest : List ℕ) × Begins R Sub o v rest
  there_begins Sub presence o none Rest a = absurd a
  there_begins Sub presence o (absent vs) Rest a = absurd a
  there_begins Sub presence o (more v vs) Rest a = (v, a.0, a.1)

  -- an element of the field is there
  pub member_there : (Sub : Parts → Value → Type 0) (presence : Presence) (es : List Parts) (vs : Values)
      (Rest : List Parts → Values → Type 0) → HasMember R Sub presence es vs Rest →
      (e : Parts) × (others : List Parts) × (v : Value) × (ws : Values) × Takes es e others × Sub e v × Rest others ws
  member_there Sub presence es none Rest a = absurd a
  member_there Sub presence es (absent vs) Rest a = absurd a
  member_there Sub presence es (more v vs) Rest a = (a.0, a.1, v, vs, a.2, a.3, a.5)

  module _ (table : List Node) (Sub : ℕ → Parts → Value → Type 0) (tag : HasItsTag table Sub) where
    -- no element of this type begins the octets
    not_begun : (ts : Tags) (t : ℕ) (o : List ℕ) (v : Value) (r : List ℕ) → Begins R (Sub t) o v r →
        apart_from ts (node_at table t) ≡ true → (x rest : List ℕ) (p : Parts) → R.ElementOf x p → o ≡ x ++ rest →
        has_tag ts p.id ≡ true → ⊥
    not_begun ts t o v r a apart x rest p e is h =
        let u = same_front o a.word x r rest a.says.parts p a.says.element e a.is is in
        apart_at table ts t p.id apart
        (subst (λ (z : Parts). HasTagAt table t z.id) u.0 (tag t a.says.parts v a.says.value)) h

    no_unknown : (ts : Tags) (unknown : Option ℕ) (o : List ℕ) (vs : Values) → AreUnknown R Sub unknown o vs →
        apart_from_unknown table ts unknown ≡ true → (x rest : List ℕ) (p : Parts) → R.ElementOf x p → o ≡ x ++ rest →
        has_tag ts p.id ≡ true → ⊥
    no_unknown ts None o vs a apart x rest p e is h = some_octets x rest p e (sym is ∙ a.0)
    no_unknown ts (Some t) o vs a apart x rest p e is h = by_words a.words vs a.is a.each
      where
        by_words : (words : List (List ℕ)) (ws : Values) → o ≡ concat words → AreEach (Says R (Sub t)) words ws → ⊥
        by_words [] ws c d = some_octets x rest p e (sym is ∙ c)
        by_words (w ∷ words) none c d = d
        by_words (w ∷ words) (absent ws) c d = d
        by_words (w ∷ words) (more v ws) c d =
            not_begun ts t o v (concat words) (record { word = w; says = d.0; is = c }) apart x rest p e is h

    -- no element with one of these tags begins the fields
    pub no_next : (ts : Tags) (unknown : Option ℕ) (fs : List Field) (o : List ℕ) (vs : Values) →
        AreFields R Sub unknown fs o vs → apart_from_next false table unknown ts fs ≡ true → (x rest : List ℕ) (p : Parts) →
        R.ElementOf x p → o ≡ x ++ rest → has_tag ts p.id ≡ true → ⊥
    no_next ts unknown [] o vs a apart x rest p e is h = no_unknown ts unknown o vs a apart x rest p e is h
    no_next ts unknown (f ∷ fs) o vs (inl a) apart x rest p e is h =
        let b = there_begins (Sub f.of) f.presence o vs (AreFields R Sub unknown fs) a in
        not_begun ts f.of o b.0 b.1 b.2
        (first_holds (apart_from ts (node_at table f.of)) (not (may_be_left_out f.presence) ||
        apart_from_next false table unknown ts fs) apart) x rest p e is h
    no_next ts unknown (f ∷ fs) o vs (inr a) apart x rest p e is h =
        let b = left_rest (Sub f.of) f.presence (AreFields R Sub unknown fs o) vs a in
        no_next ts unknown fs o b.0 b.1
        (of_optional (may_be_left_out f.presence) (apart_from_next false table unknown ts fs)
        (left_may (Sub f.of) f.presence (AreFields R Sub unknown fs o) vs a)
        (second_holds (apart_from ts (node_at table f.of)) (not (may_be_left_out f.presence) ||
        apart_from_next false table unknown ts fs) apart)) x rest p e is h

    -- a field is not both there and left out
    pub not_two : (unknown : Option ℕ) (f : Field) (fs : List Field) →
        fields_unambiguous false table unknown (f ∷ fs) ≡ true →
        (o : List ℕ) (vs ws : Values) → IsThere R (Sub f.of) f.presence o vs (AreFields R Sub unknown fs) →
        LeftOut R (Sub f.of) f.presence ws (AreFields R Sub unknown fs o) → ⊥
    not_two unknown f fs told o vs ws a b =
        let c = there_begins (Sub f.of) f.presence o vs (AreFields R Sub unknown fs) a in
        let begins = c.2 in
        let h = tag f.of begins.says.parts c.0 begins.says.value in
        let d = left_rest (Sub f.of) f.presence (AreFields R Sub unknown fs o) ws b in
        let apart : field_unambiguous false table unknown (node_at table f.of) fs ≡ true =
        of_optional (may_be_left_out f.presence) (field_unambiguous false table unknown (node_at table f.of) fs)
        (left_may (Sub f.of) f.presence (AreFields R Sub unknown fs o) ws b)
        (first_holds (not (may_be_left_out f.presence) || field_unambiguous false table unknown (node_at table f.of) fs)
        (fields_unambiguous false table unknown fs) told) in
        no_next h.node.tags unknown fs o d.0 d.1
        (subst (λ (z : Option Node). field_unambiguous false table unknown z fs ≡ true) h.found apart)
        begins.word c.1 begins.says.parts begins.says.element begins.is h.tagged

    unknown_one : ((t : ℕ) → HasOneValue (Sub t)) → (unknown : Option ℕ) (o : List ℕ) (vs ws : Values) →
        AreUnknown R Sub unknown o vs → AreUnknown R Sub unknown o ws → vs ≡ ws
    unknown_one one None o vs ws a b = a.1 ∙ sym b.1
    unknown_one one (Some t) o vs ws a b = items_one (Sub t) (one t) _ o vs ws a b

    pub fields_one : ((t : ℕ) → HasOneValue (Sub t)) → (unknown : Option ℕ) (fs : List Field) →
        fields_unambiguous false table unknown fs ≡ true → (o : List ℕ) (vs ws : Values) →
        AreFields R Sub unknown fs o vs →
        AreFields R Sub unknown fs o ws → vs ≡ ws
    fields_one one unknown [] told o vs ws a b = unknown_one one unknown o vs ws a b
    fields_one one unknown (f ∷ fs) told o vs ws (inl a) (inl b) =
        there_one (Sub f.of) (one f.of) f.presence o (AreFields R Sub unknown fs)
        (λ r xs ys. fields_one one unknown fs (second_holds (not (may_be_left_out f.presence) ||
        field_unambiguous false table unknown (node_at table f.of) fs) (fields_unambiguous false table unknown fs) told) r xs ys) vs ws a b
    fields_one one unknown (f ∷ fs) told o vs ws (inl a) (inr b) = absurd (not_two unknown f fs told o vs ws a b)
    fields_one one unknown (f ∷ fs) told o vs ws (inr a) (inl b) = absurd (not_two unknown f fs told o ws vs b a)
    fields_one one unknown (f ∷ fs) told o vs ws (inr a) (inr b) =
        left_one (Sub f.of) (one f.of) f.presence (AreFields R Sub unknown fs o)
        (λ xs ys. fields_one one unknown fs (second_holds (not (may_be_left_out f.presence) ||
        field_unambiguous false table unknown (node_at table f.of) fs) (fields_unambiguous false table unknown fs) told) o xs ys) vs ws a b

    -- Sets: no element of these fields, or of none, has one of these tags.
    no_other : (ts : Tags) (unknown : Option ℕ) (es : List Parts) (vs : Values) → AreOthers Sub unknown es vs →
        apart_from_unknown table ts unknown ≡ true → Each (λ p. has_tag ts p.id ≡ true → ⊥) es
    no_other ts None es vs a apart = subst (Each (λ p. has_tag ts p.id ≡ true → ⊥)) (sym a.0) tt
    no_other ts (Some t) es vs a apart = by_each es vs a
      where
        by_each : (es : List Parts) (ws : Values) → AreEach (Sub t) es ws → Each (λ p. has_tag ts p.id ≡ true → ⊥) es
        by_each [] ws a = tt
        by_each (e ∷ es) none a = absurd a
        by_each (e ∷ es) (absent ws) a = absurd a
        by_each (e ∷ es) (more w ws) a = (apart_at table ts t e.id apart (tag t e w a.0), by_each es ws a.1)

    no_member : (ts : Tags) (unknown : Option ℕ) (fs : List Field) (es : List Parts) (vs : Values) →
        AreMembers R Sub unknown fs es vs → apart_from_next true table unknown ts fs ≡ true →
        Each (λ p. has_tag ts p.id ≡ true → ⊥) es
    no_member ts unknown [] es vs a apart = no_other ts unknown es vs a apart
    no_member ts unknown (f ∷ fs) es vs (inl a) apart =
        let b = member_there (Sub f.of) f.presence es vs (AreMembers R Sub unknown fs) a in
        each_put (λ p. has_tag ts p.id ≡ true → ⊥) es b.0 b.1 b.4
        (apart_at table ts f.of b.0.id (first_holds (apart_from ts (node_at table f.of))
        (apart_from_next true table unknown ts fs) apart) (tag f.of b.0 b.2 b.5))
        (no_member ts unknown fs b.1 b.3 b.6 (second_holds (apart_from ts (node_at table f.of))
        (apart_from_next true table unknown ts fs) apart))
    no_member ts unknown (f ∷ fs) es vs (inr a) apart =
        let b = left_rest (Sub f.of) f.presence (AreMembers R Sub unknown fs es) vs a in
        no_member ts unknown fs es b.0 b.1 (second_holds (apart_from ts (node_at table f.of))
        (apart_from_next true table unknown ts fs) apart)

    -- where an element has a tag of a field, none of those of the fields behind it has one
    pub none_alike : (unknown : Option ℕ) (f : Field) (fs : List Field) → fields_unambiguous true table unknown (f ∷ fs) ≡ true →
        (e : Parts) → HasTagAt table f.of e.id → (es : List Parts) (vs : Values) → AreMembers R Sub unknown fs es vs →
        Each (λ p. HasTagAt table f.of p.id → ⊥) es
    none_alike unknown f fs told e h es vs a =
        each_map (λ p. has_tag h.node.tags p.id ≡ true → ⊥) (λ p. HasTagAt table f.of p.id → ⊥)
        (λ p n g.
        let same : g.node ≡ h.node = (let x = g.found in let y = h.found in cc) in
        n (subst (λ (z : Node). has_tag z.tags p.id ≡ true) same g.tagged)) es
        (no_member h.node.tags unknown fs es vs a
        (subst (λ (z : Option Node). field_unambiguous true table unknown z fs ≡ true) h.found
        (first_holds (field_unambiguous true table unknown (node_at table f.of) fs)
        (fields_unambiguous true table unknown fs) told)))

    others_one : ((t : ℕ) → HasOneValue (Sub t)) → (unknown : Option ℕ) (es : List Parts) (vs ws : Values) →
        AreOthers Sub unknown es vs → AreOthers Sub unknown es ws → vs ≡ ws
    others_one one None es vs ws a b = a.1 ∙ sym b.1
    others_one one (Some t) es vs ws a b = by_each es vs ws a b
      where
        by_each : (es : List Parts) (vs ws : Values) → AreEach (Sub t) es vs → AreEach (Sub t) es ws → vs ≡ ws
        by_each [] none none a b = refl
        by_each [] none (absent ws) a b = absurd b
        by_each [] none (more w ws) a b = absurd b
        by_each [] (absent vs) ws a b = absurd a
        by_each [] (more v vs) ws a b = absurd a
        by_each (e ∷ es) none ws a b = absurd a
        by_each (e ∷ es) (absent vs) ws a b = absurd a
        by_each (e ∷ es) (more v vs) none a b = absurd b
        by_each (e ∷ es) (more v vs) (absent ws) a b = absurd b
        by_each (e ∷ es) (more v vs) (more w ws) a b =
            let here = one t e v w a.0 b.0 in
            let there = by_each es vs ws a.1 b.1 in
            cc

    both_there : (f : Field) → HasOneValue (Sub f.of) → (es : List Parts) (Rest : List Parts → Values → Type 0) →
        ((us : List Parts) (xs : Values) (e : Parts) → HasTagAt table f.of e.id → Rest us xs →
        Each (λ p. HasTagAt table f.of p.id → ⊥) us) →
        ((us : List Parts) (xs ys : Values) → Rest us xs → Rest us ys → xs ≡ ys) → (vs ws : Values) →
        HasMember R (Sub f.of) f.presence es vs Rest → HasMember R (Sub f.of) f.presence es ws Rest → vs ≡ ws
    both_there f one es Rest lack rest none ws a b = absurd a
    both_there f one es Rest lack rest (absent vs) ws a b = absurd a
    both_there f one es Rest lack rest (more v vs) none a b = absurd b
    both_there f one es Rest lack rest (more v vs) (absent ws) a b = absurd b
    both_there f one es Rest lack rest (more v vs) (more w ws) a b =
        let u = one_taken (λ p. HasTagAt table f.of p.id) es a.0 b.0 a.1 b.1 a.2 b.2 (tag f.of a.0 v a.3)
        (lack b.1 ws b.0 (tag f.of b.0 w b.3) b.5) in
        let here = one b.0 v w (subst (λ (z : Parts). Sub f.of z v) u.0 a.3) b.3 in
        let there = rest b.1 vs ws (subst (λ (z : List Parts). Rest z vs) u.1 a.5) b.5 in
        cc

    -- a field of a set is not both there and left out
    not_both_ways : (unknown : Option ℕ) (f : Field) (fs : List Field) → fields_unambiguous true table unknown (f ∷ fs) ≡ true →
        (es : List Parts) (vs ws : Values) → HasMember R (Sub f.of) f.presence es vs (AreMembers R Sub unknown fs) →
        LeftOut R (Sub f.of) f.presence ws (AreMembers R Sub unknown fs es) → ⊥
    not_both_ways unknown f fs told es vs ws a b =
        let c = member_there (Sub f.of) f.presence es vs (AreMembers R Sub unknown fs) a in
        let h = tag f.of c.0 c.2 c.5 in
        let d = left_rest (Sub f.of) f.presence (AreMembers R Sub unknown fs es) ws b in
        (each_left (λ p. HasTagAt table f.of p.id → ⊥) es c.0 c.1 c.4
        (none_alike unknown f fs told c.0 h es d.0 d.1)).0 h

    pub members_one : ((t : ℕ) → HasOneValue (Sub t)) → (unknown : Option ℕ) (fs : List Field) →
        fields_unambiguous true table unknown fs ≡ true → (es : List Parts) (vs ws : Values) →
        AreMembers R Sub unknown fs es vs → AreMembers R Sub unknown fs es ws → vs ≡ ws
    members_one one unknown [] told es vs ws a b = others_one one unknown es vs ws a b
    members_one one unknown (f ∷ fs) told es vs ws (inl a) (inl b) =
        both_there f (one f.of) es (AreMembers R Sub unknown fs)
        (λ us xs e h c. none_alike unknown f fs told e h us xs c)
        (λ us xs ys. members_one one unknown fs (second_holds
        (field_unambiguous true table unknown (node_at table f.of) fs)
        (fields_unambiguous true table unknown fs) told) us xs ys) vs ws a b
    members_one one unknown (f ∷ fs) told es vs ws (inl a) (inr b) = absurd (not_both_ways unknown f fs told es vs ws a b)
    members_one one unknown (f ∷ fs) told es vs ws (inr a) (inl b) = absurd (not_both_ways unknown f fs told es ws vs b a)
    members_one one unknown (f ∷ fs) told es vs ws (inr a) (inr b) =
        left_one (Sub f.of) (one f.of) f.presence (AreMembers R Sub unknown fs es)
        (λ xs ys. members_one one unknown fs (second_holds
        (field_unambiguous true table unknown (node_at table f.of) fs)
        (fields_unambiguous true table unknown fs) told) es xs ys) vs ws a b

    set_one : ((t : ℕ) → HasOneValue (Sub t)) → (unknown : Option ℕ) (fs : List Field) →
        fields_unambiguous true table unknown fs ≡ true → (o : List ℕ) (vs ws : Values) → AreSet R Sub unknown fs o vs →
        AreSet R Sub unknown fs o ws → vs ≡ ws
    set_one one unknown fs told o vs ws a b =
        let same : a.elements ≡ b.elements =
        joined_same R.ElementOf lawful.one o o a.elements b.elements refl a.joins b.joins in
        members_one one unknown fs told b.elements vs ws
        (subst (λ (z : List Parts). AreMembers R Sub unknown fs z vs) same a.members) b.members

    kind_one : ((t : ℕ) → HasOneValue (Sub t)) → (depth : ℕ) (Same : ℕ → Parts → Value → Type 0) →
        HasItsTag table Same → ((t : ℕ) → HasOneValue (Same t)) → (ts : Tags) (kind : Kind) →
        kind_unambiguous table ts kind ≡ true → HasOneValue (KindBody R depth Sub Same kind)
    kind_one one depth Same has same ts kinds.Boolean told p v w a b =
        let e = lawful.truth p.content a.0 b.0 a.3 b.3 in
        a.1 ∙ (ap (λ z. leaf (boolean z)) e ∙ sym b.1)
    kind_one one depth Same has same ts kinds.Null told p v w a b = a.0 ∙ sym b.0
    kind_one one depth Same has same ts kinds.Integer told p v w a b =
        let e = integer_content_one_value a.0 b.0 p.content a.3 b.3 in
        a.1 ∙ (ap (λ z. leaf (integer z)) e ∙ sym b.1)
    kind_one one depth Same has same ts (kinds.Enumerated numbers extensible) told p v w a b =
        let e = integer_content_one_value a.0 b.0 p.content a.3 b.3 in
        a.1 ∙ (ap (λ z. leaf (enumerated z)) e ∙ sym b.1)
    kind_one one depth Same has same ts (kinds.Bits named) told p v w a b =
        let e = string_one R lawful (of_bits R) (one_bits R) (suc depth) p a.0 b.0 a.2 b.2 in
        a.1 ∙ (ap (λ (z : List Bool). leaf (bits (if named then trimmed z else z))) e ∙ sym b.1)
    kind_one one depth Same has same ts kinds.Octets told p v w a b =
        let e = string_one R lawful of_octets one_octets (suc depth) p a.0 b.0 a.2 b.2 in
        a.1 ∙ (ap (λ z. leaf (octets z)) e ∙ sym b.1)
    kind_one one depth Same has same ts (kinds.Identifier relative) told p v w a b = a.0 ∙ sym b.0
    kind_one one depth Same has same ts (kinds.Text kind) told p v w a b =
        let e = string_one R lawful of_octets one_octets (suc depth) p a.0 b.0 a.2 b.2 in
        a.1 ∙ (ap (λ z. leaf (text kind z)) e ∙ sym b.1)
    kind_one one depth Same has same ts (kinds.Time kind) told p v w a b =
        let e = string_one R lawful of_octets one_octets (suc depth) p a.0 b.0 a.2 b.2 in
        a.1 ∙ (ap (λ z. leaf (time kind z)) e ∙ sym b.1)
    kind_one one depth Same has same ts kinds.Any told p v w a b = a.0 ∙ sym b.0
    kind_one one depth Same has same ts (kinds.Sequence fields unknown) told p v w a b =
        let e = fields_one one unknown fields.items (second_holds (is_single ts) (fields_unambiguous false table unknown fields.items)
        told) p.content a.0 b.0 a.3 b.3 in
        a.1 ∙ (ap row e ∙ sym b.1)
    kind_one one depth Same has same ts (kinds.Set fields unknown) told p v w a b =
        let e = set_one one unknown fields.items (second_holds (is_single ts) (fields_unambiguous true table unknown fields.items)
        told) p.content a.0 b.0 a.3 b.3 in
        a.1 ∙ (ap row e ∙ sym b.1)
    kind_one one depth Same has same ts (kinds.SequenceOf t) told p v w a b =
        let e = items_one (Sub t) (one t) _ p.content a.0 b.0 a.3 b.3 in
        a.1 ∙ (ap row e ∙ sym b.1)
    kind_one one depth Same has same ts (kinds.SetOf t) told p v w a b =
        let e = items_one (Sub t) (one t) R.Order p.content a.0 b.0 a.3 b.3 in
        a.1 ∙ (ap row e ∙ sym b.1)
    kind_one one depth Same has same ts (kinds.Choice arms) told p v w a b =
        let k : a.0 ≡ b.0 = one_arm table arms.items a.0 b.0 a.2 b.2 p.id
        (first_holds (arms_unambiguous table arms.items) (arms_included table ts arms.items) told) a.4 b.4
        (has a.2 p a.1 a.5) (has b.2 p b.1 b.5) in
        let found : slice_get arms.items a.0 ≡ Some b.2 =
        subst (λ (z : ℕ). slice_get arms.items z ≡ Some b.2) (sym k) b.4 in
        let t : a.2 ≡ b.2 = cc in
        let e = same b.2 p a.1 b.1 (subst (λ (z : ℕ). Same z p a.1) t a.5) b.5 in
        a.3 ∙ ((ap (λ (z : ℕ). chosen z a.1) k ∙ ap (chosen b.0) e) ∙ sym b.3)
    kind_one one depth Same has same ts (kinds.Explicit t) told p v w a b =
        (one_beginning (Sub t) (one t) p.content v w [] [] a.1 b.1).0
    kind_one one depth Same has same ts (kinds.Within t lower upper) told p v w a b = same t p v w a.0 b.0

  -- an element of a type has one of its tags
  pub tag_of_through : (depth : ℕ) (Sub : ℕ → Parts → Value → Type 0) (table : List Node) (k : ℕ) →
      HasItsTag table (Through R depth Sub table k)
  unfolding Through
  tag_of_through depth Sub table zero t p v a = absurd a
  tag_of_through depth Sub table (suc k) t p v a = record { node = a.node; found = a.found; tagged = a.tagged }

  pub tag_of_body : (table : List Node) (depth : ℕ) → HasItsTag table (Body R table depth)
  unfolding Body
  tag_of_body table zero t p v a = absurd a
  tag_of_body table (suc depth) t p v a = tag_of_through depth (Body R table depth) table (suc t) t p v a

  through_one : (table : List Node) → is_sound table ≡ true → (depth : ℕ) (Sub : ℕ → Parts → Value → Type 0) →
      HasItsTag table Sub → ((t : ℕ) → HasOneValue (Sub t)) → (k t : ℕ) → HasOneValue (Through R depth Sub table k t)
  unfolding Through
  through_one table sound depth Sub tag one zero t p v w a b = absurd a
  through_one table sound depth Sub tag one (suc k) t p v w a b =
      let node : a.node ≡ b.node = cc in
      kind_one table Sub tag one depth (Through R depth Sub table k) (tag_of_through depth Sub table k)
      (through_one table sound depth Sub tag one k) b.node.tags b.node.kind (node_told table t b.node sound b.found)
      p v w (subst (λ (z : Node). KindBody R depth Sub (Through R depth Sub table k) z.kind p v) node a.body) b.body

  -- and one value
  pub one_value : (table : List Node) → is_sound table ≡ true → (depth t : ℕ) → HasOneValue (Body R table depth t)
  unfolding Body
  one_value table sound zero t p v w a b = absurd a
  one_value table sound (suc depth) t p v w a b =
      through_one table sound depth (Body R table depth) (tag_of_body table depth) (one_value table sound depth)
      (suc t) t p v w a b

-- octets begin with one word of a type, which has one value
pub front_of_rules : (R : Rules) → AreLawfulRules R → (table : List Node) → is_sound table ≡ true → (depth t : ℕ) →
    IsPrefixFree (Word R table depth t)
front_of_rules R lawful table sound depth t =
    says_front R lawful (Body R table depth t) (one_value R lawful table sound depth t)
