-- A value has one strict word.
use Rattle.std.proofs.Common.{◌≡◌, ◌∙◌, ap, sym, subst, refl, ℕ, zero, suc, inl, inr, Bool, true, false, List, [], ◌∷◌, ◌++◌, length}
use Rattle.std.specs.Prelude.{Option, Some, None, slice_get, ℤ, if◌then◌else◌}
use Rattle.std.specs.List.{concat}
use Rattle.x690.specs.Identifiers.{Identifier}
use Rattle.x690.specs.Integers.{IsIntegerContent}
use Rattle.x690.specs.Elements.{Parts, IsDerElement}
use Rattle.x690.specs.Lengths.{definite}
use Rattle.x690.specs.Joined.{IsConcatenation}
use Rattle.x690.specs.Laws.Joined.{joined_one}
use Rattle.x690.specs.Strict.{element_octets}
use Rattle.x690.specs.Laws.Integers.{integer_content_unique}
use Rattle.x690.specs.Laws.StrictElements.{der_element_strict, strict_element_octets}
use Rattle.asn1_schema.specs.declared.schema.Tags.{Tags}
use Rattle.asn1_schema.specs.declared.schema.Presence.{Presence}
use Rattle.asn1_schema.specs.declared.schema.Presence.TheVariants as presences
use Rattle.asn1_schema.specs.declared.schema.Field.{Field}
use Rattle.asn1_schema.specs.declared.schema.Node.{Node}
use Rattle.asn1_schema.specs.declared.schema.Kind.{Kind}
use Rattle.asn1_schema.specs.declared.schema.Kind.TheVariants as kinds
use Rattle.asn1_schema.specs.Values.{boolean, integer, enumerated, bits, octets, identifier, text, time, any}
use Rattle.asn1_schema.specs.Values.{Value, Values, leaf, row, chosen, none, absent, more}
use Rattle.asn1_schema.specs.Grammar.{Says, Begins, has_tag, trimmed, of_octets, of_bits, StringOf, IsString, AreEach, AreItems, LeftOut, MayStand, IsThere, AreFields, Takes, HasMember, AreOthers, AreMembers, AreSet, KindBody, Through, Body, Word}
use Rattle.asn1_schema.specs.Each.{Each}
use Rattle.asn1_schema.specs.Rules.{strict, IsStrictTruth, TagsAscend}
use Rattle.asn1_schema.specs.Sound.{is_sound, is_single, fields_unambiguous, kind_unambiguous}
use Rattle.asn1_schema.proofs.Tags.{first_holds, node_told, single_tag}
use Rattle.asn1_schema.proofs.TakesParts.{each_left, ascend_left, one_put, each_joined}
use Rattle.asn1_schema.proofs.BitContents.{one_bit_content}

-- elements with one value have one identifier and one content
abbrev pub SameParts : Parts → Parts → Type 0
SameParts p q = (p.id ≡ q.id) × (p.content ≡ q.content)

abbrev pub HasOneWord : (Parts → Value → Type 0) → Type 0
HasOneWord Sub = (p q : Parts) (v : Value) → Sub p v → Sub q v → SameParts p q

-- these have one word by DER
same_word : (x y : List ℕ) (p q : Parts) → IsDerElement x p → IsDerElement y q → SameParts p q → x ≡ y
same_word x y p q a b s =
    let e = strict_element_octets x p.id p.content (der_element_strict x p a) in
    let f = strict_element_octets y q.id q.content (der_element_strict y q b) in
    e ∙ ((ap (λ (i : Identifier). element_octets i p.content) s.0 ∙
    ap (λ (c : List ℕ). element_octets q.id c) s.1) ∙ sym f)

says_word : (Sub : Parts → Value → Type 0) → HasOneWord Sub → (x y : List ℕ) (v : Value) → Says strict Sub x v →
    Says strict Sub y v → x ≡ y
says_word Sub one x y v a b = same_word x y a.parts b.parts a.element b.element (one a.parts b.parts v a.value b.value)

same_identifier : (i j : Identifier) → i.class ≡ j.class → i.constructed ≡ j.constructed → i.number ≡ j.number → i ≡ j
same_identifier i j c k n = λ d. record { class = c d; constructed = k d; number = n d }

one_truth_content : (a b : Bool) (c d : List ℕ) → a ≡ b → IsStrictTruth c a → IsStrictTruth d b → c ≡ d
one_truth_content true true c d e s t = s ∙ sym t
one_truth_content false false c d e s t = s ∙ sym t
one_truth_content true false c d e s t = absurd (cc)
one_truth_content false true c d e s t = absurd (cc)

-- what begins two inputs with one value, before one rest
one_input : (Sub : Parts → Value → Type 0) → HasOneWord Sub → (o u r s : List ℕ) (v : Value) → Begins strict Sub o v r →
    Begins strict Sub u v s → r ≡ s → o ≡ u
one_input Sub one o u r s v a b e =
    let w = says_word Sub one a.word b.word v a.says b.says in
    a.is ∙ (ap (λ (z : List ℕ). z ++ r) w ∙ (ap (λ (z : List ℕ). b.word ++ z) e ∙ sym b.is))

each_word : (Sub : Parts → Value → Type 0) → HasOneWord Sub → (xs ys : List (List ℕ)) (vs ws : Values) → vs ≡ ws →
    AreEach (Says strict Sub) xs vs → AreEach (Says strict Sub) ys ws → xs ≡ ys
each_word Sub one [] [] vs ws e a b = refl
each_word Sub one [] (y ∷ ys) none none e a b = absurd b
each_word Sub one [] (y ∷ ys) none (absent ws) e a b = absurd b
each_word Sub one [] (y ∷ ys) none (more w ws) e a b = absurd (cc)
each_word Sub one [] (y ∷ ys) (absent vs) ws e a b = absurd a
each_word Sub one [] (y ∷ ys) (more v vs) ws e a b = absurd a
each_word Sub one (x ∷ xs) ys none ws e a b = absurd a
each_word Sub one (x ∷ xs) ys (absent vs) ws e a b = absurd a
each_word Sub one (x ∷ xs) [] (more v vs) none e a b = absurd (cc)
each_word Sub one (x ∷ xs) [] (more v vs) (absent ws) e a b = absurd b
each_word Sub one (x ∷ xs) [] (more v vs) (more w ws) e a b = absurd b
each_word Sub one (x ∷ xs) (y ∷ ys) (more v vs) none e a b = absurd b
each_word Sub one (x ∷ xs) (y ∷ ys) (more v vs) (absent ws) e a b = absurd b
each_word Sub one (x ∷ xs) (y ∷ ys) (more v vs) (more w ws) e a b =
    let here : v ≡ w = cc in
    let there : vs ≡ ws = cc in
    let word : x ≡ y = says_word Sub one x y w (subst (λ (z : Value). Says strict Sub x z) here a.0) b.0 in
    let others : xs ≡ ys = each_word Sub one xs ys vs ws there a.1 b.1 in
    cc

items_word : (Sub : Parts → Value → Type 0) → HasOneWord Sub → (Order : List (List ℕ) → Type 0) (o u : List ℕ)
    (vs ws : Values) → vs ≡ ws → AreItems strict Sub Order o vs → AreItems strict Sub Order u ws → o ≡ u
items_word Sub one Order o u vs ws e a b =
    a.is ∙ (ap concat (each_word Sub one a.words b.words vs ws e a.each b.each) ∙ sym b.is)

there_word : (Sub : Parts → Value → Type 0) → HasOneWord Sub → (presence : Presence) (Rest : List ℕ → Values → Type 0) →
    ((r s : List ℕ) (xs ys : Values) → xs ≡ ys → Rest r xs → Rest s ys → r ≡ s) → (o u : List ℕ) (vs ws : Values) →
    vs ≡ ws → IsThere strict Sub presence o vs Rest → IsThere strict Sub presence u ws Rest → o ≡ u
there_word Sub one presence Rest rest o u none ws e a b = absurd a
there_word Sub one presence Rest rest o u (absent vs) ws e a b = absurd a
there_word Sub one presence Rest rest o u (more v vs) none e a b = absurd b
there_word Sub one presence Rest rest o u (more v vs) (absent ws) e a b = absurd b
there_word Sub one presence Rest rest o u (more v vs) (more w ws) e a b =
    let here : v ≡ w = cc in
    let there : vs ≡ ws = cc in
    one_input Sub one o u a.0 b.0 w (subst (λ (z : Value). Begins strict Sub o z a.0) here a.1) b.1
    (rest a.0 b.0 vs ws there a.3 b.3)

-- a value that may stand is not left out
pub not_left : (Sub : Parts → Value → Type 0) (presence : Presence) (Behind : Values → Type 0) (v : Value) (vs ws : Values) →
    more v vs ≡ ws → MayStand strict Sub presence v → LeftOut strict Sub presence ws Behind → ⊥
not_left Sub presences.Required Behind v vs ws e m b = b
not_left Sub presences.Optional Behind v vs none e m b = b
not_left Sub presences.Optional Behind v vs (absent ws) e m b = absurd (cc)
not_left Sub presences.Optional Behind v vs (more w ws) e m b = b
not_left Sub (presences.Default d) Behind v vs none e m b = b
not_left Sub (presences.Default d) Behind v vs (absent ws) e m b = b
not_left Sub (presences.Default d) Behind v vs (more w ws) e m b =
    let here : w ≡ v = cc in
    elim m [ inl f ↦ absurd (cc) | inr f ↦ f (subst (λ (z : Value). Says strict Sub d.items z) here b.0) ]

-- a value is encoded, or left out: not both
not_there : (Sub : Parts → Value → Type 0) (presence : Presence) (Rest : List ℕ → Values → Type 0)
    (Behind : Values → Type 0) (o : List ℕ) (vs ws : Values) → vs ≡ ws → IsThere strict Sub presence o vs Rest →
    LeftOut strict Sub presence ws Behind → ⊥
not_there Sub presence Rest Behind o none ws e a b = a
not_there Sub presence Rest Behind o (absent vs) ws e a b = a
not_there Sub presence Rest Behind o (more v vs) ws e a b = not_left Sub presence Behind v vs ws e a.2 b

not_member : (Sub : Parts → Value → Type 0) (presence : Presence) (Rest : List Parts → Values → Type 0)
    (Behind : Values → Type 0) (es : List Parts) (vs ws : Values) → vs ≡ ws → HasMember strict Sub presence es vs Rest →
    LeftOut strict Sub presence ws Behind → ⊥
not_member Sub presence Rest Behind es none ws e a b = a
not_member Sub presence Rest Behind es (absent vs) ws e a b = a
not_member Sub presence Rest Behind es (more v vs) ws e a b = not_left Sub presence Behind v vs ws e a.4 b

left_word : {X : Type 0} (Sub : Parts → Value → Type 0) (presence : Presence) (A B : Values → Type 0) (o u : X) →
    ((xs ys : Values) → xs ≡ ys → A xs → B ys → o ≡ u) → (vs ws : Values) → vs ≡ ws →
    LeftOut strict Sub presence vs A → LeftOut strict Sub presence ws B → o ≡ u
left_word Sub presences.Required A B o u rest vs ws e a b = absurd a
left_word Sub presences.Optional A B o u rest none ws e a b = absurd a
left_word Sub presences.Optional A B o u rest (more v vs) ws e a b = absurd a
left_word Sub presences.Optional A B o u rest (absent vs) none e a b = absurd b
left_word Sub presences.Optional A B o u rest (absent vs) (more w ws) e a b = absurd b
left_word Sub presences.Optional A B o u rest (absent vs) (absent ws) e a b =
    let there : vs ≡ ws = cc in rest vs ws there a b
left_word Sub (presences.Default d) A B o u rest none ws e a b = absurd a
left_word Sub (presences.Default d) A B o u rest (absent vs) ws e a b = absurd a
left_word Sub (presences.Default d) A B o u rest (more v vs) none e a b = absurd b
left_word Sub (presences.Default d) A B o u rest (more v vs) (absent ws) e a b = absurd b
left_word Sub (presences.Default d) A B o u rest (more v vs) (more w ws) e a b =
    let there : vs ≡ ws = cc in rest vs ws there a.1 b.1

fields_word : (Sub : ℕ → Parts → Value → Type 0) → ((t : ℕ) → HasOneWord (Sub t)) → (unknown : Option ℕ) (fs : List Field)
    (o u : List ℕ) (vs ws : Values) → vs ≡ ws → AreFields strict Sub unknown fs o vs →
    AreFields strict Sub unknown fs u ws → o ≡ u
fields_word Sub one None [] o u vs ws e a b = a.0 ∙ sym b.0
fields_word Sub one (Some t) [] o u vs ws e a b = items_word (Sub t) (one t) _ o u vs ws e a b
fields_word Sub one unknown (f ∷ fs) o u vs ws e (inl a) (inl b) =
    there_word (Sub f.of) (one f.of) f.presence (AreFields strict Sub unknown fs)
    (λ r s xs ys g c d. fields_word Sub one unknown fs r s xs ys g c d) o u vs ws e a b
fields_word Sub one unknown (f ∷ fs) o u vs ws e (inl a) (inr b) =
    absurd (not_there (Sub f.of) f.presence (AreFields strict Sub unknown fs) (AreFields strict Sub unknown fs u) o vs ws
    e a b)
fields_word Sub one unknown (f ∷ fs) o u vs ws e (inr a) (inl b) =
    absurd (not_there (Sub f.of) f.presence (AreFields strict Sub unknown fs) (AreFields strict Sub unknown fs o) u ws vs
    (sym e) b a)
fields_word Sub one unknown (f ∷ fs) o u vs ws e (inr a) (inr b) =
    left_word (Sub f.of) f.presence (AreFields strict Sub unknown fs o) (AreFields strict Sub unknown fs u) o u
    (λ xs ys g c d. fields_word Sub one unknown fs o u xs ys g c d) vs ws e a b

-- Sets. Elements with one value are the same, where their lengths are definite.
abbrev pub IsDefinite : Parts → Type 0
IsDefinite p = p.form ≡ definite (length p.content)

pub same_element : (p q : Parts) → SameParts p q → IsDefinite p → IsDefinite q → p ≡ q
same_element p q s a b =
    let form : p.form ≡ q.form = a ∙ (ap (λ (c : List ℕ). definite (length c)) s.1 ∙ sym b) in
    λ i. record { id = s.0 i; form = form i; content = s.1 i }

each_element : (Sub : Parts → Value → Type 0) → HasOneWord Sub → (es us : List Parts) (vs ws : Values) → vs ≡ ws →
    Each IsDefinite es → Each IsDefinite us → AreEach Sub es vs → AreEach Sub us ws → es ≡ us
each_element Sub one [] [] vs ws s c d a b = refl
each_element Sub one [] (u ∷ us) none none s c d a b = absurd b
each_element Sub one [] (u ∷ us) none (absent ws) s c d a b = absurd b
each_element Sub one [] (u ∷ us) none (more w ws) s c d a b = absurd (cc)
each_element Sub one [] (u ∷ us) (absent vs) ws s c d a b = absurd a
each_element Sub one [] (u ∷ us) (more v vs) ws s c d a b = absurd a
each_element Sub one (e ∷ es) us none ws s c d a b = absurd a
each_element Sub one (e ∷ es) us (absent vs) ws s c d a b = absurd a
each_element Sub one (e ∷ es) [] (more v vs) none s c d a b = absurd (cc)
each_element Sub one (e ∷ es) [] (more v vs) (absent ws) s c d a b = absurd b
each_element Sub one (e ∷ es) [] (more v vs) (more w ws) s c d a b = absurd b
each_element Sub one (e ∷ es) (u ∷ us) (more v vs) none s c d a b = absurd b
each_element Sub one (e ∷ es) (u ∷ us) (more v vs) (absent ws) s c d a b = absurd b
each_element Sub one (e ∷ es) (u ∷ us) (more v vs) (more w ws) s c d a b =
    let here : v ≡ w = cc in
    let there : vs ≡ ws = cc in
    let first : e ≡ u = same_element e u (one e u w (subst (λ (z : Value). Sub e z) here a.0) b.0) c.0 d.0 in
    let others : es ≡ us = each_element Sub one es us vs ws there c.1 d.1 a.1 b.1 in
    cc

member_element : (Sub : Parts → Value → Type 0) → HasOneWord Sub → (presence : Presence) (es us : List Parts)
    (Rest : List Parts → Values → Type 0) →
    ((fs gs : List Parts) (xs ys : Values) → xs ≡ ys → Each IsDefinite fs → Each IsDefinite gs → TagsAscend fs →
    TagsAscend gs → Rest fs xs → Rest gs ys → fs ≡ gs) → (vs ws : Values) → vs ≡ ws → Each IsDefinite es →
    Each IsDefinite us → TagsAscend es → TagsAscend us → HasMember strict Sub presence es vs Rest →
    HasMember strict Sub presence us ws Rest → es ≡ us
member_element Sub one presence es us Rest rest none ws s c d i j a b = absurd a
member_element Sub one presence es us Rest rest (absent vs) ws s c d i j a b = absurd a
member_element Sub one presence es us Rest rest (more v vs) none s c d i j a b = absurd b
member_element Sub one presence es us Rest rest (more v vs) (absent ws) s c d i j a b = absurd b
member_element Sub one presence es us Rest rest (more v vs) (more w ws) s c d i j a b =
    let here : v ≡ w = cc in
    let there : vs ≡ ws = cc in
    let k = each_left IsDefinite es a.0 a.1 a.2 c in
    let l = each_left IsDefinite us b.0 b.1 b.2 d in
    let first : a.0 ≡ b.0 = same_element a.0 b.0
    (one a.0 b.0 w (subst (λ (z : Value). Sub a.0 z) here a.3) b.3) k.0 l.0 in
    let others = rest a.1 b.1 vs ws there k.1 l.1 (ascend_left None es a.0 a.1 a.2 i) (ascend_left None us b.0 b.1 b.2 j)
    a.5 b.5 in
    one_put es us b.0 a.1 b.1 others (subst (λ (z : Parts). Takes es z a.1) first a.2) b.2 i j

pub others_element : (Sub : ℕ → Parts → Value → Type 0) → ((t : ℕ) → HasOneWord (Sub t)) → (unknown : Option ℕ)
    (es us : List Parts) (vs ws : Values) → vs ≡ ws → Each IsDefinite es → Each IsDefinite us →
    AreOthers Sub unknown es vs → AreOthers Sub unknown us ws → es ≡ us
others_element Sub one None es us vs ws s c d a b = a.0 ∙ sym b.0
others_element Sub one (Some t) es us vs ws s c d a b = each_element (Sub t) (one t) es us vs ws s c d a b

pub members_element : (Sub : ℕ → Parts → Value → Type 0) → ((t : ℕ) → HasOneWord (Sub t)) → (unknown : Option ℕ)
    (fs : List Field) (es us : List Parts) (vs ws : Values) → vs ≡ ws → Each IsDefinite es → Each IsDefinite us →
    TagsAscend es → TagsAscend us → AreMembers strict Sub unknown fs es vs → AreMembers strict Sub unknown fs us ws →
    es ≡ us
members_element Sub one unknown [] es us vs ws s c d i j a b = others_element Sub one unknown es us vs ws s c d a b
members_element Sub one unknown (f ∷ fs) es us vs ws s c d i j (inl a) (inl b) =
    member_element (Sub f.of) (one f.of) f.presence es us (AreMembers strict Sub unknown fs)
    (members_element Sub one unknown fs) vs ws s c d i j a b
members_element Sub one unknown (f ∷ fs) es us vs ws s c d i j (inl a) (inr b) =
    absurd (not_member (Sub f.of) f.presence (AreMembers strict Sub unknown fs) (AreMembers strict Sub unknown fs us) es
    vs ws s a b)
members_element Sub one unknown (f ∷ fs) es us vs ws s c d i j (inr a) (inl b) =
    absurd (not_member (Sub f.of) f.presence (AreMembers strict Sub unknown fs) (AreMembers strict Sub unknown fs es) us
    ws vs (sym s) b a)
members_element Sub one unknown (f ∷ fs) es us vs ws s c d i j (inr a) (inr b) =
    left_word (Sub f.of) f.presence (AreMembers strict Sub unknown fs es) (AreMembers strict Sub unknown fs us) es us
    (λ xs ys g p q. members_element Sub one unknown fs es us xs ys g c d i j p q) vs ws s a b

-- a set of values has one strict word
set_word : (Sub : ℕ → Parts → Value → Type 0) → ((t : ℕ) → HasOneWord (Sub t)) → (unknown : Option ℕ) (fs : List Field)
    (o u : List ℕ) (vs ws : Values) → vs ≡ ws → AreSet strict Sub unknown fs o vs → AreSet strict Sub unknown fs u ws →
    o ≡ u
set_word Sub one unknown fs o u vs ws s a b =
    let same = members_element Sub one unknown fs a.elements b.elements vs ws s
    (each_joined IsDerElement IsDefinite (λ x p d. d.counted) o a.elements a.joins)
    (each_joined IsDerElement IsDefinite (λ x p d. d.counted) u b.elements b.joins) a.order b.order a.members b.members in
    joined_one IsDerElement (λ p x y c d. same_word x y p p c d (refl, refl)) b.elements o u
    (subst (λ (z : List Parts). IsConcatenation IsDerElement o z) same a.joins) b.joins

-- strict strings are primitive
primitive : {A : Type 0} (S : StringOf A) (depth : ℕ) (p : Parts) (xs : List A) → IsString strict S depth p xs →
    (p.id.constructed ≡ false) × S.Content p.content xs
primitive S zero p xs a = absurd a
primitive S (suc depth) p xs (inl a) = a
primitive S (suc depth) p xs (inr a) = absurd (let e = a.0 in cc)

module _ (depth : ℕ) (Sub : ℕ → Parts → Value → Type 0) (one : (t : ℕ) → HasOneWord (Sub t))
    (Same : ℕ → Parts → Value → Type 0) (same : (t : ℕ) → HasOneWord (Same t)) where
  alike : (ts : Tags) (p q : Parts) (b : Bool) → is_single ts ≡ true → has_tag ts p.id ≡ true →
      has_tag ts q.id ≡ true → p.id.constructed ≡ b → q.id.constructed ≡ b → p.content ≡ q.content → SameParts p q
  alike ts p q b s h g c d e =
      let t = single_tag ts p.id q.id s h g in
      (same_identifier p.id q.id t.0 (c ∙ sym d) t.1, e)

  -- strings of octets with one value
  alike_octets : (ts : Tags) (p q : Parts) (o u : List ℕ) → is_single ts ≡ true → has_tag ts p.id ≡ true →
      has_tag ts q.id ≡ true → o ≡ u → IsString strict of_octets (suc depth) p o →
      IsString strict of_octets (suc depth) q u → SameParts p q
  alike_octets ts p q o u s h g e a b =
      let c = primitive of_octets (suc depth) p o a in
      let d = primitive of_octets (suc depth) q u b in
      alike ts p q false s h g c.0 d.0 (sym c.1 ∙ (e ∙ d.1))

  -- strings of bits
  alike_bits : (ts : Tags) (p q : Parts) (o u : List Bool) → is_single ts ≡ true → has_tag ts p.id ≡ true →
      has_tag ts q.id ≡ true → o ≡ u → IsString strict (of_bits strict) (suc depth) p o →
      IsString strict (of_bits strict) (suc depth) q u → SameParts p q
  alike_bits ts p q o u s h g e a b =
      let c = primitive (of_bits strict) (suc depth) p u
      (subst (λ (z : List Bool). IsString strict (of_bits strict) (suc depth) p z) e a) in
      let d = primitive (of_bits strict) (suc depth) q u b in
      alike ts p q false s h g c.0 d.0 (one_bit_content u p.content q.content c.1 d.1)

  one_named : (named : Bool) (xs ys : List Bool) → (named ≡ true → trimmed xs ≡ xs) → (named ≡ true → trimmed ys ≡ ys) →
      (if named then trimmed xs else xs) ≡ (if named then trimmed ys else ys) → xs ≡ ys
  one_named true xs ys a b e = sym (a refl) ∙ (e ∙ b refl)
  one_named false xs ys a b e = e

  kind_word : (table : List Node) (ts : Tags) (kind : Kind) → kind_unambiguous table ts kind ≡ true →
      (p q : Parts) (v : Value) → has_tag ts p.id ≡ true → has_tag ts q.id ≡ true →
      KindBody strict depth Sub Same kind p v → KindBody strict depth Sub Same kind q v → SameParts p q
  kind_word table ts kinds.Boolean told p q v h g a b =
      let e : leaf (boolean a.0) ≡ leaf (boolean b.0) = sym a.1 ∙ b.1 in
      let x : a.0 ≡ b.0 = cc in
      alike ts p q false told h g a.2 b.2 (one_truth_content a.0 b.0 p.content q.content x a.3 b.3)
  kind_word table ts kinds.Null told p q v h g a b = alike ts p q false told h g a.1 b.1 (a.2 ∙ sym b.2)
  kind_word table ts kinds.Integer told p q v h g a b =
      let e : leaf (integer a.0) ≡ leaf (integer b.0) = sym a.1 ∙ b.1 in
      let x : a.0 ≡ b.0 = cc in
      alike ts p q false told h g a.2 b.2 (integer_content_unique a.0 p.content q.content a.3
      (subst (λ (z : ℤ). IsIntegerContent z q.content) (sym x) b.3))
  kind_word table ts (kinds.Enumerated numbers extensible) told p q v h g a b =
      let e : leaf (enumerated a.0) ≡ leaf (enumerated b.0) = sym a.1 ∙ b.1 in
      let x : a.0 ≡ b.0 = cc in
      alike ts p q false told h g a.2 b.2 (integer_content_unique a.0 p.content q.content a.3
      (subst (λ (z : ℤ). IsIntegerContent z q.content) (sym x) b.3))
  kind_word table ts (kinds.Bits named) told p q v h g a b =
      let e : leaf (bits (if named then trimmed a.0 else a.0)) ≡ leaf (bits (if named then trimmed b.0 else b.0)) =
      sym a.1 ∙ b.1 in
      let x : (if named then trimmed a.0 else a.0) ≡ (if named then trimmed b.0 else b.0) = cc in
      alike_bits ts p q a.0 b.0 told h g (one_named named a.0 b.0 a.3 b.3 x) a.2 b.2
  kind_word table ts kinds.Octets told p q v h g a b =
      let e : leaf (octets a.0) ≡ leaf (octets b.0) = sym a.1 ∙ b.1 in
      let x : a.0 ≡ b.0 = cc in
      alike_octets ts p q a.0 b.0 told h g x a.2 b.2
  kind_word table ts (kinds.Identifier relative) told p q v h g a b =
      let e : leaf (identifier relative p.content) ≡ leaf (identifier relative q.content) = sym a.0 ∙ b.0 in
      let x : p.content ≡ q.content = cc in
      alike ts p q false told h g a.1 b.1 x
  kind_word table ts (kinds.Text kind) told p q v h g a b =
      let e : leaf (text kind a.0) ≡ leaf (text kind b.0) = sym a.1 ∙ b.1 in
      let x : a.0 ≡ b.0 = cc in
      alike_octets ts p q a.0 b.0 told h g x a.2 b.2
  kind_word table ts (kinds.Time kind) told p q v h g a b =
      let e : leaf (time kind a.0) ≡ leaf (time kind b.0) = sym a.1 ∙ b.1 in
      let x : a.0 ≡ b.0 = cc in
      alike_octets ts p q a.0 b.0 told h g x a.2 b.2
  kind_word table ts kinds.Any told p q v h g a b =
      let e : leaf (any p.id p.content) ≡ leaf (any q.id q.content) = sym a.0 ∙ b.0 in
      let i : p.id ≡ q.id = cc in
      let x : p.content ≡ q.content = cc in
      (i, x)
  kind_word table ts (kinds.Sequence fields unknown) told p q v h g a b =
      let e : row a.0 ≡ row b.0 = sym a.1 ∙ b.1 in
      let x : a.0 ≡ b.0 = cc in
      alike ts p q true (first_holds (is_single ts) (fields_unambiguous false table unknown fields.items) told) h g a.2
      b.2
      (fields_word Sub one unknown fields.items p.content q.content a.0 b.0 x a.3 b.3)
  kind_word table ts (kinds.Set fields unknown) told p q v h g a b =
      let e : row a.0 ≡ row b.0 = sym a.1 ∙ b.1 in
      let x : a.0 ≡ b.0 = cc in
      alike ts p q true (first_holds (is_single ts) (fields_unambiguous true table unknown fields.items) told) h g a.2
      b.2
      (set_word Sub one unknown fields.items p.content q.content a.0 b.0 x a.3 b.3)
  kind_word table ts (kinds.SequenceOf t) told p q v h g a b =
      let e : row a.0 ≡ row b.0 = sym a.1 ∙ b.1 in
      let x : a.0 ≡ b.0 = cc in
      alike ts p q true told h g a.2 b.2 (items_word (Sub t) (one t) _ p.content q.content a.0 b.0 x a.3 b.3)
  kind_word table ts (kinds.SetOf t) told p q v h g a b =
      let e : row a.0 ≡ row b.0 = sym a.1 ∙ b.1 in
      let x : a.0 ≡ b.0 = cc in
      alike ts p q true told h g a.2 b.2 (items_word (Sub t) (one t) strict.Order p.content q.content a.0 b.0 x a.3 b.3)
  kind_word table ts (kinds.Choice arms) told p q v h g a b =
      let e : chosen a.0 a.1 ≡ chosen b.0 b.1 = sym a.3 ∙ b.3 in
      let k : a.0 ≡ b.0 = cc in
      let w : a.1 ≡ b.1 = cc in
      let there : slice_get arms.items b.0 ≡ Some a.2 = subst (λ (z : ℕ). slice_get arms.items z ≡ Some a.2) k a.4 in
      let found = b.4 in
      let type : a.2 ≡ b.2 = cc in
      same b.2 p q b.1 (subst (λ (z : Value). Same b.2 p z) w (subst (λ (z : ℕ). Same z p a.1) type a.5)) b.5
  kind_word table ts (kinds.Explicit t) told p q v h g a b =
      alike ts p q true told h g a.0 b.0 (one_input (Sub t) (one t) p.content q.content [] [] v a.1 b.1 refl)
  kind_word table ts (kinds.Within t lower upper) told p q v h g a b = same t p q v a.0 b.0

through_word : (table : List Node) → is_sound table ≡ true → (depth : ℕ) (Sub : ℕ → Parts → Value → Type 0) →
    ((t : ℕ) → HasOneWord (Sub t)) → (k t : ℕ) → HasOneWord (Through strict depth Sub table k t)
unfolding Through
through_word table sound depth Sub one zero t p q v a b = absurd a
through_word table sound depth Sub one (suc k) t p q v a b =
    let node : a.node ≡ b.node = cc in
    kind_word depth Sub one (Through strict depth Sub table k) (through_word table sound depth Sub one k) table
    b.node.tags b.node.kind (node_told table t b.node sound b.found) p q v
    (subst (λ (z : Node). has_tag z.tags p.id ≡ true) node a.tagged) b.tagged
    (subst (λ (z : Node). KindBody strict depth Sub (Through strict depth Sub table k) z.kind p v) node a.body) b.body

pub body_word : (table : List Node) → is_sound table ≡ true → (depth t : ℕ) → HasOneWord (Body strict table depth t)
unfolding Body
body_word table sound zero t p q v a b = absurd a
body_word table sound (suc depth) t p q v a b =
    through_word table sound depth (Body strict table depth) (body_word table sound depth) (suc t) t p q v a b

-- a value has one strict word
pub one_word : (table : List Node) → is_sound table ≡ true → (depth t : ℕ) (x y : List ℕ) (v : Value) →
    Word strict table depth t x v → Word strict table depth t y v → x ≡ y
one_word table sound depth t x y v a b = says_word (Body strict table depth t) (body_word table sound depth t) x y v a b
