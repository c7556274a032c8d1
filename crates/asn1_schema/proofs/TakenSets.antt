-- Sets that are read.
use Rattle.std.proofs.Common.{◌≡◌, ◌∙◌, ap, sym, subst, refl, ℕ, ◌<◌, inl, inr, Bool, true, false, List, [], ◌∷◌, ◌++◌, arith, length, append_assoc}
use Rattle.std.specs.Prelude.{◌⊎◌, ◌||◌, ◌&&◌, not, if◌then◌else◌, Option, Some, None, Result, Ok, Err}
use Rattle.std.specs.List.{list_any, filter}
use Rattle.std.proofs.lemmas.List.{append-nil}
use Rattle.std.proofs.lemmas.List.Elements.{filter-append}
use Rattle.std.proofs.lemmas.List.Folds.{list_any-append}
use Rattle.x690.specs.Identifiers.{Identifier}
use Rattle.x690.specs.Elements.{Parts}
use Rattle.x690.specs.Joined.{NoPrefix, IsConcatenation}
use Rattle.x690.specs.Laws.Joined.{joined_same}
use Rattle.asn1_headers.specs.Answers.{HasPrefix}
use Rattle.asn1_schema.specs.declared.fault.Fault.{Fault}
use Rattle.asn1_schema.specs.declared.fault.Fault.TheVariants as faults
use Rattle.asn1_schema.specs.declared.schema.Presence.{Presence}
use Rattle.asn1_schema.specs.declared.schema.Presence.TheVariants as presences
use Rattle.asn1_schema.specs.declared.schema.Field.{Field}
use Rattle.asn1_schema.specs.declared.schema.Tags.{Tags}
use Rattle.asn1_schema.specs.declared.schema.Node.{Node}
use Rattle.asn1_schema.specs.declared.coding.Coding.{Coding}
use Rattle.asn1_schema.specs.declared.coding.Coding.TheVariants as codings
use Rattle.asn1_schema.specs.declared.elements.Head.{Head}
use Rattle.asn1_schema.specs.declared.tape.Item.{Item}
use Rattle.asn1_schema.specs.Values.{Value, Values, none, absent, more}
use Rattle.asn1_schema.specs.Grammar.{Rules, LeftOut, Takes, HasMember, AreOthers, AreMembers, AreSet}
use Rattle.asn1_schema.specs.Sound.{HasTagAt, node_at, apart_from, apart_from_next, field_unambiguous}
use Rattle.asn1_schema.specs.Sound.{fields_unambiguous}
use Rattle.asn1_schema.specs.Build.{has_tag_at}
use Rattle.asn1_schema.specs.Each.{Each}
use Rattle.asn1_schema.specs.Tape.{KeptRow, kept_none, kept_absent, kept_more, Mark, marks, value_of, values_of, tape_of, tapes_of}
use Rattle.asn1_schema.specs.Reading.{rules_of, id_of, head_parts, IsBody, PutsValue, ReadsValue, PutsValues, ReadsValues, PutsLeftOut, MayNot}
use Rattle.asn1_schema.specs.Members.{AreElements, MayFollow, BehindOf, AreOrdered, Lacks, FindsFirst, HaveTagTwice, IsAlone, is_of_field, others_than, PutsMember, HasNoValue, HasNoMember, ReadsLeftOut, ReadsMember, IsUnknownElement, ReadsOther}
use Rattle.asn1_schema.proofs.Depths.{unless}
use Rattle.asn1_schema.proofs.Tags.{first_holds, second_holds, apart_at}
use Rattle.asn1_schema.proofs.Strings.{AreLawfulRules}
use Rattle.asn1_schema.proofs.TakesParts.{each_append, each_map, each_left, elsewhere, one_taken}
use Rattle.asn1_schema.proofs.OneValue.{HasItsTag, same_front, some_octets, left_rest, member_there, none_alike}
use Rattle.asn1_schema.proofs.Taken.{lawful_of}
use Rattle.asn1_schema.proofs.TakenRows.{SoFar, nothing_yet, ended, join_none, further, refused, may_stand, may_not}

-- Elements at the front.
module _ (R : Rules) (lawful : AreLawfulRules R) where
  -- the element at the front is the first one
  pub front_joined : (octets rest : List ℕ) (p : Parts) (es : List Parts) → HasPrefix R.ElementOf octets p rest →
      IsConcatenation R.ElementOf octets es → (left : List Parts) × (es ≡ p ∷ left) × IsConcatenation R.ElementOf rest left
  front_joined octets rest p [] f j = absurd (some_octets R lawful f.word rest p f.fits (sym f.is ∙ j))
  front_joined octets rest p (e ∷ es) f j =
      let u = same_front R lawful octets j.0 f.word j.1 rest e p j.2 f.fits j.3 f.is in
      (es, ap (λ (z : Parts). z ∷ es) u.0, subst (λ (z : List ℕ). IsConcatenation R.ElementOf z es) u.1 j.4)

  -- where there is none, there are none at all
  pub none_joined : (octets : List ℕ) (es : List Parts) → NoPrefix R.ElementOf octets → IsConcatenation R.ElementOf octets es →
      es ≡ []
  none_joined octets [] n j = refl
  none_joined octets (e ∷ es) n j = absurd (n j.0 j.1 e j.3 j.2)

  pub nothing_joined : (octets : List ℕ) (es : List Parts) → octets ≡ [] → IsConcatenation R.ElementOf octets es → es ≡ []
  nothing_joined octets [] n j = refl
  nothing_joined octets (e ∷ es) n j = absurd (some_octets R lawful j.0 j.1 e j.2 (sym j.3 ∙ n))

-- The order of elements.
behind_more : (e : Coding) (last : Option Head) (head : Head) (content : List ℕ) (es : List Parts) →
    MayFollow e last (id_of head) → BehindOf e (Some head) es → BehindOf e last (head_parts head content ∷ es)
behind_more codings.Der None head content es m a = (tt, a)
behind_more codings.Der (Some last) head content es m a = (m, a)
behind_more (codings.Ber max) last head content es m a = tt

behind_less : (e : Coding) (last : Option Head) (head : Head) (content : List ℕ) (es : List Parts) →
    BehindOf e last (head_parts head content ∷ es) → MayFollow e last (id_of head) × BehindOf e (Some head) es
behind_less codings.Der None head content es a = (tt, a.1)
behind_less codings.Der (Some last) head content es a = (a.0, a.1)
behind_less (codings.Ber max) last head content es a = (tt, tt)

-- What is left is in order where the whole is, and the other way round.
pub record OrderSoFar (e : Coding) (octets : List ℕ) (last : Option Head) (rest : List ℕ) : Type 0 where
  pub onward : AreOrdered e last rest → AreOrdered e None octets
  pub back : AreOrdered e None octets → AreOrdered e last rest

pub order_begun : (e : Coding) (octets : List ℕ) → OrderSoFar e octets None octets
order_begun e octets = record { onward = λ a. a; back = λ a. a }

ordered_less : (e : Coding) (last : Option Head) (rest tail content : List ℕ) (head : Head) →
    HasPrefix (rules_of e).ElementOf rest (head_parts head content) tail → AreOrdered e last rest →
    MayFollow e last (id_of head) × AreOrdered e (Some head) tail
ordered_less e last rest tail content head f a =
    let u = front_joined (rules_of e) (lawful_of e) rest tail (head_parts head content) a.elements f a.joins in
    let o = behind_less e last head content u.0 (subst (BehindOf e last) u.1 a.order) in
    (o.0, record { elements = u.0; joins = u.2; order = o.1 })

pub order_further : (e : Coding) (octets : List ℕ) (last : Option Head) (rest tail content : List ℕ) (head : Head) →
    OrderSoFar e octets last rest → HasPrefix (rules_of e).ElementOf rest (head_parts head content) tail →
    MayFollow e last (id_of head) → OrderSoFar e octets (Some head) tail
order_further e octets last rest tail content head s f m = record {
  onward = λ a. s.onward (record {
    elements = head_parts head content ∷ a.elements;
    joins = (f.word, tail, f.fits, f.is, a.joins);
    order = behind_more e last head content a.elements m a.order;
  });
  back = λ a. (ordered_less e last rest tail content head f (s.back a)).1;
}

pub order_broken : (e : Coding) (octets : List ℕ) (last : Option Head) (rest tail content : List ℕ) (head : Head) →
    OrderSoFar e octets last rest → HasPrefix (rules_of e).ElementOf rest (head_parts head content) tail →
    (MayFollow e last (id_of head) → ⊥) → AreOrdered e None octets → ⊥
order_broken e octets last rest tail content head s f n a =
    n (ordered_less e last rest tail content head f (s.back a)).0

pub order_truncated : (e : Coding) (octets : List ℕ) (last : Option Head) (rest : List ℕ) → OrderSoFar e octets last rest →
    NoPrefix (rules_of e).ElementOf rest → (rest ≡ [] → ⊥) → AreOrdered e None octets → ⊥
order_truncated e octets last rest s n some a =
    let b = s.back a in
    let none = none_joined (rules_of e) (lawful_of e) rest b.elements n b.joins in
    some (subst (λ (z : List Parts). AreElements e rest z) none b.joins)

behind_nothing : (e : Coding) (last : Option Head) → BehindOf e last []
behind_nothing codings.Der None = tt
behind_nothing codings.Der (Some last) = tt
behind_nothing (codings.Ber max) last = tt

pub order_done : (e : Coding) (octets : List ℕ) (last : Option Head) (rest : List ℕ) → OrderSoFar e octets last rest →
    rest ≡ [] → AreOrdered e None octets
order_done e octets last rest s over =
    s.onward (record { elements = []; joins = over; order = behind_nothing e last })

tag_order : (e : Coding) (es : List Parts) → BehindOf e None es → (rules_of e).TagOrder es
tag_order codings.Der es a = a
tag_order (codings.Ber max) es a = tt

order_of_tags : (e : Coding) (es : List Parts) → (rules_of e).TagOrder es → BehindOf e None es
order_of_tags codings.Der es a = a
order_of_tags (codings.Ber max) es a = tt

-- The first element with a tag.
pub record FirstSoFar (e : Coding) (table : List Node) (t : ℕ) (rest : List ℕ) (es : List Parts) : Type 0 where
  pub done : List Parts
  pub left : List Parts
  pub is : es ≡ done ++ left
  pub lacking : Each (Lacks table t) done
  pub joins : AreElements e rest left

pub first_begun : (e : Coding) (table : List Node) (t : ℕ) (octets : List ℕ) (es : List Parts) → AreElements e octets es →
    FirstSoFar e table t octets es
first_begun e table t octets es j = record { done = []; left = es; is = refl; lacking = tt; joins = j }

pub first_further : (e : Coding) (table : List Node) (t : ℕ) (rest tail content : List ℕ) (head : Head) (es : List Parts) →
    FirstSoFar e table t rest es → HasPrefix (rules_of e).ElementOf rest (head_parts head content) tail →
    (HasTagAt table t (id_of head) → ⊥) → FirstSoFar e table t tail es
first_further e table t rest tail content head es s f n =
    let p = head_parts head content in
    let u = front_joined (rules_of e) (lawful_of e) rest tail p s.left f s.joins in
    record {
      done = s.done ++ p ∷ [];
      left = u.0;
      is = s.is ∙ (ap (λ (z : List Parts). s.done ++ z) u.1 ∙ sym (append_assoc s.done (p ∷ []) u.0));
      lacking = each_append (Lacks table t) s.done (p ∷ []) s.lacking (n, tt);
      joins = u.2;
    }

pub first_found : (e : Coding) (table : List Node) (t : ℕ) (rest tail content : List ℕ) (head : Head) (es : List Parts) →
    FirstSoFar e table t rest es → HasPrefix (rules_of e).ElementOf rest (head_parts head content) tail →
    HasTagAt table t (id_of head) → FindsFirst e table t es (head_parts head content) tail
first_found e table t rest tail content head es s f h =
    let u = front_joined (rules_of e) (lawful_of e) rest tail (head_parts head content) s.left f s.joins in
    record {
      front = s.done;
      back = u.0;
      is = s.is ∙ ap (λ (z : List Parts). s.done ++ z) u.1;
      lacking = s.lacking;
      tagged = h;
      behind = u.2;
    }

pub first_missed : (e : Coding) (table : List Node) (t : ℕ) (rest : List ℕ) (es : List Parts) →
    FirstSoFar e table t rest es → NoPrefix (rules_of e).ElementOf rest → Each (Lacks table t) es
first_missed e table t rest es s n =
    let over = none_joined (rules_of e) (lawful_of e) rest s.left n s.joins in
    subst (Each (Lacks table t)) (sym (s.is ∙ (ap (λ (z : List Parts). s.done ++ z) over ∙ append-nil s.done))) s.lacking

-- no other one has it
pub first_alone : (e : Coding) (table : List Node) (t : ℕ) (es : List Parts) (p : Parts) (rest : List ℕ)
    (a : FindsFirst e table t es p rest) → Each (Lacks table t) a.back → IsAlone table t es p
first_alone e table t es p rest a n = record {
  others = a.front ++ a.back;
  takes = record { front = a.front; back = a.back; is = a.is; rest = refl };
  tagged = a.tagged;
  alone = each_append (Lacks table t) a.front a.back a.lacking n;
}

pub first_of_two : (e : Coding) (table : List Node) (t : ℕ) (es : List Parts) (p q : Parts) (rest tail : List ℕ)
    (a : FindsFirst e table t es p rest) → FindsFirst e table t a.back q tail → HaveTagTwice table t es
first_of_two e table t es p q rest tail a b = record {
  one = p;
  others = a.front ++ a.back;
  takes = record { front = a.front; back = a.back; is = a.is; rest = refl };
  tagged = a.tagged;
  other = q;
  left = (a.front ++ b.front) ++ b.back;
  takes_other = record {
    front = a.front ++ b.front;
    back = b.back;
    is = ap (λ (z : List Parts). a.front ++ z) b.is ∙ sym (append_assoc a.front b.front (q ∷ b.back));
    rest = refl;
  };
  tagged_other = b.tagged;
}

-- Elements of some fields are left away.
tag_at : (table : List Node) (id : Identifier) (t : ℕ) → has_tag_at table id t ≡ true → HasTagAt table t id
tag_at table id t h = by_node (node_at table t) refl h
  where
    by_node : (n : Option Node) → node_at table t ≡ n → has_tag_at table id t ≡ true → HasTagAt table t id
    by_node None e h = absurd (cc)
    by_node (Some node) e h = record { node = node; found = e; tagged = cc }

none_at : (b : Bool) → (b ≡ true → ⊥) → b ≡ false
none_at true n = absurd (n refl)
none_at false n = refl

kept_by : (q : Parts → Bool) (e : Parts) (es : List Parts) → q e ≡ true → filter q (e ∷ es) ≡ e ∷ filter q es
kept_by q e es h = ap (λ (b : Bool). if b then e ∷ filter q es else filter q es) h

dropped_by : (q : Parts → Bool) (e : Parts) (es : List Parts) → q e ≡ false → filter q (e ∷ es) ≡ filter q es
dropped_by q e es h = ap (λ (b : Bool). if b then e ∷ filter q es else filter q es) h

one_kept : (P : Parts → Type 0) (q : Parts → Bool) (e : Parts) (es : List Parts) (b : Bool) → q e ≡ b → P e →
    Each P (filter q es) → Each P (filter q (e ∷ es))
one_kept P q e es true h a others = subst (Each P) (sym (kept_by q e es h)) (a, others)
one_kept P q e es false h a others = subst (Each P) (sym (dropped_by q e es h)) others

each_kept : (P : Parts → Type 0) (q : Parts → Bool) (es : List Parts) → Each P es → Each P (filter q es)
each_kept P q [] a = tt
each_kept P q (e ∷ es) a = one_kept P q e es (q e) refl a.0 (each_kept P q es a.1)

takes_kept : (q : Parts → Bool) (es : List Parts) (e : Parts) (others : List Parts) → Takes es e others → q e ≡ true →
    Takes (filter q es) e (filter q others)
takes_kept q es e others t h = record {
  front = filter q t.front;
  back = filter q t.back;
  is = ap (filter q) t.is ∙ (filter-append q t.front (e ∷ t.back)
      ∙ ap (λ (z : List Parts). filter q t.front ++ z) (kept_by q e t.back h));
  rest = ap (filter q) t.rest ∙ filter-append q t.front t.back;
}

takes_dropped : (q : Parts → Bool) (es : List Parts) (e : Parts) (others : List Parts) → Takes es e others →
    q e ≡ false → filter q es ≡ filter q others
takes_dropped q es e others t h = ap (filter q) t.is ∙ (filter-append q t.front (e ∷ t.back)
    ∙ (ap (λ (z : List Parts). filter q t.front ++ z) (dropped_by q e t.back h)
    ∙ (sym (filter-append q t.front t.back) ∙ ap (filter q) (sym t.rest))))

kept_alike : (q r : Parts → Bool) (es : List Parts) → Each (λ p. q p ≡ r p) es → filter q es ≡ filter r es
kept_alike q r [] a = refl
kept_alike q r (e ∷ es) a =
    (λ i. if a.0 i then e ∷ filter q es else filter q es)
    ∙ ap (λ (z : List Parts). if r e then e ∷ z else z) (kept_alike q r es a.1)

module _ (table : List Node) where
  -- a tag of one more field
  more_fields : (done : List Field) (f : Field) (id : Identifier) →
      is_of_field table (done ++ f ∷ []) id ≡ (is_of_field table done id || (has_tag_at table id f.of || false))
  more_fields done f id = list_any-append (λ (g : Field). has_tag_at table id g.of) done (f ∷ [])

  or_nothing : (a b : Bool) → b ≡ false → (a || (b || false)) ≡ a
  or_nothing true b e = refl
  or_nothing false b e = ap (λ (z : Bool). z || false) e

  or_this : (a b : Bool) → b ≡ true → (a || (b || false)) ≡ true
  or_this true b e = refl
  or_this false b e = ap (λ (z : Bool). z || false) e

  -- elements that lack the tag of a field stay
  others_lacking : (done : List Field) (f : Field) (es : List Parts) → Each (Lacks table f.of) es →
      others_than table (done ++ f ∷ []) es ≡ others_than table done es
  others_lacking done f es a =
      kept_alike (λ p. not (is_of_field table (done ++ f ∷ []) p.id)) (λ p. not (is_of_field table done p.id)) es
      (each_map (Lacks table f.of)
      (λ p. not (is_of_field table (done ++ f ∷ []) p.id) ≡ not (is_of_field table done p.id))
      (λ p n. ap not (more_fields done f p.id ∙ or_nothing (is_of_field table done p.id) (has_tag_at table p.id f.of)
      (none_at (has_tag_at table p.id f.of) (λ h. n (tag_at table p.id f.of h))))) es a)

  has_at : (id : Identifier) (t : ℕ) → HasTagAt table t id → has_tag_at table id t ≡ true
  has_at id t h = let e = h.found in let g = h.tagged in cc

  -- an element with the tag of a field goes
  others_next : (done : List Field) (f : Field) (es : List Parts) (p : Parts) (a : IsAlone table f.of es p) →
      others_than table (done ++ f ∷ []) es ≡ others_than table done a.others
  others_next done f es p a =
      takes_dropped (λ p. not (is_of_field table (done ++ f ∷ []) p.id)) es p a.others a.takes
      (ap not (more_fields done f p.id ∙ or_this (is_of_field table done p.id) (has_tag_at table p.id f.of)
      (has_at p.id f.of a.tagged)))
      ∙ others_lacking done f a.others a.alone

  -- fields in front are told from this one
  apart_here : (unknown : Option ℕ) (ts : Tags) (done : List Field) (f : Field) (fs : List Field) →
      apart_from_next true table unknown ts (done ++ f ∷ fs) ≡ true → apart_from ts (node_at table f.of) ≡ true
  apart_here unknown ts [] f fs a =
      first_holds (apart_from ts (node_at table f.of)) (apart_from_next true table unknown ts fs) a
  apart_here unknown ts (g ∷ done) f fs a =
      apart_here unknown ts done f fs (second_holds (apart_from ts (node_at table g.of))
      (apart_from_next true table unknown ts (done ++ f ∷ fs)) a)

  neither : (a b : Bool) → a ≡ false → b ≡ false → (a || b) ≡ false
  neither false b e h = h
  neither true b e h = absurd (cc)

  pub apart_done : (unknown : Option ℕ) (done : List Field) (f : Field) (fs : List Field) →
      fields_unambiguous true table unknown (done ++ f ∷ fs) ≡ true → (id : Identifier) → HasTagAt table f.of id →
      is_of_field table done id ≡ false
  apart_done unknown [] f fs told id h = refl
  apart_done unknown (g ∷ done) f fs told id h =
      neither (has_tag_at table id g.of) (is_of_field table done id)
      (none_at (has_tag_at table id g.of) (λ b.
      let k = tag_at table id g.of b in
      apart_at table k.node.tags f.of id
      (apart_here unknown k.node.tags done f fs
      (subst (λ (z : Option Node). field_unambiguous true table unknown z (done ++ f ∷ fs) ≡ true) k.found
      (first_holds (field_unambiguous true table unknown (node_at table g.of) (done ++ f ∷ fs))
      (fields_unambiguous true table unknown (done ++ f ∷ fs)) told))) h k.tagged))
      (apart_done unknown done f fs (second_holds
      (field_unambiguous true table unknown (node_at table g.of) (done ++ f ∷ fs))
      (fields_unambiguous true table unknown (done ++ f ∷ fs)) told) id h)

  pub told_behind : (unknown : Option ℕ) (done : List Field) (fs : List Field) →
      fields_unambiguous true table unknown (done ++ fs) ≡ true → fields_unambiguous true table unknown fs ≡ true
  told_behind unknown [] fs told = told
  told_behind unknown (g ∷ done) fs told =
      told_behind unknown done fs (second_holds (field_unambiguous true table unknown (node_at table g.of) (done ++ fs))
      (fields_unambiguous true table unknown (done ++ fs)) told)

module _ (R : Rules) (lawful : AreLawfulRules R) (table : List Node) (Sub : ℕ → Parts → Value → Type 0)
    (tag : HasItsTag table Sub) (unknown : Option ℕ) (done : List Field) (f : Field) (fs : List Field)
    (told : fields_unambiguous true table unknown (done ++ f ∷ fs) ≡ true) (es : List Parts) where
  abbrev Now : List Parts
  Now = others_than table done es

  abbrev here : fields_unambiguous true table unknown (f ∷ fs) ≡ true
  here = told_behind table unknown done (f ∷ fs) told

  -- an element of the field is left
  abbrev kept : (p : Parts) → HasTagAt table f.of p.id → not (is_of_field table done p.id) ≡ true
  kept p h = ap not (apart_done table unknown done f fs told p.id h)

  abbrev left_alone : (p : Parts) → IsAlone table f.of es p → IsAlone table f.of Now p
  left_alone p a = record {
    others = others_than table done a.others;
    takes = takes_kept (λ q. not (is_of_field table done q.id)) es p a.others a.takes (kept p a.tagged);
    tagged = a.tagged;
    alone = each_kept (Lacks table f.of) (λ q. not (is_of_field table done q.id)) a.others a.alone;
  }

  -- where an element has the tag, the field is not left out
  not_left_out : (p : Parts) (others : List Parts) → Takes Now p others → HasTagAt table f.of p.id → (vs : Values) →
      LeftOut R (Sub f.of) f.presence vs (AreMembers R Sub unknown fs Now) → ⊥
  not_left_out p others t h vs b =
      let d = left_rest R lawful (Sub f.of) f.presence (AreMembers R Sub unknown fs Now) vs b in
      (each_left (Lacks table f.of) Now p others t
      (none_alike R lawful table Sub tag unknown f fs here p h Now d.0 d.1)).0 h

  -- the element that is taken is the one
  the_one : (p : Parts) (a : IsAlone table f.of Now p) (vs : Values) →
      HasMember R (Sub f.of) f.presence Now vs (AreMembers R Sub unknown fs) →
      (v : Value) × (ws : Values) × Sub f.of p v × AreMembers R Sub unknown fs a.others ws
  the_one p a vs b =
      let c = member_there R lawful (Sub f.of) f.presence Now vs (AreMembers R Sub unknown fs) b in
      let u = one_taken (λ q. HasTagAt table f.of q.id) Now c.0 p c.1 a.others c.4 a.takes (tag f.of c.0 c.2 c.5)
      a.alone in (
        c.2,
        c.3,
        subst (λ (z : Parts). Sub f.of z c.2) u.0 c.5,
        subst (λ (z : List Parts). AreMembers R Sub unknown fs z c.3) u.1 c.6,
      )

  module _ (Whole : Values → Type 0) (old mid new : List Item)
      (s : SoFar (AreMembers R Sub unknown (f ∷ fs) Now) Whole old mid) where
    member_more : R.defaults_written ≡ true → PutsMember table f.of (Sub f.of) es mid new →
        SoFar (AreMembers R Sub unknown fs (others_than table (done ++ f ∷ []) es)) Whole old new
    member_more written a =
        let l = left_alone a.element a.place in
        subst (λ (z : List Parts). SoFar (AreMembers R Sub unknown fs z) Whole old new)
        (sym (others_next table done f es a.element a.place))
        (further (AreMembers R Sub unknown (f ∷ fs) Now) (AreMembers R Sub unknown fs l.others) Whole old mid new
        (kept_more a.puts.kept kept_none) s
        (a.puts.is ∙ ap (λ (z : List Mark). marks mid ++ z) (sym (append-nil (tape_of a.puts.kept))))
        (λ vs b. inl (
          a.element,
          l.others,
          l.takes,
          a.puts.holds,
          may_stand R lawful (Sub f.of) written f.presence (value_of a.puts.kept),
          b,
        ))
        down)
      where
        down : (vs : Values) → AreMembers R Sub unknown (f ∷ fs) Now vs → (ws : Values) ×
            AreMembers R Sub unknown fs (left_alone a.element a.place).others ws
        down vs (inl b) = let c = the_one a.element (left_alone a.element a.place) vs b in (c.1, c.3)
        down vs (inr b) =
            let l = left_alone a.element a.place in absurd (not_left_out a.element l.others l.takes l.tagged vs b)

    member_less : Each (Lacks table f.of) es → PutsLeftOut R (Sub f.of) f.presence mid new →
        SoFar (AreMembers R Sub unknown fs (others_than table (done ++ f ∷ []) es)) Whole old new
    member_less away l =
        subst (λ (z : List Parts). SoFar (AreMembers R Sub unknown fs z) Whole old new)
        (sym (others_lacking table done f es away)) (by_presence f.presence refl l)
      where
        down : (vs : Values) → AreMembers R Sub unknown (f ∷ fs) Now vs → (ws : Values) × AreMembers R Sub unknown fs Now ws
        down vs (inl b) =
            let c = member_there R lawful (Sub f.of) f.presence Now vs (AreMembers R Sub unknown fs) b in
            absurd ((each_left (Lacks table f.of) Now c.0 c.1 c.4 (each_kept (Lacks table f.of)
            (λ q. not (is_of_field table done q.id)) es away)).0 (tag f.of c.0 c.2 c.5))
        down vs (inr b) = left_rest R lawful (Sub f.of) f.presence (AreMembers R Sub unknown fs Now) vs b

        by_presence : (presence : Presence) → f.presence ≡ presence → PutsLeftOut R (Sub f.of) presence mid new →
            SoFar (AreMembers R Sub unknown fs Now) Whole old new
        by_presence presences.Required e l = absurd l
        by_presence presences.Optional e l =
            further (AreMembers R Sub unknown (f ∷ fs) Now) (AreMembers R Sub unknown fs Now) Whole old mid new
            (kept_absent kept_none) s l
            (λ vs a. inr (subst (λ (z : Presence). LeftOut R (Sub f.of) z (absent vs) (AreMembers R Sub unknown fs Now))
            (sym e) a)) down
        by_presence (presences.Default d) e l =
            further (AreMembers R Sub unknown (f ∷ fs) Now) (AreMembers R Sub unknown fs Now) Whole old mid new
            (kept_more l.kept kept_none) s
            (l.is ∙ ap (λ (z : List Mark). marks mid ++ z) (sym (append-nil (tape_of l.kept))))
            (λ vs a. inr (subst (λ (z : Presence). LeftOut R (Sub f.of) z (more (value_of l.kept) vs)
            (AreMembers R Sub unknown fs Now)) (sym e) (l.holds, a))) down

    -- the loop
    pub member_further : R.defaults_written ≡ true →
        PutsMember table f.of (Sub f.of) es mid new ⊎ (Each (Lacks table f.of) es × PutsLeftOut R (Sub f.of) f.presence mid new) →
        SoFar (AreMembers R Sub unknown fs (others_than table (done ++ f ∷ []) es)) Whole old new
    member_further written (inl a) = member_more written a
    member_further written (inr a) = member_less a.0 a.1

  two_left : HaveTagTwice table f.of es → HaveTagTwice table f.of Now
  two_left a = record {
    one = a.one;
    others = others_than table done a.others;
    takes = takes_kept (λ q. not (is_of_field table done q.id)) es a.one a.others a.takes (kept a.one a.tagged);
    tagged = a.tagged;
    other = a.other;
    left = others_than table done a.left;
    takes_other = takes_kept (λ q. not (is_of_field table done q.id)) a.others a.other a.left a.takes_other
        (kept a.other a.tagged_other);
    tagged_other = a.tagged_other;
  }

  not_two : HaveTagTwice table f.of Now → (vs : Values) → AreMembers R Sub unknown (f ∷ fs) Now vs → ⊥
  not_two a vs (inl b) =
      let c = member_there R lawful (Sub f.of) f.presence Now vs (AreMembers R Sub unknown fs) b in
      let lack = none_alike R lawful table Sub tag unknown f fs here a.one a.tagged c.1 c.3 c.6 in
      elim (elsewhere Now a.one c.0 a.others c.1 a.takes c.4) [
        | inl u ↦ (each_left (Lacks table f.of) c.1 a.other a.left
            (subst (λ (z : List Parts). Takes z a.other a.left) u.1 a.takes_other) lack).0 a.tagged_other
        | inr u ↦ (each_left (Lacks table f.of) c.1 a.one u.0 u.1 lack).0 a.tagged
      ]
  not_two a vs (inr b) = not_left_out a.one a.others a.takes a.tagged vs b

  no_members : HasNoMember R table f.of (Sub f.of) f.presence es → (vs : Values) →
      AreMembers R Sub unknown (f ∷ fs) Now vs → ⊥
  no_members (inl a) vs b = not_two (two_left a) vs b
  no_members (inr (inl a)) vs (inl b) =
      let c = the_one a.element (left_alone a.element a.place) vs b in a.none c.0 c.2
  no_members (inr (inl a)) vs (inr b) =
      let l = left_alone a.element a.place in not_left_out a.element l.others l.takes l.tagged vs b
  no_members (inr (inr a)) vs (inl b) =
      let c = member_there R lawful (Sub f.of) f.presence Now vs (AreMembers R Sub unknown fs) b in
      (each_left (Lacks table f.of) Now c.0 c.1 c.4 (each_kept (Lacks table f.of)
      (λ q. not (is_of_field table done q.id)) es a.0)).0 (tag f.of c.0 c.2 c.5)
  no_members (inr (inr a)) vs (inr b) =
      may_not R lawful (Sub f.of) f.presence vs (AreMembers R Sub unknown fs Now) a.1 b

  pub members_refused : (T : Type 0) (Whole : Values → Type 0) (old mid new : List Item) (e : Fault) →
      SoFar (AreMembers R Sub unknown (f ∷ fs) Now) Whole old mid →
      ReadsMember {T = Unit {0}} R table f.of (Sub f.of) f.presence es mid new (Err e) → ReadsValues {T = T} Whole old new (Err e)
  members_refused T Whole old mid new e s a =
      unless e (HasNoMember R table f.of (Sub f.of) f.presence es) ((vs : Values) → Whole vs → ⊥)
      (λ n. refused (AreMembers R Sub unknown (f ∷ fs) Now) Whole old mid s (no_members n)) a

-- Elements of no field.
pub record OthersSoFar (e : Coding) (table : List Node) (Sub : ℕ → Parts → Value → Type 0) (unknown : Option ℕ)
    (fields : List Field) (rest : List ℕ) (es : List Parts) (old new : List Item) : Type 0 where
  pub left : List Parts
  pub joins : AreElements e rest left
  pub so_far : SoFar (AreOthers Sub unknown (others_than table fields left))
      (AreOthers Sub unknown (others_than table fields es)) old new

module _ (e : Coding) (table : List Node) (depth : ℕ) (fields : List Field) where
  abbrev Sub : ℕ → Parts → Value → Type 0
  Sub = IsBody e table depth

  abbrev Other : Option ℕ → Parts → Value → Type 0
  Other unknown = IsUnknownElement e table depth unknown

  -- an element of a field
  other_skipped : (unknown : Option ℕ) (rest tail content : List ℕ) (head : Head) (es : List Parts)
      (old new : List Item) → OthersSoFar e table Sub unknown fields rest es old new →
      HasPrefix (rules_of e).ElementOf rest (head_parts head content) tail →
      is_of_field table fields (id_of head) ≡ true →
      OthersSoFar e table Sub unknown fields tail es old new
  other_skipped unknown rest tail content head es old new s f is =
      let p = head_parts head content in
      let u = front_joined (rules_of e) (lawful_of e) rest tail p s.left f s.joins in
      record {
        left = u.0;
        joins = u.2;
        so_far = subst (λ (z : List Parts). SoFar (AreOthers Sub unknown z)
            (AreOthers Sub unknown (others_than table fields es)) old new)
            (ap (others_than table fields) u.1
            ∙ dropped_by (λ q. not (is_of_field table fields q.id)) p u.0 (ap not is)) s.so_far;
      }

  other_kept : (unknown : Option ℕ) (rest tail content : List ℕ) (head : Head) (es : List Parts)
      (old new : List Item) → (s : OthersSoFar e table Sub unknown fields rest es old new) →
      HasPrefix (rules_of e).ElementOf rest (head_parts head content) tail →
      is_of_field table fields (id_of head) ≡ false →
      (left : List Parts) × AreElements e tail left × SoFar (AreOthers Sub unknown
      (head_parts head content ∷ others_than table fields left)) (AreOthers Sub unknown (others_than table fields es)) old new
  other_kept unknown rest tail content head es old new s f is =
      let p = head_parts head content in
      let u = front_joined (rules_of e) (lawful_of e) rest tail p s.left f s.joins in (
        u.0,
        u.2,
        subst (λ (z : List Parts). SoFar (AreOthers Sub unknown z)
            (AreOthers Sub unknown (others_than table fields es)) old new)
            (ap (others_than table fields) u.1
            ∙ kept_by (λ q. not (is_of_field table fields q.id)) p u.0 (ap not is)) s.so_far,
      )

  others_parted : (unknown : Option ℕ) (p : Parts) (es : List Parts) (vs : Values) → AreOthers Sub unknown (p ∷ es) vs →
      (v : Value) × (ws : Values) × Other unknown p v × AreOthers Sub unknown es ws
  others_parted None p es vs a = absurd (let b = a.0 in cc)
  others_parted (Some t) p es none a = absurd a
  others_parted (Some t) p es (absent vs) a = absurd a
  others_parted (Some t) p es (more v vs) a = (v, vs, a.0, a.1)

  others_put : (unknown : Option ℕ) (p : Parts) (es : List Parts) (v : Value) (vs : Values) → Other unknown p v →
      AreOthers Sub unknown es vs → AreOthers Sub unknown (p ∷ es) (more v vs)
  others_put None p es v vs h a = absurd h
  others_put (Some t) p es v vs h a = (h, a)

  other_more : (unknown : Option ℕ) (rest tail content : List ℕ) (head : Head) (es : List Parts)
      (old mid new : List Item) → OthersSoFar e table Sub unknown fields rest es old mid →
      HasPrefix (rules_of e).ElementOf rest (head_parts head content) tail →
      is_of_field table fields (id_of head) ≡ false →
      PutsValue (Other unknown (head_parts head content)) mid new →
      OthersSoFar e table Sub unknown fields tail es old new
  other_more unknown rest tail content head es old mid new s f is a =
      let p = head_parts head content in
      let k = other_kept unknown rest tail content head es old mid s f is in
      let left = others_than table fields k.0 in
      record {
        left = k.0;
        joins = k.1;
        so_far = further (AreOthers Sub unknown (p ∷ left)) (AreOthers Sub unknown left)
            (AreOthers Sub unknown (others_than table fields es)) old mid new (kept_more a.kept kept_none) k.2
            (a.is ∙ ap (λ (z : List Mark). marks mid ++ z) (sym (append-nil (tape_of a.kept))))
            (λ vs b. others_put unknown p left (value_of a.kept) vs a.holds b)
            (λ vs b. let c = others_parted unknown p left vs b in (c.1, c.3));
      }

  pub other_further : (unknown : Option ℕ) (rest tail content : List ℕ) (head : Head) (es : List Parts)
      (old mid new : List Item) → OthersSoFar e table Sub unknown fields rest es old mid →
      HasPrefix (rules_of e).ElementOf rest (head_parts head content) tail →
      ReadsOther {T = Unit {0}} e table depth unknown fields (head_parts head content) mid new (Ok tt) →
      OthersSoFar e table Sub unknown fields tail es old new
  other_further unknown rest tail content head es old mid new s f (inl a) =
      subst (λ (z : List Item). OthersSoFar e table Sub unknown fields tail es old z) (sym a.1)
      (other_skipped unknown rest tail content head es old mid s f a.0)
  other_further unknown rest tail content head es old mid new s f (inr a) =
      other_more unknown rest tail content head es old mid new s f a.0 a.1

  pub other_refused : (unknown : Option ℕ) (rest tail content : List ℕ) (head : Head) (es : List Parts)
      (old mid new : List Item) (fault : Fault) → OthersSoFar e table Sub unknown fields rest es old mid →
      HasPrefix (rules_of e).ElementOf rest (head_parts head content) tail →
      ReadsOther {T = Unit {0}} e table depth unknown fields (head_parts head content) mid new (Err fault) →
      ReadsValues {T = Unit {0}} (AreOthers Sub unknown (others_than table fields es)) old new (Err fault)
  other_refused unknown rest tail content head es old mid new fault s f a =
      let p = head_parts head content in
      unless fault ((is_of_field table fields p.id ≡ false) × ((v : Value) → Other unknown p v → ⊥))
      ((vs : Values) → AreOthers Sub unknown (others_than table fields es) vs → ⊥)
      (λ n.
      let k = other_kept unknown rest tail content head es old mid s f n.0 in
      let left = others_than table fields k.0 in
      refused (AreOthers Sub unknown (p ∷ left)) (AreOthers Sub unknown (others_than table fields es)) old mid k.2
      (λ vs b. let c = others_parted unknown p left vs b in n.1 c.0 c.2)) a

  others_none : (unknown : Option ℕ) → AreOthers Sub unknown [] none
  others_none None = (refl, refl)
  others_none (Some t) = tt

  pub others_done : (unknown : Option ℕ) (rest : List ℕ) (es : List Parts) (old new : List Item) →
      OthersSoFar e table Sub unknown fields rest es old new → NoPrefix (rules_of e).ElementOf rest →
      PutsValues (AreOthers Sub unknown (others_than table fields es)) old new
  others_done unknown rest es old new s n =
      let over = none_joined (rules_of e) (lawful_of e) rest s.left n s.joins in
      let so_far = s.so_far in
      record {
        kept = so_far.done;
        holds = subst (AreOthers Sub unknown (others_than table fields es)) (join_none (values_of so_far.done))
            (so_far.onward none (subst (λ (z : List Parts). AreOthers Sub unknown (others_than table fields z) none)
            (sym over) (others_none unknown)));
        is = so_far.is;
      }

-- the elements of no field that was read
all_kept : (table : List Node) (es : List Parts) → others_than table [] es ≡ es
all_kept table [] = refl
all_kept table (e ∷ es) = ap (λ (z : List Parts). e ∷ z) (all_kept table es)

pub members_begun : (R : Rules) (table : List Node) (Sub : ℕ → Parts → Value → Type 0) (unknown : Option ℕ)
    (fields : List Field) (es : List Parts) (old : List Item) →
    SoFar (AreMembers R Sub unknown fields (others_than table [] es)) (AreMembers R Sub unknown fields es) old old
members_begun R table Sub unknown fields es old =
    subst (λ (z : List Parts). SoFar (AreMembers R Sub unknown fields z) (AreMembers R Sub unknown fields es) old old)
    (sym (all_kept table es)) (nothing_yet (AreMembers R Sub unknown fields es) old)

-- and then those of no field at all
pub members_ended : {T : Type 0} (R : Rules) (table : List Node) (Sub : ℕ → Parts → Value → Type 0) (unknown : Option ℕ)
    (Whole : Values → Type 0) (fields done left : List Field) (es : List Parts) (old mid new : List Item)
    (r : Result T Fault) → fields ≡ done ++ left → left ≡ [] →
    SoFar (AreMembers R Sub unknown left (others_than table done es)) Whole old mid →
    ReadsValues (AreOthers Sub unknown (others_than table fields es)) mid new r → ReadsValues Whole old new r
members_ended R table Sub unknown Whole fields done left es old mid new r parts over s a =
    let same : fields ≡ done = parts ∙ (ap (λ (z : List Field). done ++ z) over ∙ append-nil done) in
    ended (AreOthers Sub unknown (others_than table done es)) Whole old mid new r
    (subst (λ (z : List Field). SoFar (AreMembers R Sub unknown z (others_than table done es)) Whole old mid) over s)
    (subst (λ (z : List Field). ReadsValues (AreOthers Sub unknown (others_than table z es)) mid new r) same a)

-- a field of a set
pub member_read : {T : Type 0} (R : Rules) (table : List Node) (t : ℕ) (Sub : Parts → Value → Type 0)
    (presence : Presence) (es : List Parts) (p : Parts) (old new : List Item) (r : Result T Fault) →
    IsAlone table t es p → ReadsValue (Sub p) old new r → ReadsMember R table t Sub presence es old new r
member_read R table t Sub presence es p old new (Ok x) a b = inl (record { element = p; place = a; puts = b })
member_read R table t Sub presence es p old new (Err e) a b =
    unless e ((v : Value) → Sub p v → ⊥) (HasNoMember R table t Sub presence es)
    (λ n. inr (inl (record { element = p; place = a; none = n }))) b

pub member_away : {T : Type 0} (R : Rules) (table : List Node) (t : ℕ) (Sub : Parts → Value → Type 0)
    (presence : Presence) (es : List Parts) (old new : List Item) (r : Result T Fault) → Each (Lacks table t) es →
    ReadsLeftOut R Sub presence old new r → ReadsMember R table t Sub presence es old new r
member_away R table t Sub presence es old new (Ok x) a b = inr (a, b)
member_away R table t Sub presence es old new (Err e) a b =
    unless e (MayNot R Sub presence) (HasNoMember R table t Sub presence es) (λ n. inr (inr (a, n))) b

-- an unknown element
pub other_read : {T : Type 0} (e : Coding) (table : List Node) (depth : ℕ) (unknown : Option ℕ) (fields : List Field)
    (p : Parts) (t : ℕ) (old new : List Item) (r : Result T Fault) → is_of_field table fields p.id ≡ false →
    unknown ≡ Some t → ReadsValue (IsBody e table depth t p) old new r →
    ReadsOther e table depth unknown fields p old new r
other_read {T} e table depth unknown fields p t old new r apart is a =
    subst (λ (z : Option ℕ). ReadsOther e table depth z fields p old new r) (sym is) (by_answer r a)
  where
    by_answer : (r : Result T Fault) → ReadsValue (IsBody e table depth t p) old new r →
        ReadsOther e table depth (Some t) fields p old new r
    by_answer (Ok x) a = inr (apart, a)
    by_answer (Err fault) a =
        unless fault ((v : Value) → IsBody e table depth t p v → ⊥) ((is_of_field table fields p.id ≡ false) ×
        ((v : Value) → IsUnknownElement e table depth (Some t) p v → ⊥)) (λ n. (apart, n)) a

-- The elements of a set are its octets'.
pub set_read_so : {T : Type 0} (e : Coding) (Sub : ℕ → Parts → Value → Type 0) (unknown : Option ℕ) (fields : List Field)
    (octets : List ℕ) (a : AreOrdered e None octets) (old new : List Item) (r : Result T Fault) →
    ReadsValues (AreMembers (rules_of e) Sub unknown fields a.elements) old new r →
    ReadsValues (AreSet (rules_of e) Sub unknown fields octets) old new r
set_read_so e Sub unknown fields octets a old new (Ok x) b = record {
  kept = b.kept;
  holds = record { elements = a.elements; joins = a.joins; members = b.holds; order = tag_order e a.elements a.order };
  is = b.is;
}
set_read_so e Sub unknown fields octets a old new (Err fault) b =
    unless fault ((vs : Values) → AreMembers (rules_of e) Sub unknown fields a.elements vs → ⊥)
    ((vs : Values) → AreSet (rules_of e) Sub unknown fields octets vs → ⊥)
    (λ n vs c.
    let same = joined_same (rules_of e).ElementOf (lawful_of e).one octets octets c.elements a.elements refl c.joins
    a.joins in
    n vs (subst (λ (z : List Parts). AreMembers (rules_of e) Sub unknown fields z vs) same c.members)) b

-- octets out of order are no set
pub set_unordered : (e : Coding) (Sub : ℕ → Parts → Value → Type 0) (unknown : Option ℕ) (fields : List Field)
    (octets : List ℕ) (vs : Values) → (AreOrdered e None octets → ⊥) →
    AreSet (rules_of e) Sub unknown fields octets vs → ⊥
set_unordered e Sub unknown fields octets vs n a =
    n (record { elements = a.elements; joins = a.joins; order = order_of_tags e a.elements a.order })
