-- Rows that are read.
use Rattle.std.proofs.Common.{◌≡◌, ◌∙◌, ap, sym, subst, refl, ℕ, ◌<◌, inl, inr, Bool, true, false, List, [], ◌∷◌, ◌++◌, arith, append_assoc, length}
use Rattle.std.specs.Prelude.{◌⊎◌, ◌||◌, not, Option, None, Result, Ok, Err, OnOk, IfErr}
use Rattle.std.specs.List.{concat}
use Rattle.std.proofs.lemmas.List.{append-nil, length-append}
use Rattle.std.specs.declared.vec.Vec.{Vec}
use Rattle.std.specs.declared.alloc.Global.{Global}
use Rattle.x690.specs.Elements.{Parts}
use Rattle.asn1_headers.specs.Answers.{HasPrefix}
use Rattle.asn1_schema.specs.declared.fault.Fault.{Fault}
use Rattle.asn1_schema.specs.declared.fault.Fault.TheVariants as faults
use Rattle.asn1_schema.specs.declared.schema.Presence.{Presence}
use Rattle.asn1_schema.specs.declared.schema.Presence.TheVariants as presences
use Rattle.asn1_schema.specs.declared.schema.Field.{Field}
use Rattle.asn1_schema.specs.declared.schema.Node.{Node}
use Rattle.asn1_schema.specs.declared.tape.Item.{Item}
use Rattle.asn1_schema.specs.Values.{Value, Values, row, none, absent, more}
use Rattle.asn1_schema.specs.Grammar.{Rules, Says, Begins, AreEach, AreItems, AnyOrder, AreUnknown, AreFields, LeftOut, MayStand, IsThere}
use Rattle.asn1_schema.specs.Tape.{KeptRow, kept_row, kept_none, kept_absent, kept_more, Mark, marks, begin_mark, end_mark, absent_mark, between, value_of, values_of, tape_of, tapes_of}
use Rattle.asn1_schema.specs.Sound.{HasTagAt, node_at, field_unambiguous, fields_unambiguous, may_be_left_out}
use Rattle.asn1_schema.specs.Reading.{PutsValue, ReadsValue, PutsValues, ReadsValues, PutsPrefix, HasNoPrefix, ReadsPrefix, BeginsTagged, PutsLeftOut, LeavesOut, MayNot, IsMissing, ReadsByPresence, UnlessMemory}
use Rattle.asn1_schema.specs.Members.{ReadsLeftOut}
use Rattle.asn1_schema.proofs.Depths.{unless, where_memory}
use Rattle.asn1_schema.proofs.Tags.{first_holds, of_optional}
use Rattle.asn1_schema.proofs.Strings.{AreLawfulRules}
use Rattle.asn1_schema.proofs.OneValue.{HasItsTag, same_front, some_octets, no_next, there_begins, left_rest, left_may}

-- Rows, one behind another.

abbrev joined_rows : KeptRow → KeptRow → KeptRow
joined_rows kept_none ws = ws
joined_rows (kept_absent ks) ws = kept_absent (joined_rows ks ws)
joined_rows (kept_more k ks) ws = kept_more k (joined_rows ks ws)

abbrev pub join : Values → Values → Values
join none ws = ws
join (absent vs) ws = absent (join vs ws)
join (more v vs) ws = more v (join vs ws)

pub join_none : (vs : Values) → join vs none ≡ vs
join_none none = refl
join_none (absent vs) = ap absent (join_none vs)
join_none (more v vs) = ap (more v) (join_none vs)

join_more : (vs ws us : Values) → join (join vs ws) us ≡ join vs (join ws us)
join_more none ws us = refl
join_more (absent vs) ws us = ap absent (join_more vs ws us)
join_more (more v vs) ws us = ap (more v) (join_more vs ws us)

values_join : (ks ls : KeptRow) → values_of (joined_rows ks ls) ≡ join (values_of ks) (values_of ls)
values_join kept_none ls = refl
values_join (kept_absent ks) ls = ap absent (values_join ks ls)
values_join (kept_more k ks) ls = ap (more (value_of k)) (values_join ks ls)

tapes_join : (ks ls : KeptRow) → tapes_of (joined_rows ks ls) ≡ tapes_of ks ++ tapes_of ls
tapes_join kept_none ls = refl
tapes_join (kept_absent ks) ls = ap (λ (z : List Mark). absent_mark ∷ z) (tapes_join ks ls)
tapes_join (kept_more k ks) ls = ap (λ (z : List Mark). tape_of k ++ z) (tapes_join ks ls) ∙
    sym (append_assoc (tape_of k) (tapes_of ks) (tapes_of ls))

-- Some values were put on the tape. What is left to read, with these in front, is the whole; and what the whole is read
-- as leaves something.
pub record SoFar (Now Whole : Values → Type 0) (old new : List Item) : Type 0 where
  pub done : KeptRow
  pub is : marks new ≡ marks old ++ tapes_of done
  pub onward : (vs : Values) → Now vs → Whole (join (values_of done) vs)
  pub back : (vs : Values) → Whole vs → (ws : Values) × Now ws

pub nothing_yet : (Whole : Values → Type 0) (old : List Item) → SoFar Whole Whole old old
nothing_yet Whole old = record {
  done = kept_none;
  is = sym (append-nil (marks old));
  onward = λ vs a. a;
  back = λ vs a. (vs, a);
}

grown : (old mid new : List Item) (done some : KeptRow) → marks mid ≡ marks old ++ tapes_of done →
    marks new ≡ marks mid ++ tapes_of some → marks new ≡ marks old ++ tapes_of (joined_rows done some)
grown old mid new done some s e =
    (e ∙ ap (λ (z : List Mark). z ++ tapes_of some) s) ∙ (append_assoc (marks old) (tapes_of done) (tapes_of some) ∙
    ap (λ (z : List Mark). marks old ++ z) (sym (tapes_join done some)))

-- some of them more
pub further : (Now Next Whole : Values → Type 0) (old mid new : List Item) (some : KeptRow) → SoFar Now Whole old mid →
    marks new ≡ marks mid ++ tapes_of some → ((vs : Values) → Next vs → Now (join (values_of some) vs)) →
    ((vs : Values) → Now vs → (ws : Values) × Next ws) → SoFar Next Whole old new
further Now Next Whole old mid new some s e up down = record {
  done = joined_rows s.done some;
  is = grown old mid new s.done some s.is e;
  onward = λ vs a. subst Whole (sym (ap (λ (z : Values). join z vs) (values_join s.done some)
      ∙ join_more (values_of s.done) (values_of some) vs)) (s.onward (join (values_of some) vs) (up vs a));
  back = λ vs a. let b = s.back vs a in down b.0 b.1;
}

-- and then the rest
pub ended : {T : Type 0} (Now Whole : Values → Type 0) (old mid new : List Item) (r : Result T Fault) →
    SoFar Now Whole old mid → ReadsValues Now mid new r → ReadsValues Whole old new r
ended Now Whole old mid new (Ok x) s a = record {
  kept = joined_rows s.done a.kept;
  holds = subst Whole (sym (values_join s.done a.kept)) (s.onward (values_of a.kept) a.holds);
  is = grown old mid new s.done a.kept s.is a.is;
}
ended Now Whole old mid new (Err e) s a =
    unless e ((vs : Values) → Now vs → ⊥) ((vs : Values) → Whole vs → ⊥) (λ n vs w. let b = s.back vs w in n b.0 b.1) a

pub refused : (Now Whole : Values → Type 0) (old new : List Item) → SoFar Now Whole old new →
    ((ws : Values) → Now ws → ⊥) → (vs : Values) → Whole vs → ⊥
refused Now Whole old new s not_now vs a = let b = s.back vs a in not_now b.0 b.1

-- A row is put between its ends.
pub row_read : {T : Type 0} (b : Bool) (Q : Values → Type 0) (old mid made new : List Item) (place : ℕ) (r : Result T Fault) →
    b ≡ true → place ≡ length (marks old) → marks mid ≡ marks old ++ begin_mark 0 ∷ [] → PutsValues Q mid made →
    ((front inner : List Mark) → marks made ≡ front ++ begin_mark 0 ∷ inner → place ≡ length front → OnOk r
    (marks new ≡ front ++ between (begin_mark (length inner)) inner (end_mark (length inner)))) →
    IfErr r (λ e. e ≡ faults.Memory) →
    ReadsValue (λ v. (vs : Values) × (v ≡ row vs) × (b ≡ true) × Q vs) old new r
row_read b Q old mid made new place (Ok x) constructed at opened a closed err = record {
  kept = kept_row a.kept;
  holds = (values_of a.kept, refl, constructed, a.holds);
  is = closed (marks old) (tapes_of a.kept)
      ((a.is ∙ ap (λ (z : List Mark). z ++ tapes_of a.kept) opened) ∙ append_assoc (marks old) (begin_mark 0 ∷ []) (tapes_of a.kept)) at;
}
row_read b Q old mid made new place (Err e) constructed at opened a closed err = where_memory e _ err

pub row_refused : (T U : Type 0) (b : Bool) (Q : Values → Type 0) (old mid made new : List Item) (e : Fault) →
    ReadsValues {T = U} Q mid made (Err e) →
    ReadsValue {T = T} (λ v. (vs : Values) × (v ≡ row vs) × (b ≡ true) × Q vs) old new (Err e)
row_refused T U b Q old mid made new e a = unless e ((vs : Values) → Q vs → ⊥) _ (λ n v w. n w.0 w.3) a

-- where a row begins, its place is on the tape
pub place_within : (old mid made : List Item) (Q : Values → Type 0) (place : ℕ) → place ≡ length (marks old) →
    marks mid ≡ marks old ++ begin_mark 0 ∷ [] → PutsValues Q mid made → place < length (marks made)
place_within old mid made Q place at opened a =
    let l = ap length a.is ∙ length-append (marks mid) (tapes_of a.kept) in
    let m = ap length opened ∙ length-append (marks old) (begin_mark 0 ∷ []) in
    omega (arith, l, m, at)

module _ (R : Rules) (lawful : AreLawfulRules R) where
  -- Lists.
  module _ (Sub : Parts → Value → Type 0) where
    -- an item more
    pub item_more : (Whole : Values → Type 0) (octets rest : List ℕ) (old mid new : List Item) →
        SoFar (AreItems R Sub AnyOrder octets) Whole old mid → PutsPrefix (Begins R Sub octets) mid new rest →
        SoFar (AreItems R Sub AnyOrder rest) Whole old new
    item_more Whole octets rest old mid new s f =
        further (AreItems R Sub AnyOrder octets) (AreItems R Sub AnyOrder rest) Whole old mid new
        (kept_more f.kept kept_none) s
        (f.is ∙ ap (λ (z : List Mark). marks mid ++ z) (sym (append-nil (tape_of f.kept))))
        (λ vs a. record {
          words = f.holds.word ∷ a.words;
          is = f.holds.is ∙ ap (λ (z : List ℕ). f.holds.word ++ z) a.is;
          each = (f.holds.says, a.each);
          order = tt;
        })
        (λ vs a. by_words a.words vs a.is a.each)
      where
        by_words : (words : List (List ℕ)) (vs : Values) → octets ≡ concat words → AreEach (Says R Sub) words vs →
            (ws : Values) × AreItems R Sub AnyOrder rest ws
        by_words [] vs e a = absurd (some_octets R lawful f.holds.word rest f.holds.says.parts f.holds.says.element
            (sym f.holds.is ∙ e))
        by_words (w ∷ words) none e a = absurd a
        by_words (w ∷ words) (absent vs) e a = absurd a
        by_words (w ∷ words) (more v vs) e a =
            let u = same_front R lawful octets w f.holds.word (concat words) rest a.0.parts f.holds.says.parts
            a.0.element f.holds.says.element e f.holds.is in
            (vs, record { words = words; is = sym u.1; each = a.1; order = tt })

    -- nothing is left where no value begins what is left, but for none at all
    no_items : (octets : List ℕ) → (octets ≡ [] → ⊥) → HasNoPrefix (Begins R Sub octets) → (vs : Values) →
        AreItems R Sub AnyOrder octets vs → ⊥
    no_items octets some n vs a = by_words a.words vs a.is a.each
      where
        by_words : (words : List (List ℕ)) (vs : Values) → octets ≡ concat words → AreEach (Says R Sub) words vs → ⊥
        by_words [] vs e a = some e
        by_words (w ∷ words) none e a = a
        by_words (w ∷ words) (absent vs) e a = a
        by_words (w ∷ words) (more v vs) e a = n v (concat words) (record { word = w; says = a.0; is = e })

    pub items_refused : (T : Type 0) (Whole : Values → Type 0) (rest : List ℕ) (old mid new : List Item) (e : Fault) →
        (rest ≡ [] → ⊥) → SoFar (AreItems R Sub AnyOrder rest) Whole old mid →
        ReadsPrefix (Begins R Sub rest) mid new (Err e) → ReadsValues {T = T} Whole old new (Err e)
    items_refused T Whole rest old mid new e some s a =
        unless e (HasNoPrefix (Begins R Sub rest)) ((vs : Values) → Whole vs → ⊥)
        (λ n. refused (AreItems R Sub AnyOrder rest) Whole old mid s (no_items rest some n)) a

    pub items_done : (Whole : Values → Type 0) (rest : List ℕ) (old mid : List Item) → rest ≡ [] →
        SoFar (AreItems R Sub AnyOrder rest) Whole old mid → PutsValues Whole old mid
    items_done Whole rest old mid over s =
        ended {T = Unit {0}} (AreItems R Sub AnyOrder rest) Whole old mid mid (Ok tt) s (record {
          kept = kept_none;
          holds = record { words = []; is = over; each = tt; order = tt };
          is = sym (append-nil (marks mid));
        })

  -- Fields.
  pub may_stand : (Sub : Parts → Value → Type 0) → R.defaults_written ≡ true → (presence : Presence) (v : Value) →
      MayStand R Sub presence v
  may_stand Sub written presences.Required v = tt
  may_stand Sub written presences.Optional v = tt
  may_stand Sub written (presences.Default d) v = inl written

  pub may_not : (Sub : Parts → Value → Type 0) (presence : Presence) (vs : Values) (Rest : Values → Type 0) →
      MayNot R Sub presence → LeftOut R Sub presence vs Rest → ⊥
  may_not Sub presences.Required vs Rest n a = a
  may_not Sub presences.Optional vs Rest n a = n
  may_not Sub (presences.Default d) none Rest n a = a
  may_not Sub (presences.Default d) (absent vs) Rest n a = a
  may_not Sub (presences.Default d) (more v vs) Rest n a = n v a.0

  module _ (table : List Node) (Sub : ℕ → Parts → Value → Type 0) (tag : HasItsTag table Sub) where
    begun : (t : ℕ) (octets : List ℕ) (v : Value) (rest : List ℕ) → Begins R (Sub t) octets v rest →
        BeginsTagged R table t octets
    begun t octets v rest b = record {
      word = b.word;
      rest = rest;
      parts = b.says.parts;
      element = b.says.element;
      is = b.is;
      tagged = tag t b.says.parts v b.says.value;
    }

    -- a field whose tag begins the octets is not left out
    tagged_left : (unknown : Option ℕ) (f : Field) (fs : List Field) →
        fields_unambiguous false table unknown (f ∷ fs) ≡ true →
        (octets : List ℕ) (ws : Values) → BeginsTagged R table f.of octets →
        LeftOut R (Sub f.of) f.presence ws (AreFields R Sub unknown fs octets) → ⊥
    tagged_left unknown f fs told octets ws h b =
        let d = left_rest R lawful (Sub f.of) f.presence (AreFields R Sub unknown fs octets) ws b in
        let apart : field_unambiguous false table unknown (node_at table f.of) fs ≡ true =
        of_optional (may_be_left_out f.presence) (field_unambiguous false table unknown (node_at table f.of) fs)
        (left_may R lawful (Sub f.of) f.presence (AreFields R Sub unknown fs octets) ws b)
        (first_holds (not (may_be_left_out f.presence) || field_unambiguous false table unknown (node_at table f.of) fs)
        (fields_unambiguous false table unknown fs) told) in
        no_next R lawful table Sub tag h.tagged.node.tags unknown fs octets d.0 d.1
        (subst (λ (z : Option Node). field_unambiguous false table unknown z fs ≡ true) h.tagged.found apart)
        h.word h.rest h.parts h.element h.is h.tagged.tagged

    module _ (unknown : Option ℕ) (Whole : Values → Type 0) (f : Field) (fs : List Field) (octets rest : List ℕ)
        (old mid new : List Item) where
      -- a field more
      field_more : R.defaults_written ≡ true → fields_unambiguous false table unknown (f ∷ fs) ≡ true →
          SoFar (AreFields R Sub unknown (f ∷ fs) octets) Whole old mid →
          PutsPrefix (Begins R (Sub f.of) octets) mid new rest → SoFar (AreFields R Sub unknown fs rest) Whole old new
      field_more written told s b =
          further (AreFields R Sub unknown (f ∷ fs) octets) (AreFields R Sub unknown fs rest) Whole old mid new
          (kept_more b.kept kept_none) s
          (b.is ∙ ap (λ (z : List Mark). marks mid ++ z) (sym (append-nil (tape_of b.kept))))
          (λ vs a. inl (rest, b.holds, may_stand (Sub f.of) written f.presence (value_of b.kept), a)) down
        where
          by_there : (vs : Values) → IsThere R (Sub f.of) f.presence octets vs (AreFields R Sub unknown fs) →
              (ws : Values) × AreFields R Sub unknown fs rest ws
          by_there none a = absurd a
          by_there (absent vs) a = absurd a
          by_there (more v vs) a =
              let u = same_front R lawful octets a.1.word b.holds.word a.0 rest a.1.says.parts b.holds.says.parts
              a.1.says.element b.holds.says.element a.1.is b.holds.is in
              (vs, subst (λ (z : List ℕ). AreFields R Sub unknown fs z vs) u.1 a.3)

          down : (vs : Values) → AreFields R Sub unknown (f ∷ fs) octets vs →
              (ws : Values) × AreFields R Sub unknown fs rest ws
          down vs (inl a) = by_there vs a
          down vs (inr a) = absurd (tagged_left unknown f fs told octets vs
              (begun f.of octets (value_of b.kept) rest b.holds) a)

      -- a field that is left out
      field_less : SoFar (AreFields R Sub unknown (f ∷ fs) octets) Whole old mid →
          LeavesOut R (Sub f.of) f.presence octets mid new rest → SoFar (AreFields R Sub unknown fs rest) Whole old new
      field_less s b = by_presence f.presence refl b.left
        where
          down : (vs : Values) → AreFields R Sub unknown (f ∷ fs) octets vs →
              (ws : Values) × AreFields R Sub unknown fs rest ws
          down vs (inl a) =
              let c = there_begins R lawful (Sub f.of) f.presence octets vs (AreFields R Sub unknown fs) a in
              absurd (b.none c.0 c.1 c.2)
          down vs (inr a) =
              let c = left_rest R lawful (Sub f.of) f.presence (AreFields R Sub unknown fs octets) vs a in
              (c.0, subst (λ (z : List ℕ). AreFields R Sub unknown fs z c.0) (sym b.stays) c.1)

          by_presence : (presence : Presence) → f.presence ≡ presence → PutsLeftOut R (Sub f.of) presence mid new →
              SoFar (AreFields R Sub unknown fs rest) Whole old new
          by_presence presences.Required e l = absurd l
          by_presence presences.Optional e l =
              further (AreFields R Sub unknown (f ∷ fs) octets) (AreFields R Sub unknown fs rest) Whole old mid new
              (kept_absent kept_none) s l
              (λ vs a. inr (subst (λ (z : Presence). LeftOut R (Sub f.of) z (absent vs) (AreFields R Sub unknown fs octets))
              (sym e) (subst (λ (z : List ℕ). AreFields R Sub unknown fs z vs) b.stays a))) down
          by_presence (presences.Default d) e l =
              further (AreFields R Sub unknown (f ∷ fs) octets) (AreFields R Sub unknown fs rest) Whole old mid new
              (kept_more l.kept kept_none) s
              (l.is ∙ ap (λ (z : List Mark). marks mid ++ z) (sym (append-nil (tape_of l.kept))))
              (λ vs a. inr (subst (λ (z : Presence). LeftOut R (Sub f.of) z (more (value_of l.kept) vs)
              (AreFields R Sub unknown fs octets)) (sym e)
              (l.holds, subst (λ (z : List ℕ). AreFields R Sub unknown fs z vs) b.stays a))) down

    -- a field that is missing
    no_fields : (unknown : Option ℕ) (f : Field) (fs : List Field) (octets : List ℕ) →
        fields_unambiguous false table unknown (f ∷ fs) ≡ true →
        IsMissing R (Sub f.of) (BeginsTagged R table f.of octets) f.presence octets → (vs : Values) →
        AreFields R Sub unknown (f ∷ fs) octets vs → ⊥
    no_fields unknown f fs octets told m vs (inl a) =
        let c = there_begins R lawful (Sub f.of) f.presence octets vs (AreFields R Sub unknown fs) a in
        m.none c.0 c.1 c.2
    no_fields unknown f fs octets told m vs (inr a) = elim m.why [
      | inl h ↦ tagged_left unknown f fs told octets vs h a
      | inr n ↦ may_not (Sub f.of) f.presence vs (AreFields R Sub unknown fs octets) n a
    ]

    -- The loop.
    pub fields_further : R.defaults_written ≡ true → (unknown : Option ℕ) (Whole : Values → Type 0) (left : List Field)
        (f : Field) (fs : List Field) (rest tail : List ℕ) (old mid new : List Item) → left ≡ f ∷ fs →
        fields_unambiguous false table unknown left ≡ true → SoFar (AreFields R Sub unknown left rest) Whole old mid →
        PutsPrefix (Begins R (Sub f.of) rest) mid new tail ⊎ LeavesOut R (Sub f.of) f.presence rest mid new tail →
        SoFar (AreFields R Sub unknown fs tail) Whole old new
    fields_further written unknown Whole left f fs rest tail old mid new is told s read = elim read [
      | inl b ↦ field_more unknown Whole f fs rest tail old mid new written
          (subst (λ (z : List Field). fields_unambiguous false table unknown z ≡ true) is told)
          (subst (λ (z : List Field). SoFar (AreFields R Sub unknown z rest) Whole old mid) is s) b
      | inr b ↦ field_less unknown Whole f fs rest tail old mid new
          (subst (λ (z : List Field). SoFar (AreFields R Sub unknown z rest) Whole old mid) is s) b
    ]

    pub fields_refused : (T : Type 0) (unknown : Option ℕ) (Whole : Values → Type 0) (left : List Field) (f : Field)
        (fs : List Field) (rest : List ℕ) (old mid new : List Item) (e : Fault) → left ≡ f ∷ fs →
        fields_unambiguous false table unknown left ≡ true → SoFar (AreFields R Sub unknown left rest) Whole old mid →
        ReadsByPresence R (Sub f.of) (BeginsTagged R table f.of rest) f.presence rest mid new (Err e) →
        ReadsValues {T = T} Whole old new (Err e)
    fields_refused T unknown Whole left f fs rest old mid new e is told s m =
        unless e (IsMissing R (Sub f.of) (BeginsTagged R table f.of rest) f.presence rest) ((vs : Values) → Whole vs → ⊥)
        (λ n. refused (AreFields R Sub unknown (f ∷ fs) rest) Whole old mid
        (subst (λ (z : List Field). SoFar (AreFields R Sub unknown z rest) Whole old mid) is s)
        (no_fields unknown f fs rest (subst (λ (z : List Field). fields_unambiguous false table unknown z ≡ true) is told) n)) m

    -- the unknown elements behind the fields
    pub fields_ended : {T : Type 0} (unknown : Option ℕ) (Whole : Values → Type 0) (left : List Field) (rest : List ℕ)
        (old mid new : List Item) (r : Result T Fault) → left ≡ [] →
        SoFar (AreFields R Sub unknown left rest) Whole old mid →
        ReadsValues (AreUnknown R Sub unknown rest) mid new r →
        ReadsValues Whole old new r
    fields_ended unknown Whole left rest old mid new r none_left s a =
        ended (AreFields R Sub unknown [] rest) Whole old mid new r
        (subst (λ (z : List Field). SoFar (AreFields R Sub unknown z rest) Whole old mid) none_left s) a

    -- there are none
    pub none_behind : (unknown : Option ℕ) (rest : List ℕ) (mid : List Item) → unknown ≡ None → rest ≡ [] →
        PutsValues (AreUnknown R Sub unknown rest) mid mid
    none_behind unknown rest mid e over = subst (λ (z : Option ℕ). PutsValues (AreUnknown R Sub z rest) mid mid) (sym e)
        (record { kept = kept_none; holds = (over, refl); is = sym (append-nil (marks mid)) })

    pub some_behind : (unknown : Option ℕ) (rest : List ℕ) → unknown ≡ None → (rest ≡ [] → ⊥) → (vs : Values) →
        AreUnknown R Sub unknown rest vs → ⊥
    some_behind unknown rest e some =
        subst (λ (z : Option ℕ). (vs : Values) → AreUnknown R Sub z rest vs → ⊥) (sym e) (λ vs a. some a.0)

    -- A field.
    pub field_there : (presence : Presence) (t : ℕ) (octets rest : List ℕ) (p : Parts) (old new : List Item) →
        HasPrefix R.ElementOf octets p rest → PutsValue (Sub t p) old new →
        PutsPrefix (Begins R (Sub t) octets) old new rest ⊎ LeavesOut R (Sub t) presence octets old new rest
    field_there presence t octets rest p old new f a = inl (record {
      kept = a.kept;
      holds = record { word = f.word; says = record { parts = p; element = f.fits; value = a.holds }; is = f.is };
      is = a.is;
    })

    pub field_refused : (T : Type 0) (presence : Presence) (t : ℕ) (octets rest : List ℕ) (p : Parts)
        (old mid new : List Item) (e : Fault) → HasPrefix R.ElementOf octets p rest → HasTagAt table t p.id →
        ReadsValue {T = T} (Sub t p) old mid (Err e) →
        ReadsByPresence R (Sub t) (BeginsTagged R table t octets) presence octets old new (Err e)
    field_refused T presence t octets rest p old mid new e f h a =
        unless e ((v : Value) → Sub t p v → ⊥) (IsMissing R (Sub t) (BeginsTagged R table t octets) presence octets)
        (λ n. record {
          none = λ v r b.
              let u = same_front R lawful octets b.word f.word r rest b.says.parts p b.says.element f.fits b.is f.is in
              n v (subst (λ (z : Parts). Sub t z v) u.0 b.says.value);
          why = inl (record { word = f.word; rest = rest; parts = p; element = f.fits; is = f.is; tagged = h });
        }) a

    pub no_tag : (t : ℕ) (octets : List ℕ) → (BeginsTagged R table t octets → ⊥) → HasNoPrefix (Begins R (Sub t) octets)
    no_tag t octets n v rest b = n (begun t octets v rest b)

    pub field_away : (presence : Presence) (t : ℕ) (octets : List ℕ) (e : Fault) → (BeginsTagged R table t octets → ⊥) →
        UnlessMemory e (MayNot R (Sub t) presence) →
        UnlessMemory e (IsMissing R (Sub t) (BeginsTagged R table t octets) presence octets)
    field_away presence t octets e n a =
        unless e (MayNot R (Sub t) presence) (IsMissing R (Sub t) (BeginsTagged R table t octets) presence octets)
        (λ m. record { none = no_tag t octets n; why = inr m }) a

-- What is put for a field that is left out.
module _ (R : Rules) (Sub : Parts → Value → Type 0) (presence : Presence) where
  pub left_absent : {T : Type 0} (old new : List Item) (r : Result T Fault) → presence ≡ presences.Optional →
      OnOk r (marks new ≡ marks old ++ absent_mark ∷ []) → IfErr r (λ e. e ≡ faults.Memory) →
      ReadsLeftOut R Sub presence old new r
  left_absent old new (Ok x) is put err =
      subst (λ (z : Presence). PutsLeftOut R Sub z old new) (sym is) put
  left_absent old new (Err e) is put err = where_memory e (MayNot R Sub presence) err

  pub default_away : (d : Vec ℕ Global) (e : Fault) → presence ≡ presences.Default d →
      UnlessMemory e ((v : Value) → Says R Sub d.items v → ⊥) → UnlessMemory e (MayNot R Sub presence)
  default_away d e is a =
      subst (λ (z : Presence). UnlessMemory e (MayNot R Sub z)) (sym is) a
