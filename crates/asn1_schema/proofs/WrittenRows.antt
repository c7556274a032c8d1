-- Rows of fields and unknown elements are written.
use Rattle.std.proofs.Common.{◌≡◌, ◌∙◌, ap, sym, subst, refl, ℕ, suc, ◌+◌, ◌-◌, ◌<◌, ◌≤◌, inl, inr, true, List, [], ◌∷◌, ◌++◌, append_assoc, append-nil, length, length-append, arith}
use Rattle.std.specs.Prelude.{◌⊎◌, Option, Some, None, Result, Ok, Err, IfSome, IfNone}
use Rattle.std.specs.declared.vec.Vec.{Vec}
use Rattle.std.specs.declared.alloc.Global.{Global}
use Rattle.x690.specs.Octets.{IsOctets}
use Rattle.x690.specs.Elements.{Parts}
use Rattle.x690.specs.Laws.Octets.{below_octets, octets_append}
use Rattle.asn1_schema.specs.declared.fault.Fault.{Fault}
use Rattle.asn1_schema.specs.declared.schema.Presence.{Presence}
use Rattle.asn1_schema.specs.declared.schema.Presence.TheVariants as presences
use Rattle.asn1_schema.specs.declared.schema.Field.{Field}
use Rattle.asn1_schema.specs.declared.schema.Node.{Node}
use Rattle.asn1_schema.specs.declared.tape.Item.{Item}
use Rattle.asn1_schema.specs.Values.{Value, Values, row, absent, more, count}
use Rattle.asn1_schema.specs.Grammar.{Says, LeftOut, MayStand, AreUnknown, AreFields, Body, Word}
use Rattle.asn1_schema.specs.Rules.{strict}
use Rattle.asn1_schema.specs.Sound.{is_sound}
use Rattle.asn1_schema.specs.Tape.{Kept, KeptRow, kept_row, kept_none, kept_absent, kept_more, Mark, begin_mark, end_mark, absent_mark, between, tape_of, tapes_of, value_of, values_of}
use Rattle.asn1_schema.specs.Writing.{before, PutsWord, NoneAtEnd, Writes, PutsFields, NoRowAtEnd, WritesRow, NoFieldAtEnd, PutsByPresence, WritesField, Omits, WritesDefault, member_count, AreCounted, WrittenSoFar, BeginsRow, row_behind}
use Rattle.asn1_schema.proofs.OneWord.{one_word}
use Rattle.asn1_schema.proofs.SameParts.{same_last}
use Rattle.asn1_schema.proofs.TruncatedTapes.{length_before}
use Rattle.asn1_schema.proofs.LastMarks.{ends, row_kept, rows_back}
use Rattle.asn1_schema.proofs.WrittenLeaves.{grew_on}

-- A field that is there, and one that is left out.

pub optional_written : (P : List ℕ → Value → Type 0) (presence : Presence) (tape : List Item) (at : ℕ)
    (old new : List ℕ) (r : Result ℕ Fault) → presence ≡ presences.Optional →
    ((rest : List Mark) → before tape at ≡ rest ++ absent_mark ∷ [] → ⊥) → Writes P tape at old new r →
    WritesField P presence tape at old new r
optional_written P presence tape at old new r o n w =
    subst (λ (z : Presence). WritesField P z tape at old new r) (sym o) (by_answer r w)
  where
    by_answer : (r : Result ℕ Fault) → Writes P tape at old new r → WritesField P presences.Optional tape at old new r
    by_answer (Ok rest) w = (w.0, inl w.1)
    by_answer (Err e) w = (λ is. (w.0 is, λ _. n), w.1)

pub required_written : (P : List ℕ → Value → Type 0) (presence : Presence) (tape : List Item) (at : ℕ)
    (old new : List ℕ) (r : Result ℕ Fault) → presence ≡ presences.Required → Writes P tape at old new r →
    WritesField P presence tape at old new r
required_written P presence tape at old new r o w =
    subst (λ (z : Presence). WritesField P z tape at old new r) (sym o) (by_answer r w)
  where
    by_answer : (r : Result ℕ Fault) → Writes P tape at old new r → WritesField P presences.Required tape at old new r
    by_answer (Ok rest) w = w
    by_answer (Err e) w = (λ is. (w.0 is, λ f. absurd (cc)), w.1)

pub absent_written : (P : List ℕ → Value → Type 0) (presence : Presence) (tape : List Item) (at : ℕ) (old : List ℕ) →
    presence ≡ presences.Optional → (0 < at) × (before tape at ≡ before tape (at - 1) ++ absent_mark ∷ []) →
    WritesField P presence tape at old old (Ok (at - 1))
absent_written P presence tape at old o a =
    subst (λ (z : Presence). WritesField P z tape at old old (Ok (at - 1))) (sym o)
    (omega arith, inr (record { optional = refl; taken = a.1; put = refl }))

pub default_written : (P : List ℕ → Value → Type 0) (presence : Presence) (d : Vec ℕ Global) (tape : List Item) (at : ℕ)
    (old new : List ℕ) (r : Result ℕ Fault) → presence ≡ presences.Default d →
    WritesDefault P d.items tape at old new r → WritesField P presence tape at old new r
default_written P presence d tape at old new r o w =
    subst (λ (z : Presence). WritesField P z tape at old new r) (sym o) (by_answer r w)
  where
    by_answer : (r : Result ℕ Fault) → WritesDefault P d.items tape at old new r →
        WritesField P (presences.Default d) tape at old new r
    by_answer (Ok rest) w = w
    by_answer (Err e) w = (λ is. (w.0 is, λ f. absurd (cc)), w.1)

-- the word of a value that was written, where that of the default is taken back
pub omitted : (P : List ℕ → Value → Type 0) (d : List ℕ) (tape : List Item) (at rest : ℕ) (old mid new : List ℕ)
    (held : ℕ) → held ≡ length old → Writes P tape at old mid (Ok rest) →
    ((word behind : List ℕ) → mid ≡ word ++ behind → held ≡ length behind → Omits d word behind new) →
    WritesDefault P d tape at old new (Ok rest)
omitted P d tape at rest old mid new held h w f = (
  w.0,
  record {
    word = w.1.word;
    kept = w.1.kept;
    are_octets = w.1.are_octets;
    holds = w.1.holds;
    taken = w.1.taken;
    put = f w.1.word old w.1.put h;
  },
)

-- A word of a field was put in front, which may stand there. Or the field is left out in front of others.
abbrev pub IsPut : (Parts → Value → Type 0) → Presence → List Mark → List Mark → List ℕ → List ℕ → Type 0
IsPut S presence tape rest mid new =
    (w : PutsWord (Says strict S) tape rest mid new) × MayStand strict S presence (value_of w.kept)

abbrev pub IsAway : (Parts → Value → Type 0) → Presence → KeptRow → (Values → Type 0) → List Mark → List Mark → List ℕ →
    List ℕ → Type 0
IsAway S presence ks Rest tape rest mid new = (js : KeptRow) × (front : List Mark) ×
    LeftOut strict S presence (values_of js) Rest × (tape ≡ rest ++ front) × (tapes_of js ≡ front ++ tapes_of ks) ×
    (new ≡ mid) × (member_count (values_of js) ≡ suc (member_count (values_of ks)))

pub placed : (table : List Node) → is_sound table ≡ true → (depth t : ℕ) (presence : Presence) (ks : KeptRow)
    (Rest : Values → Type 0) → Rest (values_of ks) → (tape rest : List Mark) (mid new : List ℕ) →
    PutsByPresence (Word strict table depth t) presence tape rest mid new →
    IsPut (Body strict table depth t) presence tape rest mid new ⊎
    IsAway (Body strict table depth t) presence ks Rest tape rest mid new
placed table sound depth t presences.Required ks Rest h tape rest mid new w = inl (w, tt)
placed table sound depth t presences.Optional ks Rest h tape rest mid new (inl w) = inl (w, tt)
placed table sound depth t presences.Optional ks Rest h tape rest mid new (inr w) =
    inr (kept_absent ks, absent_mark ∷ [], h, w.taken, refl, w.put, refl)
placed table sound depth t (presences.Default d) ks Rest h tape rest mid new w = elim w.put.told [
  | inl same ↦ inr (
    kept_more w.kept ks,
    tape_of w.kept,
    (subst (λ (z : List ℕ). Word strict table depth t z (value_of w.kept)) same w.holds, h),
    w.taken,
    refl,
    w.put.omitted same,
    refl,
  )
  | inr differs ↦ inl (
    record {
      word = w.word;
      kept = w.kept;
      are_octets = w.are_octets;
      holds = w.holds;
      taken = w.taken;
      put = w.put.kept differs;
    },
    inr (λ s. differs (one_word table sound depth t w.word d.items (value_of w.kept) w.holds s)),
  )
]

-- a row whose first field is left out
abbrev pub LeftParts : (Parts → Value → Type 0) → Presence → KeptRow → (Values → Type 0) → Type 0
LeftParts S presence ks Rest =
    ((js : KeptRow) × (presence ≡ presences.Optional) × (ks ≡ kept_absent js) × Rest (values_of js)) ⊎
    ((js : KeptRow) × (k : Kept) × (d : List ℕ) × (ks ≡ kept_more k js) × Says strict S d (value_of k) × Rest (values_of js))

pub left_parts : (S : Parts → Value → Type 0) (presence : Presence) (ks : KeptRow) (Rest : Values → Type 0) →
    LeftOut strict S presence (values_of ks) Rest → LeftParts S presence ks Rest
left_parts S presences.Required kept_none Rest a = absurd a
left_parts S presences.Required (kept_absent ks) Rest a = absurd a
left_parts S presences.Required (kept_more k ks) Rest a = absurd a
left_parts S presences.Optional kept_none Rest a = absurd a
left_parts S presences.Optional (kept_absent ks) Rest a = inl (ks, refl, refl, a)
left_parts S presences.Optional (kept_more k ks) Rest a = absurd a
left_parts S (presences.Default d) kept_none Rest a = absurd a
left_parts S (presences.Default d) (kept_absent ks) Rest a = absurd a
left_parts S (presences.Default d) (kept_more k ks) Rest a = inr (ks, k, d.items, refl, a.0, a.1)

module _ (table : List Node) (depth : ℕ) (unknown : Option ℕ) where
  abbrev Sub : ℕ → Parts → Value → Type 0
  Sub = Body strict table depth

  abbrev Fields : List Field → List ℕ → Values → Type 0
  Fields = AreFields strict Sub unknown

  -- the fields are to be written yet
  pub fields_begun : (count : ℕ) (fields : List Field) (tape : List Item) (at place : ℕ) (old mid : List ℕ) →
      WritesRow (AreCounted table depth unknown count []) tape at old mid (Ok place) →
      WrittenSoFar table depth unknown count fields fields tape at place old mid
  fields_begun count fields tape at place old mid w = record {
    done = [];
    parts = sym (append-nil fields);
    within = w.0;
    row = w.1;
  }

  -- a field is put in front of those that are
  abbrev More : Field → List Field → List ℕ → KeptRow → List Mark → List Mark → List ℕ → List ℕ → Type 0
  More f done octets ks tape rest mid new = (word : List ℕ) × (front : List Mark) × (entry : KeptRow → KeptRow) ×
      IsOctets word × Fields (f ∷ done) (word ++ octets) (values_of (entry ks)) ×
      (tape ≡ rest ++ front) × (tapes_of (entry ks) ≡ front ++ tapes_of ks) × (new ≡ word ++ mid) ×
      (member_count (values_of (entry ks)) ≡ suc (member_count (values_of ks)))

  more_there : (f : Field) (done : List Field) (octets : List ℕ) (ks : KeptRow) (tape rest : List Mark) (mid new : List ℕ)
      (w : PutsWord (Word strict table depth f.of) tape rest mid new) →
      MayStand strict (Sub f.of) f.presence (value_of w.kept) → Fields done octets (values_of ks) →
      More f done octets ks tape rest mid new
  more_there f done octets ks tape rest mid new w may h = (
    w.word,
    tape_of w.kept,
    kept_more w.kept,
    w.are_octets,
    inl (octets, record { word = w.word; says = w.holds; is = refl }, may, h),
    w.taken,
    refl,
    w.put,
    refl,
  )

  more_placed : is_sound table ≡ true → (f : Field) (done : List Field) (octets : List ℕ) (ks : KeptRow)
      (tape rest : List Mark) (mid new : List ℕ) → Fields done octets (values_of ks) →
      PutsByPresence (Word strict table depth f.of) f.presence tape rest mid new →
      More f done octets ks tape rest mid new
  more_placed sound f done octets ks tape rest mid new h w =
      elim (placed table sound depth f.of f.presence ks (Fields done octets) h tape rest mid new w) [
        | inl a ↦ more_there f done octets ks tape rest mid new a.0 a.1 h
        | inr a ↦ ([], a.1, λ js. a.0, below_octets [] tt, inr a.2, a.3, a.4, a.5, a.6)
      ]

  -- one more is written
  pub field_written : is_sound table ≡ true → (count : ℕ) (fields left others : List Field) (f : Field) (tape : List Item)
      (at rest place : ℕ) (old mid new : List ℕ) → WrittenSoFar table depth unknown count fields left tape at rest old mid →
      left ≡ others ++ f ∷ [] → WritesField (Word strict table depth f.of) f.presence tape rest mid new (Ok place) →
      WrittenSoFar table depth unknown count fields others tape at place old new
  field_written sound count fields left others f tape at rest place old mid new s l w =
      let row = s.row in
      let m = more_placed sound f s.done row.octets row.kept (before tape rest) (before tape place) mid new row.holds.0
      w.1 in
      let size = row.holds.1 in
      let one = m.8 in
      record {
        done = f ∷ s.done;
        parts = s.parts ∙ (ap (λ (z : List Field). z ++ s.done) l ∙ append_assoc others (f ∷ []) s.done);
        within = omega (arith, w.0, s.within);
        row = record {
          octets = m.0 ++ row.octets;
          kept = m.2 row.kept;
          are_octets = octets_append m.0 row.octets m.3 row.are_octets;
          holds = (m.4, omega (arith, size, one));
          taken = row.taken ∙ (ap (λ (z : List Mark). z ++ tapes_of row.kept) m.5
              ∙ (append_assoc (before tape place) m.1 (tapes_of row.kept)
              ∙ ap (λ (z : List Mark). before tape place ++ z) (sym m.6)));
          put = m.7 ∙ (ap (λ (z : List ℕ). m.0 ++ z) row.put ∙ sym (append_assoc m.0 row.octets old));
        };
      }

  -- a row of fields ends with a row of the last ones
  pub record Split (ys : List Field) (n : ℕ) (ks : KeptRow) : Type 0 where
    pub front : List Mark
    pub rest : List ℕ
    pub tapes : tapes_of ks ≡ front ++ tapes_of (row_behind n ks)
    pub holds : Fields ys rest (values_of (row_behind n ks))
    pub counted : member_count (values_of ks) ≡ n + member_count (values_of (row_behind n ks))

  pub fields_split : (xs ys : List Field) (o : List ℕ) (ks : KeptRow) → Fields (xs ++ ys) o (values_of ks) →
      Split ys (length xs) ks
  fields_split [] ys o ks a = record { front = []; rest = o; tapes = refl; holds = a; counted = omega arith }
  fields_split (x ∷ xs) ys o kept_none (inl a) = absurd a
  fields_split (x ∷ xs) ys o (kept_absent ks) (inl a) = absurd a
  fields_split (x ∷ xs) ys o (kept_more k ks) (inl a) =
      let u = fields_split xs ys a.0 ks a.3 in
      let c = u.counted in
      record {
        front = tape_of k ++ u.front;
        rest = u.rest;
        tapes = ap (λ (z : List Mark). tape_of k ++ z) u.tapes
            ∙ sym (append_assoc (tape_of k) u.front (tapes_of (row_behind (length xs) ks)));
        holds = u.holds;
        counted = omega (arith, c);
      }
  fields_split (x ∷ xs) ys o ks (inr a) =
      elim (left_parts (Sub x.of) x.presence ks (Fields (xs ++ ys) o) a) [
        | inl b ↦
            let u = fields_split xs ys o b.0 b.3 in
            let c = u.counted in
            subst (λ (z : KeptRow). Split ys (suc (length xs)) z) (sym b.2) (record {
              front = absent_mark ∷ u.front;
              rest = u.rest;
              tapes = ap (λ (z : List Mark). absent_mark ∷ z) u.tapes;
              holds = u.holds;
              counted = omega (arith, c);
            })
        | inr b ↦
            let u = fields_split xs ys o b.0 b.5 in
            let c = u.counted in
            subst (λ (z : KeptRow). Split ys (suc (length xs)) z) (sym b.3) (record {
              front = tape_of b.1 ++ u.front;
              rest = u.rest;
              tapes = ap (λ (z : List Mark). tape_of b.1 ++ z) u.tapes
                  ∙ sym (append_assoc (tape_of b.1) u.front (tapes_of (row_behind (length xs) b.0)));
              holds = u.holds;
              counted = omega (arith, c);
            })
      ]

  -- where what is behind the fields is refused, so is the row
  pub unknown_refused : (count : ℕ) (fields : List Field) (tape : List Mark) →
      NoRowAtEnd (AreCounted table depth unknown count []) tape → NoRowAtEnd (AreCounted table depth unknown count fields) tape
  unknown_refused count fields tape nothing octets kept front holds e =
      let u = fields_split fields [] octets kept
      (subst (λ (z : List Field). Fields z octets (values_of kept)) (sym (append-nil fields)) holds.0) in
      let n = holds.1 in
      let c = u.counted in
      nothing u.rest (row_behind (length fields) kept) (front ++ u.front) (u.holds, omega (arith, n, c))
      (e ∙ (ap (λ (z : List Mark). front ++ z) u.tapes
      ∙ sym (append_assoc front u.front (tapes_of (row_behind (length fields) kept)))))

  pub fields_unbegun : (count : ℕ) (fields : List Field) (tape : List Item) (at : ℕ) (old new : List ℕ) (e : Fault) →
      WritesRow (AreCounted table depth unknown count []) tape at old new (Err e) →
      WritesRow (AreCounted table depth unknown count fields) tape at old new (Err e)
  fields_unbegun count fields tape at old new e w =
      (λ is. unknown_refused count fields (before tape at) (w.0 is), w.1)

  -- where a field is refused, so is the row
  module _ (count : ℕ) (fields left others : List Field) (f : Field) (tape : List Item) (at rest : ℕ) (old mid : List ℕ)
      (s : WrittenSoFar table depth unknown count fields left tape at rest old mid) (l : left ≡ others ++ f ∷ [])
      (nothing : NoFieldAtEnd (Word strict table depth f.of) f.presence (before tape rest)) where
    same_rest : (ks : KeptRow) (a : List Mark) → member_count (values_of ks) ≡ length s.done + count →
        before tape at ≡ a ++ tapes_of ks → a ≡ before tape rest
    same_rest ks a n e = (rows_back ks s.row.kept a (before tape rest) (n ∙ sym s.row.holds.1) (sym e ∙ s.row.taken)).1

    last_field : (ks : KeptRow) (o : List ℕ) (a : List Mark) → before tape at ≡ a ++ tapes_of ks →
        member_count (values_of ks) ≡ suc (length s.done + count) → Fields (f ∷ s.done) o (values_of ks) → ⊥
    last_field kept_none o a g n (inl b) = b
    last_field (kept_absent ks) o a g n (inl b) = b
    last_field (kept_more k ks) o a g n (inl b) =
        let t = same_rest ks (a ++ tape_of k) (omega (arith, n)) (g ∙ sym (append_assoc a (tape_of k) (tapes_of ks))) in
        nothing.0 b.1.word k a b.1.says (sym t)
    last_field ks o a g n (inr b) =
        elim (left_parts (Sub f.of) f.presence ks (Fields s.done o) b) [
          | inl c ↦
              let size = ap (λ (z : KeptRow). member_count (values_of z)) c.2 in
              let t = same_rest c.0 (a ++ absent_mark ∷ []) (omega (arith, n, size))
              (g ∙ (ap (λ (z : List Mark). a ++ z) (ap tapes_of c.2)
              ∙ sym (append_assoc a (absent_mark ∷ []) (tapes_of c.0)))) in
              nothing.1 c.1 a (sym t)
          | inr c ↦
              let size = ap (λ (z : KeptRow). member_count (values_of z)) c.3 in
              let t = same_rest c.0 (a ++ tape_of c.1) (omega (arith, n, size))
              (g ∙ (ap (λ (z : List Mark). a ++ z) (ap tapes_of c.3)
              ∙ sym (append_assoc a (tape_of c.1) (tapes_of c.0)))) in
              nothing.0 c.2 c.1 a c.4 (sym t)
        ]

    pub fields_refused : NoRowAtEnd (AreCounted table depth unknown count fields) (before tape at)
    fields_refused octets kept front holds e =
        let parts : fields ≡ others ++ (f ∷ s.done) =
        s.parts ∙ (ap (λ (z : List Field). z ++ s.done) l ∙ append_assoc others (f ∷ []) s.done) in
        let size = ap length parts ∙ length-append others (f ∷ s.done) in
        let u = fields_split others (f ∷ s.done) octets kept
        (subst (λ (z : List Field). Fields z octets (values_of kept)) parts holds.0) in
        let n = holds.1 in
        let c = u.counted in
        last_field (row_behind (length others) kept) u.rest (front ++ u.front)
        (e ∙ (ap (λ (z : List Mark). front ++ z) u.tapes
        ∙ sym (append_assoc front u.front (tapes_of (row_behind (length others) kept)))))
        (omega (arith, n, c, size)) u.holds

  pub fields_stopped : (count : ℕ) (fields left others : List Field) (f : Field) (tape : List Item) (at rest : ℕ)
      (old mid new : List ℕ) (e : Fault) → WrittenSoFar table depth unknown count fields left tape at rest old mid →
      left ≡ others ++ f ∷ [] → WritesField (Word strict table depth f.of) f.presence tape rest mid new (Err e) →
      WritesRow (AreCounted table depth unknown count fields) tape at old new (Err e)
  fields_stopped count fields left others f tape at rest old mid new e s l w = (
    λ is. fields_refused count fields left others f tape at rest old mid s l (w.0 is),
    grew_on old mid new (s.row.octets, s.row.put) w.1,
  )

  none_left : (xs : List Field) → length xs ≡ 0 → xs ≡ []
  none_left [] l = refl
  none_left (x ∷ xs) l = absurd (omega (arith, l))

  -- all fields are written
  pub fields_written : (count : ℕ) (fields left : List Field) (tape : List Item) (at rest : ℕ) (old new : List ℕ) →
      WrittenSoFar table depth unknown count fields left tape at rest old new → length left ≡ 0 →
      WritesRow (AreCounted table depth unknown count fields) tape at old new (Ok rest)
  fields_written count fields left tape at rest old new s l =
      let e : fields ≡ s.done = s.parts ∙ ap (λ (z : List Field). z ++ s.done) (none_left left l) in (
        s.within,
        subst (λ (z : List Field). PutsFields (AreCounted table depth unknown count z) (before tape at) (before tape rest)
            old new) (sym e) s.row,
      )

  -- the row is counted
  pub fields_counted : (n : ℕ) (fields : List Field) (octets : List ℕ) (kept : KeptRow) →
      IfSome unknown (λ t. n ≡ member_count (values_of (row_behind (length fields) kept))) → IfNone unknown (n ≡ 0) →
      Fields fields octets (values_of kept) → member_count (values_of kept) ≡ length fields + n
  fields_counted n fields octets kept some nothing h =
      let u = fields_split fields [] octets kept
      (subst (λ (z : List Field). Fields z octets (values_of kept)) (sym (append-nil fields)) h) in
      let c = u.counted in
      let d = by_mark unknown u.rest (values_of (row_behind (length fields) kept)) some nothing u.holds in
      omega (arith, c, d)
    where
      by_mark : (unknown : Option ℕ) (o : List ℕ) (vs : Values) → IfSome unknown (λ t. n ≡ member_count vs) →
          IfNone unknown (n ≡ 0) → AreUnknown strict Sub unknown o vs → member_count vs ≡ n
      by_mark None o vs s z a = ap member_count a.1 ∙ sym z
      by_mark (Some t) o vs s z a = sym s

-- A row ends with its end, and begins where it says.
module _ (P : List ℕ → Values → Type 0) (size : ℕ) where
  abbrev Row : List ℕ → Value → Type 0
  Row content v = (vs : Values) × (v ≡ row vs) × P content vs

  abbrev Counted : List ℕ → Values → Type 0
  Counted octets vs = P octets vs × (member_count vs ≡ size)

  row_inside : (word : List ℕ) (kept : Kept) (tape front : List Mark) → Row word (value_of kept) →
      tape ≡ front ++ tape_of kept → (ks : KeptRow) × P word (values_of ks) × (tape ≡ ((front ++
      begin_mark (length (tapes_of ks)) ∷ []) ++ tapes_of ks) ++ end_mark (length (tapes_of ks)) ∷ [])
  row_inside word kept tape front holds e =
      let k = row_kept kept holds.0 holds.1 in
      let n = length (tapes_of k.0) in
      let f = ends tape front (kept_row k.0) (e ∙ ap (λ (z : Kept). front ++ tape_of z) k.1) in (
        k.0,
        subst (λ (z : Values). P word z) (sym k.2) holds.2,
        f ∙ ap (λ (z : List Mark). z ++ end_mark n ∷ []) (sym (append_assoc front (begin_mark n ∷ []) (tapes_of k.0))),
      )

  pub no_row_end : (tape : List Mark) →
      ((n : ℕ) (rest : List Mark) → tape ≡ rest ++ end_mark n ∷ [] → ⊥) → NoneAtEnd Row tape
  no_row_end tape nothing word kept front holds e =
      let r = row_inside word kept tape front holds e in
      nothing (length (tapes_of r.0)) ((front ++ begin_mark (length (tapes_of r.0)) ∷ []) ++ tapes_of r.0) r.2

  same_end : (n k : ℕ) → end_mark n ≡ end_mark k → n ≡ k
  same_end n k e = cc

  -- how many members a row between its end and its beginning has
  abbrev Counts : List Mark → ℕ → Type 0
  Counts tape n = (octets : List ℕ) (front : List Mark) (ks : KeptRow) → P octets (values_of ks) →
      tape ≡ front ++ tapes_of ks → length (tapes_of ks) ≡ n → member_count (values_of ks) ≡ size

  pub row_stopped : (tape : List Item) (at n : ℕ) (old new : List ℕ) (e : Fault) →
      before tape at ≡ before tape (at - 1) ++ end_mark n ∷ [] → Counts (before tape (at - 1)) n →
      WritesRow Counted tape (at - 1) old new (Err e) → Writes Row tape at old new (Err e)
  row_stopped tape at n old new e last counts w = (
    λ is word kept front holds f.
        let r = row_inside word kept (before tape at) front holds f in
        let t = same_last (before tape (at - 1)) ((front ++ begin_mark (length (tapes_of r.0)) ∷ []) ++ tapes_of r.0)
        (end_mark n) (end_mark (length (tapes_of r.0))) (sym last ∙ r.2) in
        let a = front ++ begin_mark (length (tapes_of r.0)) ∷ [] in
        w.0 is word r.0 a (r.1, counts word a r.0 r.1 t.0 (sym (same_end n (length (tapes_of r.0)) t.1))) t.0,
    w.1,
  )

  pub row_ended : (tape : List Item) (at rest n : ℕ) (old new : List ℕ) (r : Result ℕ Fault) →
      at ≤ length tape → 0 < at → before tape at ≡ before tape (at - 1) ++ end_mark n ∷ [] →
      Counts (before tape (at - 1)) n → WritesRow Counted tape (at - 1) old new (Ok rest) →
      BeginsRow tape (at - 1) rest n r → Writes Row tape at old new r
  row_ended tape at rest n old new r fits some last counts w b =
      let row = w.1 in
      let size : length (tapes_of row.kept) ≡ (at - 1) - rest =
      (let x = length_before tape (at - 1) (omega (arith, fits)) in
      let y = length_before tape rest (omega (arith, fits, w.0)) in
      let z = ap length row.taken ∙ length-append (before tape rest) (tapes_of row.kept) in
      omega (arith, x, y, z)) in
      by_answer r size b
    where
      by_answer : (r : Result ℕ Fault) → length (tapes_of w.1.kept) ≡ (at - 1) - rest → BeginsRow tape (at - 1) rest n r →
          Writes Row tape at old new r
      by_answer (Ok m) size b =
          let row = w.1 in
          let c : n ≡ length (tapes_of row.kept) = b.1 ∙ sym size in (
            omega (arith, b.0, w.0),
            record {
              word = row.octets;
              kept = kept_row row.kept;
              are_octets = row.are_octets;
              holds = (values_of row.kept, refl, row.holds.0);
              taken = last ∙ (ap (λ (z : List Mark). z ++ end_mark n ∷ []) (row.taken
                  ∙ ap (λ (z : List Mark). z ++ tapes_of row.kept) b.2)
                  ∙ (ap (λ (z : List Mark). z ++ end_mark n ∷ []) (append_assoc (before tape m) (begin_mark n ∷ [])
                  (tapes_of row.kept)) ∙ (append_assoc (before tape m) (begin_mark n ∷ tapes_of row.kept) (end_mark n ∷ [])
                  ∙ ap (λ (z : ℕ). before tape m ++ between (begin_mark z) (tapes_of row.kept) (end_mark z)) c)));
              put = row.put;
            },
          )
      by_answer (Err e) size b = (
        λ is word kept front holds f.
            let row = w.1 in
            let i = row_inside word kept (before tape at) front holds f in
            let k = length (tapes_of i.0) in
            let t = same_last (before tape (at - 1)) ((front ++ begin_mark k ∷ []) ++ tapes_of i.0)
            (end_mark n) (end_mark k) (sym last ∙ i.2) in
            let same : n ≡ k = same_end n k t.1 in
            let many = counts word (front ++ begin_mark k ∷ []) i.0 i.1 t.0 (sym same) in
            let d = rows_back i.0 row.kept (front ++ begin_mark k ∷ []) (before tape rest) (many ∙ sym row.holds.1)
            (sym t.0 ∙ row.taken) in
            let all : k ≡ (at - 1) - rest = ap (λ (z : KeptRow). length (tapes_of z)) d.0 ∙ size in
            b (same ∙ all) front (subst (λ (z : ℕ). before tape rest ≡ front ++ begin_mark z ∷ []) (sym same) (sym d.1)),
        (w.1.octets, w.1.put),
      )
