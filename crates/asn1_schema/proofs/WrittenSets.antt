-- Sets of fields and unknown elements are written.
use Rattle.std.proofs.Common.{◌≡◌, ◌∙◌, ap, sym, subst, refl, ℕ, suc, ◌+◌, ◌<◌, ◌≤◌, inl, inr, Bool, true, false, List, [], ◌∷◌, ◌++◌, append_assoc, append-nil, length, length-append, arith}
use Rattle.std.specs.Prelude.{◌⊎◌, Option, Some, None, Result, Ok, Err, IfSome, IfNone}
use Rattle.std.specs.List.{concat}
use Rattle.std.proofs.lemmas.List.{nil_from_length}
use Rattle.x690.specs.Octets.{IsOctets}
use Rattle.x690.specs.Rules.{der_rule}
use Rattle.x690.specs.Elements.{Parts, IsDerElement}
use Rattle.x690.specs.Joined.{IsConcatenation}
use Rattle.x690.specs.Laws.Elements.{definite_element_is_octets}
use Rattle.x690.specs.Laws.Joined.{joined_octets}
use Rattle.x690.specs.Laws.Octets.{below_octets, octets_append}
use Rattle.asn1_schema.specs.declared.fault.Fault.{Fault}
use Rattle.asn1_schema.specs.declared.fault.Fault.TheVariants as faults
use Rattle.asn1_schema.specs.declared.schema.Presence.{Presence}
use Rattle.asn1_schema.specs.declared.schema.Presence.TheVariants as presences
use Rattle.asn1_schema.specs.declared.schema.Field.{Field}
use Rattle.asn1_schema.specs.declared.schema.Node.{Node}
use Rattle.asn1_schema.specs.declared.coding.Coding.TheVariants as codings
use Rattle.asn1_schema.specs.declared.tape.Item.{Item}
use Rattle.asn1_schema.specs.Values.{Value, Values, none, absent, more}
use Rattle.asn1_schema.specs.Grammar.{Says, Begins, AreEach, AreItems, AreUnknown, LeftOut, IsThere, AreFields, Takes, HasMember, AreOthers, AreMembers, AreSet, Body, Word}
use Rattle.asn1_schema.specs.Rules.{strict, TagsAscend}
use Rattle.asn1_schema.specs.Sound.{is_sound}
use Rattle.asn1_schema.specs.Each.{Each}
use Rattle.asn1_schema.specs.Members.{AreOrdered}
use Rattle.asn1_schema.specs.Tape.{KeptRow, kept_none, kept_absent, kept_more, Mark, tape_of, tapes_of, value_of, values_of}
use Rattle.asn1_schema.specs.Writing.{before, PutsFields, NoRowAtEnd, WritesRow, WritesField, member_count, AreCounted, AreCountedSet, WrittenSoFar, Settles, row_behind, Grew}
use Rattle.asn1_schema.proofs.TakesParts.{each_left, ascend_left, each_joined}
use Rattle.asn1_schema.proofs.OneValue.{some_octets, same_front}
use Rattle.asn1_schema.proofs.Lawful.{strict_lawful}
use Rattle.asn1_schema.proofs.OneWord.{IsDefinite, not_left, same_element, body_word, others_element, members_element}
use Rattle.asn1_schema.proofs.LastMarks.{rows_back}
use Rattle.asn1_schema.proofs.WrittenLeaves.{grew_on}
use Rattle.asn1_schema.proofs.TakenSets.{nothing_joined}
use Rattle.asn1_schema.proofs.WrittenRows.{left_parts, placed, fields_split, fields_unbegun, fields_refused, fields_counted}

abbrev HasWord : Parts → Type 0
HasWord p = (word : List ℕ) × IsDerElement word p

word_octets : (word : List ℕ) (p : Parts) → IsDerElement word p → IsOctets word
word_octets word p a = definite_element_is_octets der_rule word p a

left_row : (S : Parts → Value → Type 0) (presence : Presence) (vs : Values) (F : Values → Type 0)
    (G : List ℕ → Values → Type 0) → ((xs : Values) → F xs → (o : List ℕ) × IsOctets o × G o xs) →
    LeftOut strict S presence vs F → (o : List ℕ) × IsOctets o × LeftOut strict S presence vs (G o)
left_row S presences.Required vs F G g a = absurd a
left_row S presences.Optional none F G g a = absurd a
left_row S presences.Optional (absent vs) F G g a = g vs a
left_row S presences.Optional (more v vs) F G g a = absurd a
left_row S (presences.Default d) none F G g a = absurd a
left_row S (presences.Default d) (absent vs) F G g a = absurd a
left_row S (presences.Default d) (more v vs) F G g a = let r = g vs a.1 in (r.0, r.1, (a.0, r.2))

-- The elements of a set in the order of its fields are those of a sequence.
module _ (table : List Node) (depth : ℕ) (unknown : Option ℕ) where
  abbrev Sub : ℕ → Parts → Value → Type 0
  Sub = Body strict table depth

  abbrev Fields : List Field → List ℕ → Values → Type 0
  Fields = AreFields strict Sub unknown

  abbrev Members : List Field → List Parts → Values → Type 0
  Members = AreMembers strict Sub unknown

  each_items : (t : ℕ) (es : List Parts) (vs : Values) → Each HasWord es → AreEach (Sub t) es vs →
      (words : List (List ℕ)) × IsOctets (concat words) × AreEach (Says strict (Sub t)) words vs
  each_items t [] none c a = ([], below_octets [] tt, tt)
  each_items t [] (absent vs) c a = absurd a
  each_items t [] (more v vs) c a = absurd a
  each_items t (e ∷ es) none c a = absurd a
  each_items t (e ∷ es) (absent vs) c a = absurd a
  each_items t (e ∷ es) (more v vs) c a =
      let r = each_items t es vs c.1 a.1 in (
        c.0.0 ∷ r.0,
        octets_append c.0.0 (concat r.0) (word_octets c.0.0 e c.0.1) r.1,
        (record { parts = e; element = c.0.1; value = a.0 }, r.2),
      )

  others_row : (mark : Option ℕ) (es : List Parts) (vs : Values) → Each HasWord es → AreOthers Sub mark es vs →
      (o : List ℕ) × IsOctets o × AreUnknown strict Sub mark o vs
  others_row None es vs c a = ([], below_octets [] tt, (refl, a.1))
  others_row (Some t) es vs c a =
      let r = each_items t es vs c a in
      (concat r.0, r.1, record { words = r.0; is = refl; each = r.2; order = tt })

  member_row : (f : Field) (es : List Parts) (vs : Values) (F : List Parts → Values → Type 0)
      (G : List ℕ → Values → Type 0) →
      ((us : List Parts) (xs : Values) → Each HasWord us → F us xs → (o : List ℕ) × IsOctets o × G o xs) →
      Each HasWord es → HasMember strict (Sub f.of) f.presence es vs F →
      (o : List ℕ) × IsOctets o × IsThere strict (Sub f.of) f.presence o vs G
  member_row f es none F G g c a = absurd a
  member_row f es (absent vs) F G g c a = absurd a
  member_row f es (more v vs) F G g c a =
      let u = each_left HasWord es a.0 a.1 a.2 c in
      let r = g a.1 vs u.1 a.5 in (
        u.0.0 ++ r.0,
        octets_append u.0.0 r.0 (word_octets u.0.0 a.0 u.0.1) r.1,
        (r.0, record { word = u.0.0; says = record { parts = a.0; element = u.0.1; value = a.3 }; is = refl }, a.4, r.2),
      )

  members_row : (fs : List Field) (es : List Parts) (vs : Values) → Each HasWord es → Members fs es vs →
      (o : List ℕ) × IsOctets o × Fields fs o vs
  members_row [] es vs c a = others_row unknown es vs c a
  members_row (f ∷ fs) es vs c (inl a) =
      let r = member_row f es vs (Members fs) (Fields fs) (λ us xs d b. members_row fs us xs d b) c a in
      (r.0, r.1, inl r.2)
  members_row (f ∷ fs) es vs c (inr a) =
      let r = left_row (Sub f.of) f.presence vs (Members fs es) (Fields fs) (λ xs b. members_row fs es xs c b) a in
      (r.0, r.1, inr r.2)

  set_row : (fs : List Field) (o : List ℕ) (vs : Values) → AreSet strict Sub unknown fs o vs →
      (u : List ℕ) × IsOctets u × Fields fs u vs
  set_row fs o vs a =
      members_row fs a.elements vs (each_joined IsDerElement HasWord (λ x p d. (x, d)) o a.elements a.joins) a.members

  -- where there is no sequence there is no set
  no_set : (count : ℕ) (fields : List Field) (tape : List Mark) →
      NoRowAtEnd (AreCounted table depth unknown count fields) tape →
      NoRowAtEnd (AreCountedSet table depth unknown count fields) tape
  no_set count fields tape n octets kept front holds e =
      let r = set_row fields octets (values_of kept) holds.0 in n r.0 kept front (r.2, holds.1) e

  pub set_unbegun : (count : ℕ) (fields : List Field) (tape : List Item) (at : ℕ) (old new : List ℕ) (e : Fault) →
      WritesRow (AreCounted table depth unknown count []) tape at old new (Err e) →
      WritesRow (AreCountedSet table depth unknown count fields) tape at old new (Err e)
  set_unbegun count fields tape at old new e w =
      let u = fields_unbegun table depth unknown count fields tape at old new e w in
      (λ is. no_set count fields (before tape at) (u.0 is), u.1)

  -- the row is counted
  pub set_counted : (n : ℕ) (fields : List Field) (octets : List ℕ) (kept : KeptRow) →
      IfSome unknown (λ t. n ≡ member_count (values_of (row_behind (length fields) kept))) → IfNone unknown (n ≡ 0) →
      AreSet strict Sub unknown fields octets (values_of kept) → member_count (values_of kept) ≡ length fields + n
  set_counted n fields octets kept some nothing h =
      let r = set_row fields octets (values_of kept) h in
      fields_counted table depth unknown n fields r.0 kept some nothing r.2

  -- Fields that are left are to be written yet; those behind them are.
  pub record SetSoFar (count : ℕ) (fields left : List Field) (tape : List Item) (at rest : ℕ) (old new : List ℕ) :
      Type 0 where
    pub done : List Field
    pub parts : fields ≡ left ++ done
    pub within : rest ≤ at
    pub row : PutsFields (AreCountedSet table depth unknown count done) (before tape at) (before tape rest) old new

  -- unknown elements
  unknown_others : (mark : Option ℕ) (o : List ℕ) (es : List Parts) (vs : Values) → AreUnknown strict Sub mark o vs →
      IsConcatenation IsDerElement o es → AreOthers Sub mark es vs
  unknown_others None o es vs a j = (nothing_joined strict strict_lawful o es a.0 j, a.1)
  unknown_others (Some t) o es vs a j = by_words a.words vs o es a.is a.each j
    where
      by_words : (words : List (List ℕ)) (vs : Values) (o : List ℕ) (es : List Parts) → o ≡ concat words →
          AreEach (Says strict (Sub t)) words vs → IsConcatenation IsDerElement o es → AreEach (Sub t) es vs
      by_words [] none o [] is a j = tt
      by_words [] none o (e ∷ es) is a j =
          absurd (some_octets strict strict_lawful j.0 j.1 e j.2 (sym j.3 ∙ is))
      by_words [] (absent vs) o es is a j = absurd a
      by_words [] (more v vs) o es is a j = absurd a
      by_words (w ∷ words) none o es is a j = absurd a
      by_words (w ∷ words) (absent vs) o es is a j = absurd a
      by_words (w ∷ words) (more v vs) o [] is a j =
          absurd (some_octets strict strict_lawful w (concat words) a.0.parts a.0.element (sym is ∙ j))
      by_words (w ∷ words) (more v vs) o (e ∷ es) is a j =
          let u = same_front strict strict_lawful o w j.0 (concat words) j.1 a.0.parts e a.0.element j.2 is j.3 in
          (subst (λ (z : Parts). Sub t z v) u.0 a.0.value, by_words words vs j.1 es (sym u.1) a.1 j.4)

  unknown_joined : (mark : Option ℕ) (o : List ℕ) (vs : Values) → AreUnknown strict Sub mark o vs →
      (es : List Parts) × IsConcatenation IsDerElement o es
  unknown_joined None o vs a = ([], a.0)
  unknown_joined (Some t) o vs a = by_words a.words vs o a.is a.each
    where
      by_words : (words : List (List ℕ)) (vs : Values) (o : List ℕ) → o ≡ concat words →
          AreEach (Says strict (Sub t)) words vs → (es : List Parts) × IsConcatenation IsDerElement o es
      by_words [] vs o is a = ([], is)
      by_words (w ∷ words) none o is a = absurd a
      by_words (w ∷ words) (absent vs) o is a = absurd a
      by_words (w ∷ words) (more v vs) o is a =
          let r = by_words words vs (concat words) refl a.1 in
          (a.0.parts ∷ r.0, (w, concat words, a.0.element, is, r.1))

  -- the fields are to be written yet
  pub set_begun : (count : ℕ) (fields : List Field) (tape : List Item) (at place : ℕ) (old mid front : List ℕ)
      (held : ℕ) → held ≡ length old → WritesRow (AreCounted table depth unknown count []) tape at old mid (Ok place) →
      ((word behind : List ℕ) → mid ≡ word ++ behind → held ≡ length behind → front ≡ word) →
      AreOrdered codings.Der None front → SetSoFar count fields fields tape at place old mid
  set_begun count fields tape at place old mid front held h w f a =
      let is = f w.1.octets old w.1.put h in
      let joins : IsConcatenation IsDerElement w.1.octets a.elements =
      subst (λ (z : List ℕ). IsConcatenation IsDerElement z a.elements) is a.joins in
      record {
        done = [];
        parts = sym (append-nil fields);
        within = w.0;
        row = record {
          octets = w.1.octets;
          kept = w.1.kept;
          are_octets = w.1.are_octets;
          holds = (
            record {
              elements = a.elements;
              joins = joins;
              members = unknown_others unknown w.1.octets a.elements (values_of w.1.kept) w.1.holds.0 joins;
              order = a.order;
            },
            w.1.holds.1,
          );
          taken = w.1.taken;
          put = w.1.put;
        };
      }

  -- the elements of the last fields
  members_split : (xs ys : List Field) (es : List Parts) (ks : KeptRow) → Members (xs ++ ys) es (values_of ks) →
      TagsAscend es → Each IsDefinite es → (us : List Parts) ×
      Members ys us (values_of (row_behind (length xs) ks)) × TagsAscend us × Each IsDefinite us
  members_split [] ys es ks a t d = (es, a, t, d)
  members_split (x ∷ xs) ys es kept_none (inl a) t d = absurd a
  members_split (x ∷ xs) ys es (kept_absent ks) (inl a) t d = absurd a
  members_split (x ∷ xs) ys es (kept_more k ks) (inl a) t d =
      members_split xs ys a.1 ks a.5 (ascend_left None es a.0 a.1 a.2 t) (each_left IsDefinite es a.0 a.1 a.2 d).1
  members_split (x ∷ xs) ys es ks (inr a) t d =
      elim (left_parts (Sub x.of) x.presence ks (Members (xs ++ ys) es) a) [
        | inl b ↦ subst (λ (z : KeptRow). (us : List Parts) × Members ys us (values_of (row_behind (suc (length xs)) z)) ×
            TagsAscend us × Each IsDefinite us) (sym b.2) (members_split xs ys es b.0 b.3 t d)
        | inr b ↦ subst (λ (z : KeptRow). (us : List Parts) × Members ys us (values_of (row_behind (suc (length xs)) z)) ×
            TagsAscend us × Each IsDefinite us) (sym b.3) (members_split xs ys es b.0 b.5 t d)
      ]

  -- A set that ends a tape, where a row of so many of the last fields does too: the elements of these fields.
  set_end : (count : ℕ) (fields xs ys : List Field) (octets : List ℕ) (kept js : KeptRow) (tape front rest : List Mark) →
      fields ≡ xs ++ ys → AreCountedSet table depth unknown count fields octets (values_of kept) →
      tape ≡ front ++ tapes_of kept → member_count (values_of js) ≡ length ys + count → tape ≡ rest ++ tapes_of js →
      (us : List Parts) × Members ys us (values_of js) × TagsAscend us × Each IsDefinite us
  set_end count fields xs ys octets kept js tape front rest parts holds e n g =
      let a = holds.0 in
      let r = set_row fields octets (values_of kept) a in
      let u = fields_split table depth unknown xs ys r.0 kept
      (subst (λ (z : List Field). Fields z r.0 (values_of kept)) parts r.2) in
      let m = members_split xs ys a.elements kept
      (subst (λ (z : List Field). Members z a.elements (values_of kept)) parts a.members) a.order
      (each_joined IsDerElement IsDefinite (λ x p d. d.counted) octets a.elements a.joins) in
      let size = ap length parts ∙ length-append xs ys in
      let c = u.counted in
      let k = holds.1 in
      let same = rows_back (row_behind (length xs) kept) js (front ++ u.front) rest (omega (arith, n, c, k, size))
      (append_assoc front u.front (tapes_of (row_behind (length xs) kept))
      ∙ (ap (λ (z : List Mark). front ++ z) (sym u.tapes) ∙ (sym e ∙ g))) in
      (m.0, subst (λ (z : KeptRow). Members ys m.0 (values_of z)) same.0 m.1, m.2, m.3)

  -- unknown elements that do not ascend
  pub set_out_of_order : is_sound table ≡ true → (count : ℕ) (fields : List Field) (tape : List Item) (at place : ℕ)
      (old mid front : List ℕ) (held : ℕ) → held ≡ length old →
      WritesRow (AreCounted table depth unknown count []) tape at old mid (Ok place) →
      ((word behind : List ℕ) → mid ≡ word ++ behind → held ≡ length behind → front ≡ word) →
      (AreOrdered codings.Der None front → ⊥) →
      WritesRow (AreCountedSet table depth unknown count fields) tape at old mid (Err faults.Refused)
  set_out_of_order sound count fields tape at place old mid front held h w f n = (
    λ is octets kept first holds e.
        let m = set_end count fields fields [] octets kept w.1.kept (before tape at) first (before tape place)
        (sym (append-nil fields)) holds e w.1.holds.1 w.1.taken in
        let j = unknown_joined unknown w.1.octets (values_of w.1.kept) w.1.holds.0 in
        let same = others_element Sub (body_word table sound depth) unknown m.0 j.0 (values_of w.1.kept)
        (values_of w.1.kept) refl m.3 (each_joined IsDerElement IsDefinite (λ x p d. d.counted) w.1.octets j.0 j.1) m.1
        (unknown_others unknown w.1.octets j.0 (values_of w.1.kept) w.1.holds.0 j.1) in
        n (record {
          elements = j.0;
          joins = subst (λ (z : List ℕ). IsConcatenation IsDerElement z j.0) (sym (f w.1.octets old w.1.put h)) j.1;
          order = subst TagsAscend same m.2;
        }),
    (w.1.octets, w.1.put),
  )

  -- where a field is refused, so is the set
  pub set_stopped : (count : ℕ) (fields left others : List Field) (f : Field) (tape : List Item) (at rest : ℕ)
      (old mid new : List ℕ) (e : Fault) → SetSoFar count fields left tape at rest old mid →
      left ≡ others ++ f ∷ [] → WritesField (Word strict table depth f.of) f.presence tape rest mid new (Err e) →
      WritesRow (AreCountedSet table depth unknown count fields) tape at old new (Err e)
  set_stopped count fields left others f tape at rest old mid new e s l w =
      let row = s.row in
      let r = set_row s.done row.octets (values_of row.kept) row.holds.0 in
      let sequence : WrittenSoFar table depth unknown count fields left tape at rest old (r.0 ++ old) = record {
        done = s.done;
        parts = s.parts;
        within = s.within;
        row = record {
          octets = r.0;
          kept = row.kept;
          are_octets = r.1;
          holds = (r.2, row.holds.1);
          taken = row.taken;
          put = refl;
        };
      } in (
        λ is. no_set count fields (before tape at) (fields_refused table depth unknown count fields left others f tape at
            rest old (r.0 ++ old) sequence l (w.0 is)),
        grew_on old mid new (row.octets, row.put) w.1,
      )

  module _ (sound : is_sound table ≡ true) (count : ℕ) (fields left others : List Field) (f : Field) (tape : List Item)
      (at rest place : ℕ) (old mid new last : List ℕ) (held behind : ℕ) (result : Bool)
      (s : SetSoFar count fields left tape at rest old mid) (l : left ≡ others ++ f ∷ [])
      (w : WritesField (Word strict table depth f.of) f.presence tape rest mid new (Ok place))
      (held_is : held ≡ length old) (behind_is : behind ≡ length mid)
      (nothing : length new ≡ behind → (result ≡ true) × (last ≡ new))
      (settled : (word others old : List ℕ) (e : Parts) (es : List Parts) → new ≡ word ++ (others ++ old) →
      behind ≡ length (others ++ old) → held ≡ length old → IsDerElement word e → IsConcatenation IsDerElement others es →
      TagsAscend es → Settles e es old last result) where
    abbrev row : PutsFields (AreCountedSet table depth unknown count s.done) (before tape at) (before tape rest) old mid
    row = s.row

    abbrev parts : fields ≡ others ++ (f ∷ s.done)
    parts = s.parts ∙ (ap (λ (z : List Field). z ++ s.done) l ∙ append_assoc others (f ∷ []) s.done)

    settles : (word : List ℕ) (e : Parts) → IsDerElement word e → new ≡ word ++ mid →
        Settles e row.holds.0.elements old last result
    settles word e d p =
        let set = row.holds.0 in
        settled word row.octets old e set.elements (p ∙ ap (λ (z : List ℕ). word ++ z) row.put)
        (behind_is ∙ ap length row.put) held_is d set.joins set.order

    -- one more is written
    pub member_written : result ≡ true → SetSoFar count fields others tape at place old last
    member_written has =
        elim (placed table sound depth f.of f.presence row.kept (Members s.done row.holds.0.elements)
        row.holds.0.members (before tape rest) (before tape place) mid new w.1) [
          | inl a ↦
              let word = a.0 in
              let set = row.holds.0 in
              let size = row.holds.1 in
              let t = subst (Settles word.holds.parts set.elements old last) has
              (settles word.word word.holds.parts word.holds.element word.put) in
              record {
                done = f ∷ s.done;
                parts = parts;
                within = omega (arith, w.0, s.within);
                row = record {
                  octets = t.1;
                  kept = kept_more word.kept row.kept;
                  are_octets = joined_octets IsDerElement word_octets t.1 t.0 t.4;
                  holds = (
                    record {
                      elements = t.0;
                      joins = t.4;
                      members = inl (word.holds.parts, set.elements, t.2, word.holds.value, a.1, set.members);
                      order = t.3;
                    },
                    omega (arith, size),
                  );
                  taken = row.taken ∙ (ap (λ (z : List Mark). z ++ tapes_of row.kept) word.taken
                      ∙ append_assoc (before tape place) (tape_of word.kept) (tapes_of row.kept));
                  put = t.5;
                };
              }
          | inr a ↦
              let set = row.holds.0 in
              let size = row.holds.1 in
              let one = a.6 in
              record {
                done = f ∷ s.done;
                parts = parts;
                within = omega (arith, w.0, s.within);
                row = record {
                  octets = row.octets;
                  kept = a.0;
                  are_octets = row.are_octets;
                  holds = (
                    record { elements = set.elements; joins = set.joins; members = inr a.2; order = set.order },
                    omega (arith, size, one),
                  );
                  taken = row.taken ∙ (ap (λ (z : List Mark). z ++ tapes_of row.kept) a.3
                      ∙ (append_assoc (before tape place) a.1 (tapes_of row.kept)
                      ∙ ap (λ (z : List Mark). before tape place ++ z) (sym a.4)));
                  put = (nothing (ap length a.5 ∙ sym behind_is)).1 ∙ (a.5 ∙ row.put);
                };
              }
        ]

    -- an element has no place
    no_place : result ≡ false → NoRowAtEnd (AreCountedSet table depth unknown count fields) (before tape at)
    no_place lacks octets kept front holds e =
        elim (placed table sound depth f.of f.presence row.kept (Members s.done row.holds.0.elements)
        row.holds.0.members (before tape rest) (before tape place) mid new w.1) [
          | inl a ↦
              let word = a.0 in
              let set = row.holds.0 in
              let size = row.holds.1 in
              let m = set_end count fields others (f ∷ s.done) octets kept (kept_more word.kept row.kept) (before tape at)
              front (before tape place) parts holds e (omega (arith, size))
              (row.taken ∙ (ap (λ (z : List Mark). z ++ tapes_of row.kept) word.taken
              ∙ append_assoc (before tape place) (tape_of word.kept) (tapes_of row.kept))) in
              elim m.1 [
                | inl b ↦
                    let k = each_left IsDefinite m.0 b.0 b.1 b.2 m.3 in
                    let first : b.0 ≡ word.holds.parts = same_element b.0 word.holds.parts
                    (body_word table sound depth f.of b.0 word.holds.parts (value_of word.kept) b.3 word.holds.value) k.0
                    word.holds.element.counted in
                    let same = members_element Sub (body_word table sound depth) unknown s.done b.1 set.elements
                    (values_of row.kept) (values_of row.kept) refl k.1
                    (each_joined IsDerElement IsDefinite (λ x p d. d.counted) row.octets set.elements set.joins)
                    (ascend_left None m.0 b.0 b.1 b.2 m.2) set.order b.5 set.members in
                    let t = subst (Settles word.holds.parts set.elements old last) lacks
                    (settles word.word word.holds.parts word.holds.element word.put) in
                    t m.0 (subst (λ (z : List Parts). Takes m.0 word.holds.parts z) same
                    (subst (λ (z : Parts). Takes m.0 z b.1) first b.2)) m.2
                | inr b ↦ not_left (Sub f.of) f.presence (Members s.done m.0) (value_of word.kept) (values_of row.kept)
                    (more (value_of word.kept) (values_of row.kept)) refl a.1 b
              ]
          | inr a ↦ let has = (nothing (ap length a.5 ∙ sym behind_is)).0 in absurd (cc)
        ]

    grew : result ≡ false → (result ≡ false → last ≡ new) → Grew old last
    grew lacks stays =
        elim (placed table sound depth f.of f.presence row.kept (Members s.done row.holds.0.elements)
        row.holds.0.members (before tape rest) (before tape place) mid new w.1) [
          | inl a ↦ subst (Grew old) (sym (stays lacks))
              (grew_on old mid new (row.octets, row.put) (a.0.word, a.0.put))
          | inr a ↦ subst (Grew old) (sym (stays lacks)) (row.octets, a.5 ∙ row.put)
        ]

    pub set_unsettled : result ≡ false → (result ≡ false → last ≡ new) →
        WritesRow (AreCountedSet table depth unknown count fields) tape at old last (Err faults.Refused)
    set_unsettled lacks stays = (λ is. no_place lacks, grew lacks stays)

  -- all fields are written
  pub set_done : (count : ℕ) (fields left : List Field) (tape : List Item) (at rest : ℕ) (old new : List ℕ) →
      SetSoFar count fields left tape at rest old new → length left ≡ 0 →
      WritesRow (AreCountedSet table depth unknown count fields) tape at old new (Ok rest)
  set_done count fields left tape at rest old new s l =
      let e : fields ≡ s.done = s.parts ∙ ap (λ (z : List Field). z ++ s.done) (nil_from_length left l) in (
        s.within,
        subst (λ (z : List Field). PutsFields (AreCountedSet table depth unknown count z) (before tape at) (before tape rest)
            old new) (sym e) s.row,
      )
