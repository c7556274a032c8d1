-- Members of lists are written, in the order that their kind asks for.
use Rattle.std.proofs.Common.{◌≡◌, ◌∙◌, ap, sym, subst, refl, ℕ, zero, suc, ◌+◌, ◌-◌, ◌<◌, ◌≤◌, Bool, true, false, List, [], ◌∷◌, ◌++◌, append_assoc, append-nil, length, length-append, arith}
use Rattle.std.specs.Prelude.{Option, Some, None, Result, Ok, Err, IfOk, IfErr}
use Rattle.std.specs.List.{concat}
use Rattle.x690.specs.Laws.Octets.{below_octets, octets_append}
use Rattle.x690.specs.Laws.Ascending.{ascending_none, ascending_rest}
use Rattle.asn1_schema.specs.declared.fault.Fault.{Fault}
use Rattle.asn1_schema.specs.declared.fault.Fault.TheVariants as faults
use Rattle.asn1_schema.specs.declared.schema.Node.{Node}
use Rattle.asn1_schema.specs.declared.tape.Item.{Item}
use Rattle.asn1_schema.specs.Values.{Value, Values, none, absent, more}
use Rattle.asn1_schema.specs.Grammar.{AreEach, Word}
use Rattle.asn1_schema.specs.Rules.{strict}
use Rattle.asn1_schema.specs.Sound.{is_sound}
use Rattle.asn1_schema.specs.Tape.{Kept, KeptRow, kept_none, kept_absent, kept_more, Mark, tape_of, tapes_of, value_of, values_of}
use Rattle.asn1_schema.specs.Writing.{before, Writes, WritesRow, member_count, AreCountedItems, AreCounted, order_of, FirstIs, ItemsSoFar}
use Rattle.asn1_schema.proofs.OneTape.{one_tape_back}
use Rattle.asn1_schema.proofs.OneWord.{one_word}
use Rattle.asn1_schema.proofs.LastMarks.{rows_back}
use Rattle.asn1_schema.proofs.WrittenLeaves.{grew_on}

-- no members are in order
none_in_order : (ascending : Bool) → order_of ascending []
none_in_order false = tt
none_in_order true = ascending_none

-- nor are the last ones of members that are
last_in_order : (ascending : Bool) (front back : List (List ℕ)) → order_of ascending (front ++ back) → order_of ascending back
last_in_order false front back o = tt
last_in_order true [] back o = o
last_in_order true (x ∷ front) back o = last_in_order true front back (ascending_rest x (front ++ back) o)

-- the last members of a list, behind so many
record LastItems (G : List ℕ → Value → Type 0) (n : ℕ) (words : List (List ℕ)) (ks : KeptRow) : Type 0 where
  front_words : List (List ℕ)
  back_words : List (List ℕ)
  front : List Mark
  back : KeptRow
  words_are : words ≡ front_words ++ back_words
  tapes : tapes_of ks ≡ front ++ tapes_of back
  each : AreEach G back_words (values_of back)
  counted : member_count (values_of ks) ≡ n + member_count (values_of back)

last_items : (G : List ℕ → Value → Type 0) (n : ℕ) (words : List (List ℕ)) (ks : KeptRow) →
    AreEach G words (values_of ks) → n ≤ member_count (values_of ks) → LastItems G n words ks
last_items G zero words ks a l = record {
  front_words = [];
  back_words = words;
  front = [];
  back = ks;
  words_are = refl;
  tapes = refl;
  each = a;
  counted = omega arith;
}
last_items G (suc n) [] kept_none a l = absurd (omega (arith, l))
last_items G (suc n) (w ∷ ws) kept_none a l = absurd a
last_items G (suc n) [] (kept_absent ks) a l = absurd a
last_items G (suc n) (w ∷ ws) (kept_absent ks) a l = absurd a
last_items G (suc n) [] (kept_more k ks) a l = absurd a
last_items G (suc n) (w ∷ ws) (kept_more k ks) a l =
    let u = last_items G n ws ks a.1 (omega (arith, l)) in
    let c = u.counted in
    record {
      front_words = w ∷ u.front_words;
      back_words = u.back_words;
      front = tape_of k ++ u.front;
      back = u.back;
      words_are = ap (λ (z : List (List ℕ)). w ∷ z) u.words_are;
      tapes = ap (λ (z : List Mark). tape_of k ++ z) u.tapes ∙ sym (append_assoc (tape_of k) u.front (tapes_of u.back));
      each = u.each;
      counted = omega (arith, c);
    }

-- values have one row of words
one_row : (G : List ℕ → Value → Type 0) → ((x y : List ℕ) (v : Value) → G x v → G y v → x ≡ y) →
    (xs ys : List (List ℕ)) (vs : Values) → AreEach G xs vs → AreEach G ys vs → xs ≡ ys
one_row G one [] [] none a b = refl
one_row G one (x ∷ xs) (y ∷ ys) (more v vs) a b =
    let first = one x y v a.0 b.0 in
    let others = one_row G one xs ys vs a.1 b.1 in
    cc
one_row G one [] (y ∷ ys) none a b = absurd b
one_row G one (x ∷ xs) ys none a b = absurd a
one_row G one [] ys (absent vs) a b = absurd a
one_row G one (x ∷ xs) ys (absent vs) a b = absurd a
one_row G one [] ys (more v vs) a b = absurd a
one_row G one (x ∷ xs) [] (more v vs) a b = absurd b

module _ (table : List Node) (sound : is_sound table ≡ true) (depth t : ℕ) (ascending : Bool) (size : ℕ)
    (tape : List Item) (at : ℕ) (old : List ℕ) where
  abbrev G : List ℕ → Value → Type 0
  G = Word strict table depth t

  -- no member is written yet
  pub items_begun : ItemsSoFar table depth t ascending size size None tape at at old old
  items_begun = record {
    words = [];
    kept = kept_none;
    are_octets = below_octets [] tt;
    each = tt;
    order = none_in_order ascending;
    counted = omega arith;
    first_is = refl;
    within = omega arith;
    taken = sym (append-nil (before tape at));
    put = refl;
  }

  -- one more is
  pub item_written : (left : ℕ) (first : Option ℕ) (rest place held : ℕ) (mid new : List ℕ) →
      ItemsSoFar table depth t ascending size left first tape at rest old mid → 0 < left → held ≡ length mid →
      Writes G tape rest mid new (Ok place) →
      ((word behind : List ℕ) (words : List (List ℕ)) → new ≡ word ++ (concat words ++ behind) →
      held ≡ length (concat words ++ behind) → FirstIs words first → order_of ascending words →
      order_of ascending (word ∷ words)) → (n : ℕ) → n ≡ length new - held →
      ItemsSoFar table depth t ascending size (left - 1) (Some n) tape at place old new
  item_written left first rest place held mid new s some h w may n is =
      let c = s.counted in
      let p = w.1.put ∙ ap (λ (z : List ℕ). w.1.word ++ z) s.put in
      let l = ap length w.1.put ∙ length-append w.1.word mid in
      record {
        words = w.1.word ∷ s.words;
        kept = kept_more w.1.kept s.kept;
        are_octets = octets_append w.1.word (concat s.words) w.1.are_octets s.are_octets;
        each = (w.1.holds, s.each);
        order = may w.1.word old s.words p (h ∙ ap length s.put) s.first_is s.order;
        counted = omega (arith, c, some);
        first_is = (w.1.word, s.words, refl, omega (arith, is, l, h));
        within = omega (arith, w.0, s.within);
        taken = s.taken ∙ (ap (λ (z : List Mark). z ++ tapes_of s.kept) w.1.taken
            ∙ append_assoc (before tape place) (tape_of w.1.kept) (tapes_of s.kept));
        put = p ∙ sym (append_assoc w.1.word (concat s.words) old);
      }

  -- all are
  pub items_written : (left : ℕ) (first : Option ℕ) (rest : ℕ) (new : List ℕ) →
      ItemsSoFar table depth t ascending size left first tape at rest old new → left ≡ 0 →
      WritesRow (AreCountedItems table depth t ascending size) tape at old new (Ok rest)
  items_written left first rest new s z =
      let c = s.counted in (
        s.within,
        record {
          octets = concat s.words;
          kept = s.kept;
          are_octets = s.are_octets;
          holds = (record { words = s.words; is = refl; each = s.each; order = s.order }, omega (arith, c, z));
          taken = s.taken;
          put = s.put;
        },
      )

  module _ (left : ℕ) (first : Option ℕ) (rest : ℕ) (mid : List ℕ)
      (s : ItemsSoFar table depth t ascending size left first tape at rest old mid) (some : 0 < left) where
    -- the member before those that are written
    before_last : (words : List (List ℕ)) (ks : KeptRow) (front : List Mark) → AreEach G words (values_of ks) →
        member_count (values_of ks) ≡ size → before tape at ≡ front ++ tapes_of ks →
        (heads : List (List ℕ)) × (w : List ℕ) × (k : Kept) × (r : List Mark) ×
        (words ≡ heads ++ (w ∷ s.words)) × G w (value_of k) × (before tape rest ≡ r ++ tape_of k)
    before_last words ks front a n e =
        let c = s.counted in
        let u = last_items G (left - 1) words ks a (omega (arith, n, c, some)) in
        let m = u.counted in
        one_before u.front_words u.back_words u.back (front ++ u.front) u.words_are
        (e ∙ (ap (λ (z : List Mark). front ++ z) u.tapes ∙ sym (append_assoc front u.front (tapes_of u.back)))) u.each
        (omega (arith, m, n, c, some))
      where
        one_before : (heads backs : List (List ℕ)) (ks : KeptRow) (r : List Mark) → words ≡ heads ++ backs →
            before tape at ≡ r ++ tapes_of ks → AreEach G backs (values_of ks) →
            member_count (values_of ks) ≡ suc (member_count (values_of s.kept)) →
            (heads : List (List ℕ)) × (w : List ℕ) × (k : Kept) × (r : List Mark) ×
            (words ≡ heads ++ (w ∷ s.words)) × G w (value_of k) × (before tape rest ≡ r ++ tape_of k)
        one_before heads [] kept_none r is f b n = absurd (omega (arith, n))
        one_before heads (w ∷ ws) kept_none r is f b n = absurd b
        one_before heads [] (kept_absent js) r is f b n = absurd b
        one_before heads (w ∷ ws) (kept_absent js) r is f b n = absurd b
        one_before heads [] (kept_more k js) r is f b n = absurd b
        one_before heads (w ∷ ws) (kept_more k js) r is f b n =
            let u = rows_back js s.kept (r ++ tape_of k) (before tape rest) (omega (arith, n))
            (append_assoc r (tape_of k) (tapes_of js) ∙ (sym f ∙ s.taken)) in
            let same = one_row G (one_word table sound depth t) ws s.words (values_of s.kept)
            (subst (λ (z : KeptRow). AreEach G ws (values_of z)) u.0 b.1) s.each in
            (heads, w, k, r, is ∙ ap (λ (z : List (List ℕ)). heads ++ (w ∷ z)) same, b.0, sym u.1)

    -- where it is none, there is no list
    pub item_stopped : (new : List ℕ) (e : Fault) → Writes G tape rest mid new (Err e) →
        WritesRow (AreCountedItems table depth t ascending size) tape at old new (Err e)
    item_stopped new e w = (
      λ is octets kept front holds f.
          let u = before_last holds.0.words kept front holds.0.each holds.1 f in
          w.0 is u.1 u.2 u.3 u.5 u.6,
      grew_on old mid new (concat s.words, s.put) w.1,
    )

    -- where it may not precede the others, there is none either
    pub item_unordered : (place held : ℕ) (new : List ℕ) → held ≡ length mid → Writes G tape rest mid new (Ok place) →
        ((word behind : List ℕ) (words : List (List ℕ)) → new ≡ word ++ (concat words ++ behind) →
        held ≡ length (concat words ++ behind) → FirstIs words first → order_of ascending words →
        order_of ascending (word ∷ words) → ⊥) →
        WritesRow (AreCountedItems table depth t ascending size) tape at old new (Err faults.Refused)
    item_unordered place held new h w never = (
      λ is octets kept front holds f.
          let u = before_last holds.0.words kept front holds.0.each holds.1 f in
          let v = one_tape_back u.2 w.1.kept u.3 (before tape place) (sym u.6 ∙ w.1.taken) in
          let same = one_word table sound depth t u.1 w.1.word (value_of u.2) u.5
          (subst (λ (z : Kept). G w.1.word (value_of z)) (sym v.0) w.1.holds) in
          let order = last_in_order ascending u.0 (u.1 ∷ s.words)
          (subst (λ (z : List (List ℕ)). order_of ascending z) u.4 holds.0.order) in
          never w.1.word old s.words (w.1.put ∙ ap (λ (z : List ℕ). w.1.word ++ z) s.put) (h ∙ ap length s.put) s.first_is s.order
          (subst (λ (z : List ℕ). order_of ascending (z ∷ s.words)) same order),
      grew_on old mid new (concat s.words, s.put) (w.1.word, w.1.put),
    )

-- no unknown elements, where there is no extension mark
pub none_written : (table : List Node) (depth n : ℕ) (tape : List Item) (at : ℕ) (old : List ℕ) (r : Result ℕ Fault) →
    IfOk r (λ rest. (rest ≡ at) × (n ≡ 0)) → IfErr r (λ e. n ≡ 0 → ⊥) →
    WritesRow (AreCounted table depth None n []) tape at old old r
none_written table depth n tape at old (Ok rest) ok err = (
  omega (arith, ok.0),
  record {
    octets = [];
    kept = kept_none;
    are_octets = below_octets [] tt;
    holds = ((refl, refl), omega (arith, ok.1));
    taken = subst (λ (z : ℕ). before tape at ≡ before tape z ++ []) (sym ok.0) (sym (append-nil (before tape at)));
    put = refl;
  },
)
none_written table depth n tape at old (Err e) ok err = (
  λ is octets kept front h f.
      let a = h.1 in
      let b = ap member_count h.0.1 in
      err (omega (arith, a, b)),
  ([], refl),
)
