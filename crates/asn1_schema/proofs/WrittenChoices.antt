-- Choices and values within bounds are written.
use Rattle.std.proofs.Common.{◌≡◌, ◌∙◌, ap, sym, subst, refl, ℕ, ℤ, ◌-◌, ◌≤◌, true, List, [], ◌∷◌, ◌++◌, append_assoc, arith}
use Rattle.std.specs.Prelude.{Option, Some, None, slice_get, Result, Ok, Err, IfOk}
use Rattle.std.specs.declared.vec.Vec.{Vec}
use Rattle.std.specs.declared.alloc.Global.{Global}
use Rattle.asn1_schema.specs.declared.fault.Fault.{Fault}
use Rattle.asn1_schema.specs.declared.fault.Fault.TheVariants as faults
use Rattle.asn1_schema.specs.declared.schema.Node.{Node}
use Rattle.asn1_schema.specs.declared.schema.Kind.{Kind}
use Rattle.asn1_schema.specs.declared.schema.Kind.TheVariants as kinds
use Rattle.asn1_schema.specs.declared.tape.Item.{Item}
use Rattle.asn1_schema.specs.Values.{Value, measure}
use Rattle.asn1_schema.specs.Grammar.{Word, IsMeasured}
use Rattle.asn1_schema.specs.Rules.{strict}
use Rattle.asn1_schema.specs.Reading.{JudgesBounds}
use Rattle.asn1_schema.specs.Sound.{is_sound, leads_back, all_before}
use Rattle.asn1_schema.specs.Tape.{Kept, kept_chosen, Mark, arm_mark, arm_end_mark, tape_of, value_of}
use Rattle.asn1_schema.specs.Writing.{before, NoneAtEnd, Writes, IsArm, IsWithinBounds, BeginsArm}
use Rattle.asn1_schema.proofs.Tags.{node_order}
use Rattle.asn1_schema.proofs.OneTape.{one_tape_back}
use Rattle.asn1_schema.proofs.SameParts.{same_last}
use Rattle.asn1_schema.proofs.LastMarks.{ends, chosen_kept}
use Rattle.asn1_schema.proofs.Lawful.{strict_lawful}
use Rattle.asn1_schema.proofs.Arms.{word_arm, arm_of_word}
use Rattle.asn1_schema.proofs.WrittenBounds.{body_within, within_body}
use Rattle.asn1_schema.proofs.WrittenLeaves.{writes_map}

pub arms_before : (table : List Node) → is_sound table ≡ true → (t : ℕ) (node : Node) (arms : Vec ℕ Global) →
    slice_get table t ≡ Some node → node.kind ≡ kinds.Choice arms → all_before t arms.items ≡ true
arms_before table sound t node arms found is =
    subst (λ (z : Kind). leads_back t z ≡ true) is (node_order table t node sound found)

pub choice_written : (table : List Node) → is_sound table ≡ true → (depth t : ℕ) (node : Node) (arms : Vec ℕ Global) →
    slice_get table t ≡ Some node → node.kind ≡ kinds.Choice arms → (tape : List Item) (at : ℕ) (old new : List ℕ)
    (r : Result ℕ Fault) → Writes (IsArm table depth arms.items) tape at old new r →
    Writes (Word strict table depth t) tape at old new r
choice_written table sound depth t node arms found is tape at old new r w =
    writes_map (IsArm table depth arms.items) (Word strict table depth t)
    (λ o v a. subst (λ (z : Value). Word strict table depth t o z) (sym a.3)
    (word_arm table sound depth t node arms a.0 a.2 found is a.4 o a.1 a.5))
    (λ o v a. arm_of_word table sound depth t node arms found is o v a) tape at old new r w

module _ (table : List Node) (depth : ℕ) (arms : List ℕ) where
  -- a value of an arm ends with its end
  arm_inside : (word : List ℕ) (kept : Kept) (tape front : List Mark) → IsArm table depth arms word (value_of kept) →
      tape ≡ front ++ tape_of kept → (k : ℕ) × (j : Kept) × (a : ℕ) × (slice_get arms k ≡ Some a) ×
      Word strict table depth a word (value_of j) ×
      (tape ≡ ((front ++ arm_mark k ∷ []) ++ tape_of j) ++ arm_end_mark k ∷ [])
  arm_inside word kept tape front h e =
      let c = chosen_kept kept h.0 h.1 h.3 in
      let f = ends tape front (kept_chosen h.0 c.0) (e ∙ ap (λ (z : Kept). front ++ tape_of z) c.1) in (
        h.0,
        c.0,
        h.2,
        h.4,
        subst (λ (z : Value). Word strict table depth h.2 word z) (sym c.2) h.5,
        f ∙ ap (λ (z : List Mark). z ++ arm_end_mark h.0 ∷ []) (sym (append_assoc front (arm_mark h.0 ∷ []) (tape_of c.0))),
      )

  pub no_arm_end : (tape : List Mark) → ((n : ℕ) (rest : List Mark) → tape ≡ rest ++ arm_end_mark n ∷ [] → ⊥) →
      NoneAtEnd (IsArm table depth arms) tape
  no_arm_end tape nothing word kept front h e =
      let r = arm_inside word kept tape front h e in
      nothing r.0 ((front ++ arm_mark r.0 ∷ []) ++ tape_of r.1) r.5

  same_arm : (k j : ℕ) → arm_end_mark k ≡ arm_end_mark j → k ≡ j
  same_arm k j e = cc

  pub no_arm : (tape : List Item) (at k : ℕ) →
      before tape at ≡ before tape (at - 1) ++ arm_end_mark k ∷ [] → slice_get arms k ≡ None →
      NoneAtEnd (IsArm table depth arms) (before tape at)
  no_arm tape at k last n word kept front h e =
      let r = arm_inside word kept (before tape at) front h e in
      let t = same_last (before tape (at - 1)) ((front ++ arm_mark r.0 ∷ []) ++ tape_of r.1) (arm_end_mark k)
      (arm_end_mark r.0) (sym last ∙ r.5) in
      let same : k ≡ r.0 = same_arm k r.0 t.1 in
      let f : None ≡ Some r.2 = sym (subst (λ (z : ℕ). slice_get arms z ≡ None) same n) ∙ r.3 in
      absurd (cc)

  pub arm_stopped : (tape : List Item) (at k a : ℕ) (old new : List ℕ) (e : Fault) →
      before tape at ≡ before tape (at - 1) ++ arm_end_mark k ∷ [] → slice_get arms k ≡ Some a →
      Writes (Word strict table depth a) tape (at - 1) old new (Err e) →
      Writes (IsArm table depth arms) tape at old new (Err e)
  arm_stopped tape at k a old new e last found w = (
    λ is word kept front h f.
        let r = arm_inside word kept (before tape at) front h f in
        let t = same_last (before tape (at - 1)) ((front ++ arm_mark r.0 ∷ []) ++ tape_of r.1) (arm_end_mark k)
        (arm_end_mark r.0) (sym last ∙ r.5) in
        let same : k ≡ r.0 = same_arm k r.0 t.1 in
        let there : slice_get arms r.0 ≡ Some a = subst (λ (z : ℕ). slice_get arms z ≡ Some a) same found in
        let found = r.3 in
        let type : r.2 ≡ a = cc in
        w.0 is word r.1 (front ++ arm_mark r.0 ∷ [])
        (subst (λ (z : ℕ). Word strict table depth z word (value_of r.1)) type r.4) t.0,
    w.1,
  )

  pub arm_ended : (tape : List Item) (at k a rest : ℕ) (old new : List ℕ) (r : Result ℕ Fault) →
      before tape at ≡ before tape (at - 1) ++ arm_end_mark k ∷ [] → slice_get arms k ≡ Some a →
      Writes (Word strict table depth a) tape (at - 1) old new (Ok rest) → BeginsArm tape rest k r →
      Writes (IsArm table depth arms) tape at old new r
  arm_ended tape at k a rest old new (Ok m) last found w b =
      let puts = w.1 in (
        omega (arith, b.0, w.0),
        record {
          word = puts.word;
          kept = kept_chosen k puts.kept;
          are_octets = puts.are_octets;
          holds = (k, value_of puts.kept, a, refl, found, puts.holds);
          taken = last ∙ (ap (λ (z : List Mark). z ++ arm_end_mark k ∷ []) (puts.taken
              ∙ ap (λ (z : List Mark). z ++ tape_of puts.kept) b.1)
              ∙ (ap (λ (z : List Mark). z ++ arm_end_mark k ∷ []) (append_assoc (before tape m) (arm_mark k ∷ [])
              (tape_of puts.kept)) ∙ append_assoc (before tape m) (arm_mark k ∷ tape_of puts.kept) (arm_end_mark k ∷ [])));
          put = puts.put;
        },
      )
  arm_ended tape at k a rest old new (Err e) last found w b = (
    λ is word kept front h f.
        let puts = w.1 in
        let r = arm_inside word kept (before tape at) front h f in
        let t = same_last (before tape (at - 1)) ((front ++ arm_mark r.0 ∷ []) ++ tape_of r.1) (arm_end_mark k)
        (arm_end_mark r.0) (sym last ∙ r.5) in
        let same : k ≡ r.0 = same_arm k r.0 t.1 in
        let u = one_tape_back r.1 puts.kept (front ++ arm_mark r.0 ∷ []) (before tape rest) (sym t.0 ∙ puts.taken) in
        b front (subst (λ (z : ℕ). before tape rest ≡ front ++ arm_mark z ∷ []) (sym same) (sym u.1)),
    (w.1.word, w.1.put),
  )

-- Values within bounds.

pub bounds_written : (table : List Node) → is_sound table ≡ true → (depth t a : ℕ) (lower upper : Option ℤ) (node : Node) →
    slice_get table t ≡ Some node → node.kind ≡ kinds.Within a lower upper → (tape : List Item) (at : ℕ) (old new : List ℕ)
    (r : Result ℕ Fault) → Writes (IsWithinBounds table depth a lower upper) tape at old new r →
    Writes (Word strict table depth t) tape at old new r
bounds_written table sound depth t a lower upper node found is tape at old new r w =
    writes_map (IsWithinBounds table depth a lower upper) (Word strict table depth t)
    (λ x v h. record {
      parts = h.0.parts;
      element = h.0.element;
      value = body_within strict strict_lawful table sound t a lower upper node found is depth h.0.parts v h.0.value h.1;
    })
    (λ x v h. let b = within_body strict strict_lawful table sound t a lower upper node found is depth h.parts v h.value in
    (record { parts = h.parts; element = h.element; value = b.0 }, b.1)) tape at old new r w

module _ (table : List Node) (depth a : ℕ) (lower upper : Option ℤ) (tape : List Item) (at : ℕ) (old new : List ℕ) where
  pub within_stopped : (e : Fault) → Writes (Word strict table depth a) tape at old new (Err e) →
      Writes (IsWithinBounds table depth a lower upper) tape at old new (Err e)
  within_stopped e w = (λ is word kept front h f. w.0 is word kept front h.0 f, w.1)

  pub within_judged : (rest : ℕ) (r : Result ℕ Fault) → Writes (Word strict table depth a) tape at old new (Ok rest) →
      ((kept : Kept) → before tape at ≡ before tape rest ++ tape_of kept → rest ≤ at →
      JudgesBounds lower upper (measure (value_of kept)) r) → IfOk r (λ n. n ≡ rest) →
      Writes (IsWithinBounds table depth a lower upper) tape at old new r
  within_judged rest (Ok n) w j same = (
    subst (λ (z : ℕ). z ≤ at) (sym same) w.0,
    record {
      word = w.1.word;
      kept = w.1.kept;
      are_octets = w.1.are_octets;
      holds = (w.1.holds, j w.1.kept w.1.taken w.0);
      taken = subst (λ (z : ℕ). before tape at ≡ before tape z ++ tape_of w.1.kept) (sym same) w.1.taken;
      put = w.1.put;
    },
  )
  within_judged rest (Err e) w j same = (
    λ is word kept front h f.
        let u = one_tape_back kept w.1.kept front (before tape rest) (sym f ∙ w.1.taken) in
        outside e is (j w.1.kept w.1.taken w.0)
        (subst (λ (z : Kept). IsMeasured lower upper (measure (value_of z))) u.0 h.1),
    (w.1.word, w.1.put),
  )
    where
      outside : (e : Fault) → (e ≡ faults.Memory → ⊥) → JudgesBounds {T = ℕ} lower upper (measure (value_of w.1.kept)) (Err e) →
          IsMeasured lower upper (measure (value_of w.1.kept)) → ⊥
      outside faults.Refused is b m = b m
      outside faults.TooDeep is b m = b m
      outside faults.Memory is b m = absurd (is refl)
