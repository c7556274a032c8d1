-- Rows of lawful fields are lawful, and their readers are exact.
use Rattle.std.proofs.Common.{◌≡◌, ◌≢◌, ◌∙◌, ap, sym, subst, refl, ℕ, inl, inr, Bool, true, false, List, [], ◌∷◌, ◌++◌}
use Rattle.std.specs.Prelude.{◌||◌, ◌&&◌, ◌⊎◌, Result, Ok, Err, IfErr, IsTrue, nat_eq, not}
use Rattle.std.proofs.lemmas.Bool.{eqb-true, eq-eqb}
use Rattle.x690.specs.Octets.{IsOctets}
use Rattle.x690.specs.Rules.{Rule}
use mathlib.Core.HLevel.{Σ_set}
use Rattle.x690.specs.Laws.Equality.{unit_set}
use Rattle.x690.specs.Laws.Octets.{octets_append, below_octets}
use Rattle.asn1_headers.specs.declared.error.Err.{Err as Refusal}
use Rattle.asn1_headers.specs.declared.error.Err.TheVariants.{Incomplete as truncated, Error as refused, Failure as failed}
use Rattle.asn1_headers.specs.declared.error.Error.{Error}
use Rattle.asn1_headers.specs.declared.error.Error.TheVariants as errors
use Rattle.asn1_headers.specs.Answers.{TellsMemory, IsOther}
use Rattle.asn1_headers.specs.Error.{ErrorIs}
use Rattle.asn1_rs.specs.FieldReader.{BecomesError}
use Rattle.asn1_rs.specs.Laws.Whole.{memory_becomes}
use Rattle.asn1_rs.specs.Structs.{EncodingRules, header_rule, FieldGrammar, RowGrammar, empty_row, row_of, Numbers}
use Rattle.asn1_rs.specs.Structs.{any_number, among, is_one_of, have_none_in_common, numbers_disjoint, or_those}
use Rattle.asn1_rs.specs.Structs.{numbers_of}
use Rattle.asn1_rs.specs.Structs.{BeginsWithOneOf, BeginsAmong, BeginsApart, is_unambiguous, EndGives, RowGives}
use Rattle.asn1_rs.specs.Structs.{ReadsRow, ReadsField}
use Rattle.asn1_rs.specs.Laws.Structs.Fields.{IsLawfulField}

-- As of a field. Strict octets are taken again where each optional field is told.
pub record IsLawfulRow {S : Type 0} (R : RowGrammar S) : Type 0 where
  pub one_equality : IsSet R.Value
  pub values : (rules : EncodingRules) (o : List ℕ) (v : R.Value) → R.Takes rules o v → R.IsValue v
  pub one : (rules : EncodingRules) (o : List ℕ) (v w : R.Value) → R.Takes rules o v → R.Takes rules o w → v ≡ w
  pub strict_one : (v : R.Value) (o p : List ℕ) → R.Strict v o → R.Strict v p → o ≡ p
  pub strict_values : (v : R.Value) (o : List ℕ) → R.Strict v o → R.IsValue v
  pub strict_der : (v : R.Value) (o : List ℕ) → R.Strict v o → R.IsDer v
  pub strict_octets : (v : R.Value) (o : List ℕ) → R.Strict v o → IsOctets o
  pub begins : (rules : EncodingRules) (v : R.Value) (o : List ℕ) → R.Strict v o →
      BeginsAmong (header_rule rules) R.numbers o
  pub strict_takes : R.told ≡ true → (rules : EncodingRules) (v : R.Value) (o : List ℕ) → R.Strict v o →
      R.Takes rules o v

-- each of two holds where both do
pub first_holds : (a b : Bool) → (a && b) ≡ true → a ≡ true
first_holds true b e = refl
first_holds false b e = absurd (cc)

pub second_holds : (a b : Bool) → (a && b) ≡ true → b ≡ true
second_holds true b e = e
second_holds false b e = absurd (cc)

-- the row of no fields is lawful
pub empty_lawful : IsLawfulRow empty_row
empty_lawful = record {
  one_equality = unit_set;
  values = λ rules o v t. tt;
  one = λ rules o v w t u. refl;
  strict_one = λ v o p s t. s ∙ sym t;
  strict_values = λ v o s. tt;
  strict_der = λ v o s. tt;
  strict_octets = λ v o s. subst IsOctets (sym s) (below_octets [] tt);
  begins = λ rules v o s. inl s;
  strict_takes = λ told rules v o s. s;
}

-- Tag numbers.

-- a number of one of two lists is one of both
first_list : (n : ℕ) (ns ms : List ℕ) → is_one_of n ns ≡ true → is_one_of n (ns ++ ms) ≡ true
first_list n [] ms h = absurd (cc)
first_list n (x ∷ ns) ms h = elim (nat_eq x n) as
    (λ b. (b || is_one_of n ns) ≡ true → (b || is_one_of n (ns ++ ms)) ≡ true)
    [ true ↦ (λ t. refl) | false ↦ (λ t. first_list n ns ms t) ] h

second_list : (n : ℕ) (ns ms : List ℕ) → is_one_of n ms ≡ true → is_one_of n (ns ++ ms) ≡ true
second_list n [] ms h = h
second_list n (x ∷ ns) ms h = elim (nat_eq x n) as (λ b. (b || is_one_of n (ns ++ ms)) ≡ true)
    [ true ↦ refl | false ↦ second_list n ns ms h ]

-- two lists that have none in common, by the first number of one
none_here : (n : ℕ) (ns ms : List ℕ) → have_none_in_common (n ∷ ns) ms ≡ true → not (is_one_of n ms) ≡ true
none_here n ns ms apart = elim (is_one_of n ms) as (λ b. (not b && have_none_in_common ns ms) ≡ true → not b ≡ true)
    [ true ↦ (λ t. t) | false ↦ (λ t. refl) ] apart

none_there : (n : ℕ) (ns ms : List ℕ) → have_none_in_common (n ∷ ns) ms ≡ true → have_none_in_common ns ms ≡ true
none_there n ns ms apart = elim (is_one_of n ms) as
    (λ b. (not b && have_none_in_common ns ms) ≡ true → have_none_in_common ns ms ≡ true)
    [ true ↦ (λ t. absurd (cc)) | false ↦ (λ t. t) ] apart

-- a number that is one of these, and one that is none
differs : (n m : ℕ) (numbers : List ℕ) → not (is_one_of n numbers) ≡ true → is_one_of m numbers ≡ true →
    nat_eq n m ≡ true → ⊥
differs n m numbers none h e =
    let t : is_one_of n numbers ≡ true = subst (λ (z : ℕ). is_one_of z numbers ≡ true) (sym (eqb-true n m e)) h in
    absurd (let u : not true ≡ true = subst (λ (b : Bool). not b ≡ true) t none in cc)

-- no number of the second of two lists that have none in common is one of the first
none_of_first : (n : ℕ) (ns ms : List ℕ) → have_none_in_common ns ms ≡ true → is_one_of n ms ≡ true →
    is_one_of n ns ≡ false
none_of_first n [] ms apart h = refl
none_of_first n (x ∷ ns) ms apart h =
    tells (nat_eq x n) refl (none_of_first n ns ms (none_there x ns ms apart) h)
  where
    tells : (b : Bool) → nat_eq x n ≡ b → is_one_of n ns ≡ false → (nat_eq x n || is_one_of n ns) ≡ false
    tells true e others = absurd (differs x n ms (none_here x ns ms apart) h e)
    tells false e others = rw e others

-- octets that begin with one of these begin with one of these or those
begins_here : (rule : Rule) (own behind : Numbers) (octets : List ℕ) → BeginsWithOneOf rule own octets →
    BeginsWithOneOf rule (or_those own behind) octets
begins_here rule any_number behind octets b = tt
begins_here rule (among ns) any_number octets b = tt
begins_here rule (among ns) (among ms) octets (m, b, h) = (m, b, first_list m ns ms h)

begins_behind : (rule : Rule) (own behind : Numbers) (octets : List ℕ) → BeginsWithOneOf rule behind octets →
    BeginsWithOneOf rule (or_those own behind) octets
begins_behind rule any_number behind octets b = tt
begins_behind rule (among ns) any_number octets b = tt
begins_behind rule (among ns) (among ms) octets (m, b, h) = (m, b, second_list m ns ms h)

-- and those that begin among numbers apart from these begin apart from these
among_begins_apart : (rule : Rule) (own behind : Numbers) (octets : List ℕ) → numbers_disjoint own behind ≡ true →
    BeginsAmong rule behind octets → BeginsApart rule own octets
among_begins_apart rule any_number (among []) octets apart (inl e) = e
among_begins_apart rule any_number (among []) octets apart (inr (m, b, h)) = absurd (cc)
among_begins_apart rule any_number (among (n ∷ ns)) octets apart b = absurd (cc)
among_begins_apart rule any_number any_number octets apart b = absurd (cc)
among_begins_apart rule (among ns) any_number octets apart b = absurd (cc)
among_begins_apart rule (among ns) (among ms) octets apart (inl e) = inl e
among_begins_apart rule (among ns) (among ms) octets apart (inr (m, b, h)) =
    inr (m, b, none_of_first m ns ms apart h)

-- that all are told says so of the others
told_behind : (optional : Bool) (own numbers : Numbers) (behind : Bool) →
    is_unambiguous optional own numbers behind ≡ true → behind ≡ true
told_behind optional own numbers true e = refl
told_behind optional own numbers false e = absurd (cc)

-- and of an optional field
told_here : (optional : Bool) (own numbers : Numbers) (behind : Bool) →
    is_unambiguous optional own numbers behind ≡ true →
    optional ≡ true → numbers_disjoint own numbers ≡ true
told_here true own numbers true e o = e
told_here true own numbers false e o = absurd (cc)
told_here false own numbers behind e o = absurd (cc)

module _ {S R : Type 0} (F : FieldGrammar S) (G : RowGrammar R) where
  module _ (f : IsLawfulField F) (g : IsLawfulRow G) where
    row_one : (rules : EncodingRules) (o : List ℕ) (v w : (row_of F G).Value) → (row_of F G).Takes rules o v →
        (row_of F G).Takes rules o w → v ≡ w
    row_one rules o v w t u =
        let here = f.one rules o v.0 w.0 t.0 u.0 t.1 u.1 in
        let there = g.one rules u.0 v.1 w.1 (subst (λ (z : List ℕ). G.Takes rules z v.1) here.1 t.2) u.2 in
        pairs v.0 w.0 v.1 w.1 here.0 there
      where
        pairs : (a b : F.Value) (c d : G.Value) → a ≡ b → c ≡ d → ◌≡◌ {A = F.Value × G.Value} (a, c) (b, d)
        pairs a b c d p q = cc

    row_strict_one : (v : (row_of F G).Value) (o p : List ℕ) → (row_of F G).Strict v o → (row_of F G).Strict v p → o ≡ p
    row_strict_one v o p s t =
        let here = f.strict_one v.0 s.0 t.0 s.2 t.2 in
        let there = g.strict_one v.1 s.1 t.1 s.3 t.3 in
        s.4 ∙ ap (λ (z : List ℕ). z ++ s.1) here ∙ ap (λ (z : List ℕ). t.0 ++ z) there ∙ sym t.4

    row_begins : (rules : EncodingRules) (v : (row_of F G).Value) (o : List ℕ) → (row_of F G).Strict v o →
        BeginsAmong (header_rule rules) (row_of F G).numbers o
    row_begins rules v o s =
        subst (BeginsAmong (header_rule rules) (row_of F G).numbers) (sym s.4)
        (begins F.optional (f.begins rules v.0 s.0 s.1 s.2) (g.begins rules v.1 s.1 s.3))
      where
        Begins : Numbers → List ℕ → Type 0
        Begins = BeginsWithOneOf (header_rule rules)

        begins : (optional : Bool) → ((s.0 ≡ []) × (optional ≡ true)) ⊎ Begins F.numbers (s.0 ++ s.1) →
            BeginsAmong (header_rule rules) G.numbers s.1 →
            BeginsAmong (header_rule rules) (numbers_of optional F.numbers G.numbers) (s.0 ++ s.1)
        begins false (inl h) b = absurd (let t = h.1 in cc)
        begins false (inr b) c = inr b
        begins true (inl h) (inl e) = inl (ap (λ (z : List ℕ). z ++ s.1) h.0 ∙ e)
        begins true (inl h) (inr b) =
            let same : s.1 ≡ s.0 ++ s.1 = sym (ap (λ (z : List ℕ). z ++ s.1) h.0) in
            inr (begins_behind (header_rule rules) F.numbers G.numbers (s.0 ++ s.1) (subst (Begins G.numbers) same b))
        begins true (inr b) c = inr (begins_here (header_rule rules) F.numbers G.numbers (s.0 ++ s.1) b)

    row_strict_takes : (row_of F G).told ≡ true → (rules : EncodingRules) (v : (row_of F G).Value) (o : List ℕ) →
        (row_of F G).Strict v o → (row_of F G).Takes rules o v
    row_strict_takes told rules v o s =
        let behind = g.strict_takes (told_behind F.optional F.numbers G.numbers G.told told) rules v.1 s.1 s.3 in
        let here : F.Takes rules (s.0 ++ s.1) v.0 s.1 = f.strict_takes rules v.0 s.0 s.1 s.2 (λ optional.
        among_begins_apart (header_rule rules) F.numbers G.numbers s.1
        (told_here F.optional F.numbers G.numbers G.told told optional) (g.begins rules v.1 s.1 s.3)) in
        (s.1, subst (λ (z : List ℕ). F.Takes rules z v.0 s.1) (sym s.4) here, behind)

    -- A lawful field before a lawful row makes a lawful row.
    pub row_lawful : IsLawfulRow (row_of F G)
    row_lawful = record {
      one_equality = Σ_set f.one_equality (λ _. g.one_equality);
      values = λ rules o v t. (f.values rules o v.0 t.0 t.1, g.values rules t.0 v.1 t.2);
      one = row_one;
      strict_one = row_strict_one;
      strict_values = λ v o s. (f.strict_values v.0 s.0 s.2, g.strict_values v.1 s.1 s.3);
      strict_der = λ v o s. (f.strict_der v.0 s.0 s.2, g.strict_der v.1 s.1 s.3);
      strict_octets = λ v o s.
          subst IsOctets (sym s.4)
          (octets_append s.0 s.1 (f.strict_octets v.0 s.0 s.2) (g.strict_octets v.1 s.1 s.3));
      begins = row_begins;
      strict_takes = row_strict_takes;
    }

  -- Reading.

  or_first : (a b : Bool) → IsTrue a → IsTrue (a || b)
  or_first true b t = refl
  or_first false b t = absurd (cc)

  or_second : (a b : Bool) → IsTrue b → IsTrue (a || b)
  or_second true b t = refl
  or_second false b t = t

  module _ (rules : EncodingRules) (f : IsLawfulField F) (first : List ℕ → Result (List ℕ × S) (Refusal Error) → Type 0)
      (others : List ℕ → Result R Error → Type 0)
      (exact : (octets : List ℕ) (answer : Result (List ℕ × S) (Refusal Error)) → IsOctets octets →
      first octets answer → ReadsField rules F octets answer)
      (exact_others : (octets : List ℕ) (answer : Result R Error) → IsOctets octets → others octets answer →
      ReadsRow rules G octets answer) where
    none_first : (octets : List ℕ) → ((v : F.Value) (rest : List ℕ) → F.Takes rules octets v rest → ⊥) →
        (v : (row_of F G).Value) → (row_of F G).Takes rules octets v → ⊥
    none_first octets none v t = none v.0 t.0 t.1

    none_behind : (octets rest : List ℕ) (a : F.Value) → F.Takes rules octets a rest →
        ((v : G.Value) → G.Takes rules rest v → ⊥) → (v : (row_of F G).Value) → (row_of F G).Takes rules octets v → ⊥
    none_behind octets rest a t none v u =
        none v.1 (subst (λ (z : List ℕ). G.Takes rules z v.1) (f.one rules octets v.0 a u.0 rest u.1 t).1 u.2)

    refused_first : (octets : List ℕ) (r : Refusal Error) (e : Error) → ReadsField rules F octets (Err r) →
        BecomesError r e → ReadsRow rules (row_of F G) octets (Err e)
    refused_first octets r e (inl m) b = inl (or_first F.allocates G.allocates m.0, memory_becomes F.allocates r e m b)
    refused_first octets r e (inr none) b = inr (none_first octets none)

    refused_behind : (octets rest : List ℕ) (a : F.Value) (e : Error) → F.Takes rules octets a rest →
        ReadsRow rules G rest (Err e) → ReadsRow rules (row_of F G) octets (Err e)
    refused_behind octets rest a e t (inl m) = inl (or_second F.allocates G.allocates m.0, m.1)
    refused_behind octets rest a e t (inr none) = inr (none_behind octets rest a t none)

    -- The reader of a row is exact where those of its fields are.
    pub row_reads : (octets : List ℕ) (answer : Result (S × R) Error) → IsOctets octets →
        RowGives first others octets answer → ReadsRow rules (row_of F G) octets answer
    row_reads octets (Ok x) k g =
        let here = exact octets (Ok (g.0, x.0)) k g.1 in
        (g.0, here, exact_others g.0 (Ok x.1) (f.back rules octets (F.value x.0) g.0 k here) g.2)
    row_reads octets (Err e) k (inl (r, g, b)) = refused_first octets r e (exact octets (Err r) k g) b
    row_reads octets (Err e) k (inr (x, rest, g, h)) =
        let here = exact octets (Ok (rest, x)) k g in
        refused_behind octets rest (F.value x) e here
        (exact_others rest (Err e) (f.back rules octets (F.value x) rest k here) h)

-- The row of no fields is read exactly.
pub end_reads : (rules : EncodingRules) (octets : List ℕ) (answer : Result (Unit {0}) Error) → IsOctets octets →
    EndGives octets answer → ReadsRow rules empty_row octets answer
end_reads rules octets (Ok x) k g = g
end_reads rules octets (Err e) k g = inr (λ v t. g.0 t)

-- octets left over are not refused as out of memory
pub end_no_memory : (octets : List ℕ) (e : Error) → EndGives octets (Err e) → e ≢ errors.OutOfMemory
end_no_memory octets e g q = let t = g.1 in cc

-- what another refusal becomes is another error
other_becomes : (r : Refusal Error) (e : Error) → ErrorIs (IsOther (λ (x y : Error). y ≡ x)) r → BecomesError r e →
    e ≢ errors.OutOfMemory
other_becomes (truncated n) e h b q = cc
other_becomes (refused x) e h b q = other x e h b q
  where
    other : (x e : Error) → IsOther (λ (x y : Error). y ≡ x) x → e ≡ x → e ≢ errors.OutOfMemory
    other x e (inl o) b q = o.1 (sym o.2 ∙ sym b ∙ q)
    other x e (inr o) b q = o (sym b ∙ q)
other_becomes (failed x) e h b q = other x e h b q
  where
    other : (x e : Error) → IsOther (λ (x y : Error). y ≡ x) x → e ≡ x → e ≢ errors.OutOfMemory
    other x e (inl o) b q = o.1 (sym o.2 ∙ sym b ∙ q)
    other x e (inr o) b q = o (sym b ∙ q)

-- Where no field is refused as out of memory, the row is not.
pub row_no_memory : {S R : Type 0} (first : List ℕ → Result (List ℕ × S) (Refusal Error) → Type 0)
    (others : List ℕ → Result R Error → Type 0) →
    ((octets : List ℕ) (answer : Result (List ℕ × S) (Refusal Error)) → first octets answer →
    IfErr answer (ErrorIs (IsOther (λ (x y : Error). y ≡ x)))) →
    ((octets : List ℕ) (e : Error) → others octets (Err e) → e ≢ errors.OutOfMemory) →
    (octets : List ℕ) (e : Error) → RowGives first others octets (Err e) → e ≢ errors.OutOfMemory
row_no_memory first others none none_others octets e (inl (r, g, b)) = other_becomes r e (none octets (Err r) g) b
row_no_memory first others none none_others octets e (inr (x, rest, g, h)) = none_others rest e h

-- neither of two is, where neither is
pub or_neither : (a b : Bool) → (a || b) ≡ false → (a ≡ false) × (b ≡ false)
or_neither true b e = absurd (cc)
or_neither false b e = (refl, e)
