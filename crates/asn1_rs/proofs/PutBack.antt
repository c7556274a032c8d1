-- Fields that are put before the octets of a buffer, the last one first: what stands there, and why they are refused.
use Rattle.std.proofs.Common.{◌≡◌, ◌+◌, ◌≤◌, sym, ap, refl, subst, ◌∙◌, inl, inr, ℕ, List, [], ◌++◌, length}
use Rattle.std.proofs.Common.{length-append, append_assoc, Result, Ok, Err, arith, IfErr}
use Rattle.std.specs.Prelude.{IfOk, OnErr, IsErr, MatchResult}
use Rattle.std.proofs.lemmas.Bool.{false≢true}
use Rattle.asn1_headers.specs.declared.error.Error.{Error}
use Rattle.asn1_headers.specs.declared.error.SerializeError.{SerializeError}
use Rattle.asn1_headers.specs.Prepended.{GrewByAnEnd}
use Rattle.asn1_rs.proofs.Prepending.{vector_first, vector_second}
use Rattle.asn1_rs.specs.Fields.{TakenFields, counted, prepended, takes, LeavesAnEnd, PutsField}
use Rattle.asn1_rs.specs.Fields.{FieldList, no_fields, field, SpecifiesFields, fields_octets, FieldsRefuse}
use Rattle.asn1_rs.specs.Fields.{FieldsRefuseCount}
use Rattle.asn1_rs.specs.Laws.Structs.Writing.{puts_struct}
use Rattle.asn1_rs.specs.Structs.{puts_of, PutsAll, fields_by}
use Rattle.asn1_rs.specs.ToDer.{Writing, Either, VectorRefuses, whole_octets, whole_refuses}

-- what was put before the octets of a buffer
pub record PutBack (octets : List ℕ) (counts : Error → Type 0) (own : SerializeError → Type 0) (old : List ℕ)
    (new : TakenFields) (answer : Result (Unit {0}) SerializeError) : Type 0 where
  pub there : List ℕ
  pub stands : new ≡ prepended there
  pub put : IfOk answer (λ _. there ≡ octets ++ old)
  pub grew : OnErr answer (GrewByAnEnd octets old there)
  pub refused : IfErr answer (VectorRefuses (length octets + length old) own)
  pub uncounted : (e : Error) → counts e → IsErr answer
  pub accepted : (e : SerializeError) → own e → IsErr answer

abbrev all_put : Unit {0} → Result (Unit {0}) SerializeError
all_put u = Ok u

-- nothing
none_put : (old : List ℕ) (new : TakenFields) (answer : Result (Unit {0}) SerializeError) → answer ≡ Ok tt →
    new ≡ prepended old → PutBack [] (λ _. ⊥) (λ _. ⊥) old new answer
none_put old new answer is same = subst (PutBack [] (λ _. ⊥) (λ _. ⊥) old new) (sym is) (record {
  there = old;
  stands = same;
  put = refl;
  grew = tt;
  refused = tt;
  uncounted = λ e o. absurd o;
  accepted = λ e o. absurd o;
})

left_there : (o m : List ℕ) (new : TakenFields) → LeavesAnEnd o (prepended m) new →
    (n : List ℕ) × (new ≡ prepended n) × GrewByAnEnd o m n
left_there o m (counted n) h = absurd h
left_there o m (prepended n) h = (n, refl, h)

module _ (o rest old : List ℕ) where
  -- an end of the last part
  end_behind : (there : List ℕ) → GrewByAnEnd rest old there → GrewByAnEnd (o ++ rest) old there
  end_behind there g = record {
    front = o ++ g.front;
    rest = g.rest;
    parts = ap (λ z. o ++ z) g.parts ∙ sym (append_assoc o g.front g.rest);
    grown = g.grown;
  }

  -- an end of the first part, before the last one
  end_in_front : (m there : List ℕ) → m ≡ rest ++ old → GrewByAnEnd o m there → GrewByAnEnd (o ++ rest) old there
  end_in_front m there is g = record {
    front = g.front;
    rest = g.rest ++ rest;
    parts = ap (λ z. z ++ rest) g.parts ∙ append_assoc g.front g.rest rest;
    grown = g.grown ∙ ap (λ z. g.rest ++ z) is ∙ sym (append_assoc g.rest rest old);
  }

-- a field before those behind it
module _ {T : Type 0} (w : Writing T) (x : T) (t : w.tells x) (rest : List ℕ) (others : Error → Type 0)
    (other : SerializeError → Type 0) (old : List ℕ) (new mid : TakenFields) where
  abbrev WithIt : Result (Unit {0}) SerializeError → Type 0
  WithIt answer = PutBack (whole_octets w x ++ rest) (Either (w.count_refuses x) others)
      (Either (whole_refuses w x) other) old new answer

  -- those behind it are refused
  stopped : (e : SerializeError) → PutBack rest others other old mid (Err e) → new ≡ mid → WithIt (Err e)
  stopped e b same =
      let more : length rest + length old ≤ length (whole_octets w x ++ rest) + length old =
      simp length-append (omega arith) in
      record {
        there = b.there;
        stands = same ∙ b.stands;
        put = tt;
        grew = end_behind (whole_octets w x) rest old b.there b.grew;
        refused = vector_second e _ _ (whole_refuses w x) other more b.refused;
        uncounted = λ f o. refl;
        accepted = λ f o. refl;
      }

  -- it is put, or refused
  in_front : (m : List ℕ) → m ≡ rest ++ old → ((e : Error) → others e → ⊥) → ((e : SerializeError) → other e → ⊥) →
      (answer : Result (Unit {0}) SerializeError) → PutsField w x (prepended m) new answer → WithIt answer
  in_front m is none none_own (Ok u) q = record {
    there = whole_octets w x ++ m;
    stands = q.taken t;
    put = ap (λ z. whole_octets w x ++ z) is ∙ sym (append_assoc (whole_octets w x) rest old);
    grew = tt;
    refused = tt;
    uncounted = counts;
    accepted = writes;
  }
    where
      counts : (e : Error) → Either (w.count_refuses x) others e → IsErr (all_put u)
      counts e (inl o) = q.uncounted e t o
      counts e (inr o) = absurd (none e o)

      writes : (e : SerializeError) → Either (whole_refuses w x) other e → IsErr (all_put u)
      writes e (inl o) = q.accepted e t o
      writes e (inr o) = absurd (none_own e o)
  in_front m is none none_own (Err e) q =
      let l = left_there (whole_octets w x) m new (q.left t) in
      let n = ap length is in
      let more : length (whole_octets w x) + length m ≤ length (whole_octets w x ++ rest) + length old =
      simp length-append (omega (arith, simp length-append at n)) in
      record {
        there = l.0;
        stands = l.1;
        put = tt;
        grew = end_in_front (whole_octets w x) rest old m l.0 is l.2;
        refused = vector_first e _ _ (whole_refuses w x) other more (q.refused t);
        uncounted = λ f o. refl;
        accepted = λ f o. refl;
      }

  joined : (behind answer : Result (Unit {0}) SerializeError) → PutBack rest others other old mid behind →
      MatchResult behind (λ _. PutsField w x mid new answer) (λ e. (answer ≡ Err e) × (new ≡ mid)) → WithIt answer
  joined (Err e) answer b then = subst WithIt (sym then.0) (stopped e b then.1)
  joined (Ok u) answer b then =
      in_front b.there b.put (λ e o. false≢true (b.uncounted e o)) (λ e o. false≢true (b.accepted e o)) answer
      (subst (λ s. PutsField w x s new answer) b.stands then)

-- all fields
put_back : {S : Type 0} (fields : FieldList S) (x : S) (old : List ℕ) (new : TakenFields)
    (answer : Result (Unit {0}) SerializeError) → SpecifiesFields fields x →
    PutsAll (puts_of fields x) (prepended old) new answer →
    PutBack (fields_octets fields x) (FieldsRefuseCount fields x) (FieldsRefuse fields x) old new answer
put_back no_fields x old new answer t p = none_put old new answer p.0 p.1
put_back (field w of rest) x old new answer t p =
    let s = p.1 refl in
    joined w (of x) t.0 (fields_octets rest x) (FieldsRefuseCount rest x) (FieldsRefuse rest x) old new s.0 s.1 answer
    (put_back rest x old s.0 s.1 t.1 s.2) s.3

-- those of a struct
pub row_put_back : {S T : Type 0} (row : T → S) (list : FieldList S) (m : T) (old : List ℕ) (before new : TakenFields)
    (answer : Result (Unit {0}) SerializeError) → before ≡ prepended old → SpecifiesFields (fields_by row list) m →
    PutsAll (puts_of list (row m)) before new answer → PutBack (fields_octets (fields_by row list) m)
    (FieldsRefuseCount (fields_by row list) m) (FieldsRefuse (fields_by row list) m) old new answer
row_put_back row list m old before new answer is t p =
    put_back (fields_by row list) m old new answer t
    (subst (λ s. PutsAll (puts_of (fields_by row list) m) s new answer) is (puts_struct row list m before new answer p))
