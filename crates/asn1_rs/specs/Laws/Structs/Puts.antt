-- Fields that are put: an optional field is put as what it holds, and a row field by field, both ways.
use Rattle.std.proofs.Common.{◌≡◌, ◌∙◌, ap, arith, refl, subst, sym, ℕ, true, false, List, [], Option, None, Some, inl, inr}
use Rattle.std.specs.Prelude.{Result, Ok, Err, IsErr}
use Rattle.std.proofs.lemmas.Bool.{false≢true}
use Rattle.asn1_headers.specs.declared.error.SerializeError.{SerializeError}
use Rattle.asn1_rs.specs.Fields.{TakenFields, counted, goes_back, prepended, takes, PutsField, WritingRefuses}
use Rattle.asn1_rs.specs.Optional.{option_writing}
use Rattle.asn1_rs.specs.Structs.{PutList, none_put, put_then}
use Rattle.asn1_rs.specs.Structs.Flat.{PutsRow}
use Rattle.asn1_rs.specs.ToDer.{Writing, whole_refuses}

none_taken : (t : TakenFields) → t ≡ takes [] t
none_taken (counted n) = ap counted (omega arith)
none_taken (prepended o) = refl

none_refused : {S : Type 0} (w : Writing S) (t : TakenFields) (e : SerializeError) →
    WritingRefuses t (whole_refuses (option_writing w) None) e → ⊥
none_refused w (counted n) e r = r
none_refused w (prepended o) e (inl r) = r
none_refused w (prepended o) e (inr r) = r

pub nothing_put : {S : Type 0} (w : Writing S) (t : TakenFields) → PutsField (option_writing w) None t t (Ok tt)
nothing_put w t = record {
  taken = λ tells. none_taken t;
  refused = λ tells. tt;
  left = λ tells. tt;
  uncounted = λ e tells refuses. absurd refuses;
  accepted = λ e tells refuses. absurd (none_refused w t e refuses);
}

some_put : {S : Type 0} (w : Writing S) (x : S) (old new : TakenFields) (answer : Result (Unit {0}) SerializeError) →
    PutsField w x old new answer → PutsField (option_writing w) (Some x) old new answer
some_put w x old new answer p = record {
  taken = p.taken;
  refused = p.refused;
  left = p.left;
  uncounted = p.uncounted;
  accepted = p.accepted;
}

pub put_some : {S : Type 0} (w : Writing S) (o : Option S) (x : S) → o ≡ Some x → (old new : TakenFields)
    (answer : Result (Unit {0}) SerializeError) → PutsField w x old new answer →
    PutsField (option_writing w) o old new answer
put_some w o x is old new answer p =
    subst (λ o. PutsField (option_writing w) o old new answer) (sym is) (some_put w x old new answer p)

pub end_puts : (old : TakenFields) → PutsRow none_put old old (Ok tt)
end_puts old = record { puts = (refl, refl) }

module _ {T : Type 0} (w : Writing T) (x : T) (rest : PutList) where
  pub forward_ok : (old mid new : TakenFields) (answer : Result (Unit {0}) SerializeError) → goes_back old ≡ false →
      PutsField w x old mid (Ok tt) → PutsRow rest mid new answer → PutsRow (put_then w x rest) old new answer
  forward_ok old mid new answer g p r = record {
    puts = (λ _. (mid, Ok tt, p, r.puts), λ t. absurd (false≢true (sym g ∙ t)));
  }

  pub forward_err : (old new : TakenFields) (e : SerializeError) → goes_back old ≡ false →
      PutsField w x old new (Err e) → PutsRow (put_then w x rest) old new (Err e)
  forward_err old new e g p = record {
    puts = (λ _. (new, Err e, p, refl), λ t. absurd (false≢true (sym g ∙ t)));
  }

  pub backward_ok : (old mid new : TakenFields) (answer : Result (Unit {0}) SerializeError) → goes_back old ≡ true →
      PutsRow rest old mid (Ok tt) → PutsField w x mid new answer → PutsRow (put_then w x rest) old new answer
  backward_ok old mid new answer g r p = record {
    puts = (λ f. absurd (false≢true (sym f ∙ g)), λ _. (mid, Ok tt, r.puts, p));
  }

  pub backward_err : (old new : TakenFields) (e : SerializeError) → goes_back old ≡ true →
      PutsRow rest old new (Err e) → PutsRow (put_then w x rest) old new (Err e)
  backward_err old new e g r = record {
    puts = (λ f. absurd (false≢true (sym f ∙ g)), λ _. (new, Err e, r.puts, (refl, refl)));
  }

pub ruleset both_ways = (end_puts, forward_ok, forward_err, backward_ok, backward_err)
