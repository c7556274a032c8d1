-- Values that are refused for what they are: their counts and writings.
use Rattle.std.proofs.Common.{◌≡◌, ◌≤◌, inl, inr, ℕ, Bool, true, false, IfErr, IfOk, Result, Ok, Err, refl, subst, ◌<◌, ◌^◌}
use Rattle.std.specs.Prelude.{IsErr}
use Rattle.asn1_headers.specs.Writer.{WriterState, MayRefuse}
use Rattle.asn1_headers.specs.Error.{written_refusal}
use Rattle.asn1_headers.specs.declared.error.Error.{Error}
use Rattle.asn1_headers.specs.declared.error.SerializeError.{SerializeError}
use Rattle.asn1_headers.specs.Laws.Writing.{MayRefuse_more}
use Rattle.asn1_rs.proofs.Writing.{may_refuse_none}
use Rattle.asn1_rs.specs.ToDer.{KeepsOrMayRefuse}
use Rattle.asn1_rs.specs.ToDer.{MayRefuseCount, Refuses, RefusesCount, IsRefusedAtOnce, RefusedAtOnce, Either}
use Rattle.asn1_rs.specs.Kinds.Writing.{CountRefused, OwnPutRefused, OwnRefusal, OwnWritten, OwnFirst}

-- the same count of octets, where it fits
pub same_count : (counted r : Result ℕ Error) (m : ℕ) → IfOk r (λ n. counted ≡ Ok n) → IfOk counted (λ n. n ≡ m) →
    IfOk r (λ n. n ≡ m)
same_count counted (Ok n) m same h = subst (λ r. IfOk r (λ k. k ≡ m)) same h
same_count counted (Err e) m same h = tt

-- what holds of a count, of which a header was written, holds of the number of octets
pub counted_holds : (P : ℕ → Type 0) (counted : Result ℕ Error) (k m : ℕ) (old new : WriterState) →
    IfErr counted (λ e. RefusedAtOnce (written_refusal e) old new (Ok k)) → IfOk counted P →
    IfOk counted (λ n. n ≡ m) → P m
counted_holds P (Ok n) k m old new at h same = subst P same h
counted_holds P (Err e) k m old new at h same = absurd (let q = at.refused in cc)

module _ (own : Error → Type 0) where
  -- Counts.
  pub count_refuses : (b : Bool) (n : ℕ) (r : Result ℕ Error) → CountRefused b own n r →
      IfErr r (RefusesCount false n (OwnRefusal b own))
  count_refuses false n (Ok k) h = tt
  count_refuses false n (Err e) h = inl h
  count_refuses true n r h = rw h.2 (inr h.1)

  pub count_accepted : (b : Bool) (n : ℕ) (r : Result ℕ Error) → CountRefused b own n r → (e : Error) →
      OwnRefusal b own e → IsErr r
  count_accepted false n r h e o = absurd o
  count_accepted true n r h e o = rw h.2 refl

  -- of an element whose contents octets were counted
  pub element_count_refused : (b : Bool) (m n : ℕ) (counted r : Result ℕ Error) → m ≤ n → CountRefused b own m counted →
      (IfErr counted (MayRefuseCount false m) → IfErr r (MayRefuseCount false n)) → IfErr counted (λ e. r ≡ Err e) →
      CountRefused b own n r
  element_count_refused false m n counted r l h sum at = sum h
  element_count_refused true m n counted r l h sum at = (h.0, h.1, of counted h.2 at)
    where
      of : (counted : Result ℕ Error) → counted ≡ Err h.0 → IfErr counted (λ e. r ≡ Err e) → r ≡ Err h.0
      of (Ok k) p at = absurd (let q = p in cc)
      of (Err e) p at = let q = p in cc

  -- Writing.
  -- a header, or a whole, whose contents octets were counted
  pub counted_put : (b : Bool) (m n : ℕ) (old new : WriterState) (counted : Result ℕ Error)
      (r : Result ℕ SerializeError) → CountRefused b own m counted →
      (IfErr counted (MayRefuseCount false m) → IfErr r (MayRefuse false n)) →
      IfErr counted (λ e. RefusedAtOnce (written_refusal e) old new r) → OwnPutRefused b own n old new r
  counted_put false m n old new counted r h put at = put h
  counted_put true m n old new counted r h put at = (h.0, h.1, of counted h.2 at)
    where
      of : (counted : Result ℕ Error) → counted ≡ Err h.0 →
          IfErr counted (λ e. RefusedAtOnce (written_refusal e) old new r) →
          RefusedAtOnce (written_refusal h.0) old new r
      of (Ok k) p at = absurd (let q = p in cc)
      of (Err e) p at = let q : e ≡ h.0 = cc in rw (← q) at

  -- what was written is not refused
  pub put_not_refused : (b : Bool) (n k : ℕ) (old new : WriterState) → OwnPutRefused b own n old new (Ok k) → b ≡ false
  put_not_refused false n k old new h = refl
  put_not_refused true n k old new h = absurd (let e = h.2.refused in cc)

  -- contents octets that are refused behind a header that was written
  pub put_behind_header : (b : Bool) (m n : ℕ) (old mid new : WriterState) (r : Result ℕ SerializeError) → m ≤ n →
      b ≡ false → OwnPutRefused b own m mid new r → OwnPutRefused b own n old new r
  put_behind_header false m n old mid new (Ok k) l e h = tt
  put_behind_header false m n old mid new (Err f) l e h = MayRefuse_more f false m n l h
  put_behind_header true m n old mid new r l e h = cc

  -- the same, of octets whose number fits
  pub octets_keep : (b : Bool) (n : ℕ) (old mid new : WriterState) (e : SerializeError) → b ≡ false → n < 2 ^ 64 →
      OwnPutRefused b own n mid new (Err e) → KeepsOrMayRefuse false old new (Err e)
  octets_keep false n old mid new e is l h = inl (may_refuse_none e false n l h)
  octets_keep true n old mid new e is l h = cc

  pub put_plain : (b : Bool) (n : ℕ) (old new : WriterState) (r : Result ℕ SerializeError) → b ≡ false →
      IfErr r (MayRefuse false n) → OwnPutRefused b own n old new r
  put_plain false n old new r e h = h
  put_plain true n old new r e h = cc

  pub put_refuses : (b : Bool) (n : ℕ) (old new : WriterState) (r : Result ℕ SerializeError) →
      OwnPutRefused b own n old new r → IfErr r (Refuses false n (OwnWritten b own))
  put_refuses false n old new (Ok k) h = tt
  put_refuses false n old new (Err e) h = inl h
  put_refuses true n old new r h = rw h.2.refused (inr (h.0, h.1, refl))

  pub put_accepted : (b : Bool) (n : ℕ) (old new : WriterState) (r : Result ℕ SerializeError) →
      OwnPutRefused b own n old new r → (e : SerializeError) → OwnWritten b own e → IsErr r
  put_accepted false n old new r h e o = absurd o
  put_accepted true n old new r h e o = rw h.2.refused refl

  pub put_uncounted : (b : Bool) (n : ℕ) (old new : WriterState) (r : Result ℕ SerializeError) →
      OwnPutRefused b own n old new r → (e : Error) → OwnRefusal b own e → IsErr r
  put_uncounted false n old new r h e o = absurd o
  put_uncounted true n old new r h e o = rw h.2.refused refl

  pub put_at_once : (b : Bool) (n : ℕ) (old new : WriterState) (r : Result ℕ SerializeError) →
      OwnPutRefused b own n old new r → (e : SerializeError) → OwnWritten b own e →
      IsRefusedAtOnce false n (OwnWritten b own) old new r
  put_at_once false n old new r h e o = absurd o
  put_at_once true n old new r h e o = (written_refusal h.0, inr (h.0, h.1, refl), h.2)

  -- the one refusal of the value's own
  pub put_first : (b : Bool) (n : ℕ) (old new : WriterState) (r : Result ℕ SerializeError) →
      OwnPutRefused b own n old new r → (e : SerializeError) → OwnFirst b own e → RefusedAtOnce e old new r
  put_first false n old new r h e o = absurd o
  put_first true n old new r h e o = rw (o h.0 h.1) h.2

  -- a value that has such a refusal is refused
  pub first_is_refused : (b : Bool) (e : SerializeError) → OwnFirst b own e → b ≡ true
  first_is_refused false e o = absurd o
  first_is_refused true e o = refl

  -- the whole, whose header and contents octets have the same refusals
  pub whole_put_refuses : (b : Bool) (n : ℕ) (old new : WriterState) (r : Result ℕ SerializeError) →
      OwnPutRefused b own n old new r → IfErr r (Refuses false n (Either (OwnWritten b own) (OwnWritten b own)))
  whole_put_refuses false n old new (Ok k) h = tt
  whole_put_refuses false n old new (Err e) h = inl h
  whole_put_refuses true n old new r h = rw h.2.refused (inr (inl (h.0, h.1, refl)))

  pub whole_put_at_once : (b : Bool) (n : ℕ) (old new : WriterState) (r : Result ℕ SerializeError) →
      OwnPutRefused b own n old new r → (e : SerializeError) → OwnWritten b own e →
      IsRefusedAtOnce false n (Either (OwnWritten b own) (OwnWritten b own)) old new r
  whole_put_at_once false n old new r h e o = absurd o
  whole_put_at_once true n old new r h e o = (written_refusal h.0, inr (inl (h.0, h.1, refl)), h.2)
