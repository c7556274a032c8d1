-- Laws of one piece put before another.
use Rattle.std.proofs.Common.{◌≡◌, ℕ, ◌+◌, true, false, List, [], ◌++◌, length, length-append, IfErr}
use Rattle.std.proofs.Common.{Result, Ok, Err, refl, sym, ap, ◌∙◌, append_assoc, arith}
use Rattle.std.proofs.lemmas.List.{append-nil}
use Rattle.asn1_headers.specs.declared.error.SerializeError.{SerializeError}
use Rattle.asn1_headers.specs.Error.{tells_of_io}
use Rattle.asn1_headers.specs.declared.buffer.NoRoom.{NoRoom}
use Rattle.asn1_headers.specs.declared.buffer.NoRoom.TheVariants as no_room
use Rattle.asn1_headers.specs.Prepended.{Prepended, IsPut, answer_of}
use Rattle.asn1_headers.specs.Writer.{SumsWritten, MayRefuse}

-- refused, with the buffer as it was
pub Prepended_refused : (octets old new : List ℕ) (e : SerializeError) → new ≡ old → tells_of_io e ≡ false →
    Prepended octets old new (Err e)
Prepended_refused octets old new e same h = record {
  ok = tt;
  err = record { front = octets; rest = []; parts = sym (append-nil octets); grown = same };
  memory = h;
}

-- a refusal within the last part
pub Prepended_last : {e : SerializeError} (xs : List ℕ) {ys old new : List ℕ} → Prepended ys old new (Err e) →
    Prepended (xs ++ ys) old new (Err e)
Prepended_last xs {ys} p = record {
  ok = tt;
  err = let r = p.err in record {
    front = xs ++ r.front;
    rest = r.rest;
    parts = ap (λ z. xs ++ z) r.parts ∙ sym (append_assoc xs r.front r.rest);
    grown = r.grown;
  };
  memory = p.memory;
}

-- a refusal within the first part, with the last one in place
pub Prepended_first : {e : SerializeError} {n : ℕ} {xs ys old mid new : List ℕ} → Prepended ys old mid (Ok n) →
    Prepended xs mid new (Err e) → Prepended (xs ++ ys) old new (Err e)
Prepended_first {e} {n} {xs} {ys} {old} p q = record {
  ok = tt;
  err = let r = q.err in record {
    front = r.front;
    rest = r.rest ++ ys;
    parts = ap (λ z. z ++ ys) r.parts ∙ append_assoc r.front r.rest ys;
    grown = r.grown ∙ ap (λ z. r.rest ++ z) p.ok.0 ∙ sym (append_assoc r.rest ys old);
  };
  memory = q.memory;
}

-- both parts in place, and the sum of their numbers
pub Prepended_sum : {n m : ℕ} {xs ys old mid new : List ℕ} (r : Result ℕ SerializeError) →
    Prepended ys old mid (Ok m) → Prepended xs mid new (Ok n) → SumsWritten n m r → Prepended (xs ++ ys) old new r
Prepended_sum {n} {m} {xs} {ys} {old} (Ok k) p q s = record {
  ok = (
    q.ok.0 ∙ ap (λ z. xs ++ z) p.ok.0 ∙ sym (append_assoc xs ys old),
    simp length-append (omega (arith, s, p.ok.1, q.ok.1)),
  );
  err = tt;
  memory = tt;
}
Prepended_sum {n} {m} {xs} {ys} {old} (Err e) p q s = record {
  ok = tt;
  err = record {
    front = [];
    rest = xs ++ ys;
    parts = refl;
    grown = q.ok.0 ∙ ap (λ z. xs ++ z) p.ok.0 ∙ sym (append_assoc xs ys old);
  };
  memory = rw s.0 refl;
}

-- all in place
pub Prepended_all : {n : ℕ} {xs old new : List ℕ} → n ≡ length xs → new ≡ xs ++ old → Prepended xs old new (Ok n)
Prepended_all p q = record { ok = (q, p); err = tt; memory = tt }

-- A sum of two numbers is refused only where the length of both pieces and of the old octets allows it.
pub sum_may : {n m : ℕ} (xs ys old : List ℕ) (r : Result ℕ SerializeError) → m ≡ length ys → n ≡ length xs →
    SumsWritten n m r → IfErr r (MayRefuse true (length (xs ++ ys) + length old))
sum_may xs ys old (Ok k) p q s = tt
sum_may xs ys old (Err e) p q s = rw s.0 (simp length-append (omega (arith, p, q, s.1)))

-- what was put in front at once
pub Prepended_put : (octets old new : List ℕ) (r : Result ℕ NoRoom) → IsPut octets old new r →
    Prepended octets old new (answer_of r)
Prepended_put octets old new (Ok n) p = Prepended_all p.1 p.0
Prepended_put octets old new (Err no_room.PastUsize) p = Prepended_refused _ _ _ _ p.0 refl
Prepended_put octets old new (Err no_room.OutOfMemory) p = Prepended_refused _ _ _ _ p.0 refl

pub put_may : (octets old new : List ℕ) (r : Result ℕ NoRoom) → IsPut octets old new r →
    IfErr (answer_of r) (MayRefuse true (length octets + length old))
put_may octets old new (Ok n) p = tt
put_may octets old new (Err e) p = p.2
