-- Values that have no refusal of their own.
use Rattle.std.proofs.Common.{◌≡◌, ◌⊎◌, refl, inl, inr, rules, ℕ, Bool, true, false, List, length}
use Rattle.std.specs.Prelude.{Result, Ok, Err, IfErr, IfOk, MatchResult}
use Rattle.asn1_headers.specs.declared.error.Error.{Error}
use Rattle.asn1_headers.specs.declared.error.Error.TheVariants as errors
use Rattle.asn1_headers.specs.declared.error.SerializeError.{SerializeError}
use Rattle.asn1_headers.specs.declared.error.SerializeError.TheVariants as serialize_errors
use Rattle.asn1_headers.specs.Error.{tells_of_io}
use Rattle.asn1_headers.specs.Writer.{MayRefuse, IsMemoryOrLength}
use Rattle.asn1_rs.specs.ToDer.{Either, HasNone, MayRefuseCount, Refuses, RefusesCount, VectorRefuses}

-- no refusal of either is none of the two
pub either_none : {E : Type 0} (one other : E → Type 0) → HasNone one → HasNone other → HasNone (Either one other)
either_none one other p q e (inl o) = p e o
either_none one other p q e (inr o) = q e o

-- a vector of such a value is refused for its length, or since memory is out
may_be : (octets : List ℕ) (e : SerializeError) → tells_of_io e ≡ false → MayRefuse true (length octets) e →
    IsMemoryOrLength octets e
may_be octets (serialize_errors.ASN1Error e) h p = absurd p
may_be octets (serialize_errors.InvalidClass c) h p = absurd p
may_be octets serialize_errors.InvalidLength h p = inr (refl, p)
may_be octets (serialize_errors.IOError e) h p = let no : true ≡ false = h in cc
may_be octets serialize_errors.OutOfMemory h p = inl refl

pub vector_refused : {A : Type 0} (octets : List ℕ) (own : SerializeError → Type 0) → HasNone own →
    (r : Result A SerializeError) → IfErr r (λ e. tells_of_io e ≡ false) →
    IfErr r (VectorRefuses (length octets) own) → IfErr r (IsMemoryOrLength octets)
vector_refused octets own none (Ok v) h p = tt
vector_refused octets own none (Err e) h (inl p) = may_be octets e h p
vector_refused octets own none (Err e) h (inr (f, o, is)) = absurd (none f o)

-- where memory may be asked for, and where it is not
count_may : (allocates : Bool) (n : ℕ) (e : Error) → MayRefuseCount allocates n e → MayRefuseCount true n e
count_may allocates n errors.InvalidLength p = p
count_may allocates n errors.OutOfMemory p = refl
count_may allocates n e p = absurd p

pub may_ask : (allocates : Bool) (n : ℕ) (e : SerializeError) → MayRefuse allocates n e → MayRefuse true n e
may_ask allocates n (serialize_errors.ASN1Error e) p = p
may_ask allocates n (serialize_errors.InvalidClass c) p = p
may_ask allocates n serialize_errors.InvalidLength p = p
may_ask allocates n (serialize_errors.IOError e) p = tt
may_ask allocates n serialize_errors.OutOfMemory p = refl

-- a value without a refusal of its own is refused as any count, any writing, any vector of so many octets
module _ {A : Type 0} (n : ℕ) where
  pub count_alone : (allocates : Bool) (own : Error → Type 0) → HasNone own → (r : Result A Error) →
      IfErr r (RefusesCount allocates n own) → IfErr r (MayRefuseCount allocates n)
  count_alone allocates own none (Ok x) p = tt
  count_alone allocates own none (Err e) (inl p) = p
  count_alone allocates own none (Err e) (inr o) = absurd (none e o)

  pub writing_alone : (allocates : Bool) (own : SerializeError → Type 0) → HasNone own → (r : Result A SerializeError) →
      IfErr r (Refuses allocates n own) → IfErr r (MayRefuse allocates n)
  writing_alone allocates own none (Ok x) p = tt
  writing_alone allocates own none (Err e) (inl p) = p
  writing_alone allocates own none (Err e) (inr o) = absurd (none e o)

  pub vector_alone : (own : SerializeError → Type 0) → HasNone own → (r : Result A SerializeError) →
      IfErr r (VectorRefuses n own) → IfErr r (MayRefuse true n)
  vector_alone own none (Ok x) p = tt
  vector_alone own none (Err e) (inl p) = p
  vector_alone own none (Err e) (inr (f, o, is)) = absurd (none f o)

  pub count_asks : (allocates : Bool) (r : Result A Error) → IfErr r (MayRefuseCount allocates n) →
      IfErr r (MayRefuseCount true n)
  count_asks allocates (Ok x) p = tt
  count_asks allocates (Err e) p = count_may allocates n e p

  pub writing_asks : (allocates : Bool) (r : Result A SerializeError) → IfErr r (MayRefuse allocates n) →
      IfErr r (MayRefuse true n)
  writing_asks allocates (Ok x) p = tt
  writing_asks allocates (Err e) p = may_ask allocates n e p

-- out of memory, or the length, is what any vector may be refused for
pub vector_asks : {A : Type 0} (octets : List ℕ) (P : A → Type 0) (r : Result A SerializeError) →
    MatchResult r P (IsMemoryOrLength octets) → IfErr r (MayRefuse true (length octets))
vector_asks octets P (Ok x) p = tt
vector_asks octets P (Err e) (inl m) = rw m refl
vector_asks octets P (Err e) (inr m) = rw m.0 m.1

-- what is said of Ok and of Err, at once
pub both : {A E : Type 0} (P : A → Type 0) (Q : E → Type 0) (r : Result A E) → IfOk r P → IfErr r Q → MatchResult r P Q
both P Q (Ok x) p q = p
both P Q (Err e) p q = q
