-- What readers answer.
use Rattle.std.specs.Prelude.{ℕ, Bool, IsTrue, List, [], ◌++◌, ◌≡◌, ◌≢◌, ◌<◌, ◌⊎◌, length, Result, Ok, Err, ◌≤◌}
use Rattle.std.specs.Prelude.{IsErrAnd}
use Rattle.std.specs.Borrow.{Bor}
use Rattle.x690.specs.Joined.{NoPrefix}
use Rattle.asn1_headers.specs.declared.error.Err.{Err as Refusal}
use Rattle.asn1_headers.specs.declared.error.Err.TheVariants.{Incomplete as truncated, Error as refused, Failure as failed}
use Rattle.asn1_headers.specs.declared.error.Needed.TheVariants.{Size, Unknown}
use Rattle.asn1_headers.specs.declared.error.Error.{Error}
use Rattle.asn1_headers.specs.declared.error.Error.TheVariants.{OutOfMemory, InvalidTag}

-- an answer, without where the rest lies in memory
abbrev pub seen : {T E : Type 0} → Result (Bor (List ℕ) × T) E → Result (List ℕ × T) E
seen (Ok x) = Ok (x.0.now, x.1)
seen (Err e) = Err e

-- a word of the grammar, of this value, begins the input, and this is the rest
pub record HasPrefix {V : Type 0} (G : List ℕ → V → Type 0) (input : List ℕ) (v : V) (rest : List ℕ) : Type 0 where
  pub word : List ℕ
  pub fits : G word v
  pub is : input ≡ word ++ rest

-- What a refusal says of the input with more octets behind it. Where n are missing it says nothing of n or more; where
-- the input ends within an identifier it says nothing of any.
abbrev pub Speaks : {E : Type 0} → Type 0 → Refusal E → List ℕ → Type 0
Speaks is_truncated (truncated (Size n)) more = (more ≡ []) ⊎ (length more < n)
Speaks is_truncated (truncated Unknown) more = more ≡ []
Speaks is_truncated (refused x) more = (more ≡ []) ⊎ (is_truncated → ⊥)
Speaks is_truncated (failed x) more = (more ≡ []) ⊎ (is_truncated → ⊥)

-- The refusal is final: no word begins the input, whatever follows of which the refusal speaks.
abbrev pub IsFinal : {V E : Type 0} → Type 0 → Refusal E → (List ℕ → V → Type 0) → List ℕ → Type 0
IsFinal is_truncated r G input = (more : List ℕ) → Speaks is_truncated r more → NoPrefix G (input ++ more)

-- the refusal may report out of memory, where the reader allocates
abbrev pub TellsMemory : {E : Type 0} → Bool → (Error → E → Type 0) → Refusal E → Type 0
TellsMemory {E} allocates gives r = IsTrue allocates × ((e : E) × gives OutOfMemory e × (r ≡ refused e))

-- a refusal that is made of another cause than that memory is out, or that is not what that is made into
abbrev pub IsOther : {E : Type 0} → (Error → E → Type 0) → E → Type 0
IsOther {E} gives e = ((f : Error) × (f ≢ OutOfMemory) × gives f e) ⊎ (gives OutOfMemory e → ⊥)

-- The answer is Ok exactly where a word of the grammar begins the input, with its value and the rest. Where the reader
-- allocates, out of memory may be reported.
abbrev pub Exactly : {T V E : Type 0} → (List ℕ → Type 0) → (List ℕ → V → Type 0) → (T → V) → (Refusal E → Type 0) →
    List ℕ → Result (List ℕ × T) (Refusal E) → Type 0
Exactly IsTruncated G value memory input (Ok x) = HasPrefix G input (value x.1) x.0
Exactly IsTruncated G value memory input (Err r) = memory r ⊎ IsFinal (IsTruncated input) r G input

-- the answer is this value before this rest, except when out of memory
abbrev pub ReadsBack : {T V E : Type 0} → (T → V) → (Refusal E → Type 0) → V → List ℕ →
    Result (List ℕ × T) (Refusal E) → Type 0
ReadsBack value memory v rest (Ok x) = (v ≡ value x.1) × (x.0 ≡ rest)
ReadsBack value memory v rest (Err r) = memory r

-- the refusal of octets that more of them make whole: as many missing octets or fewer, or `InvalidTag` where they end
-- within an identifier
abbrev pub TellsBeginning : Type 0 → Refusal Error → List ℕ → Type 0
TellsBeginning ends_within r more =
    ((n : ℕ) × (r ≡ truncated (Size n)) × (n ≤ length more)) ⊎ ((r ≡ refused InvalidTag) × ends_within)

-- The answer is an `Err` that tells of octets that more of them make whole.
abbrev pub RefusedAsBeginning : {A : Type 0} → Type 0 → List ℕ → Result A (Refusal Error) → Type 0
RefusedAsBeginning ends_within more answer = IsErrAnd answer (λ r. TellsBeginning ends_within r more)

-- The answer is an `Err`, out of memory, or one that does not speak of these octets.
abbrev pub RefusedBeforeEnd : {A E : Type 0} → (Refusal E → Type 0) → Type 0 → List ℕ → Result A (Refusal E) → Type 0
RefusedBeforeEnd memory is_truncated more answer = IsErrAnd answer (λ r. memory r ⊎ (Speaks is_truncated r more → ⊥))
