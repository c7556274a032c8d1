-- Walking over the items in contents octets.
use Rattle.std.specs.Prelude.{ℕ, Bool, true, IsTrue, ◌≡◌, ◌≢◌, ◌⊎◌, List, [], ◌∷◌, ◌++◌, map, Result, Ok, Err, Option}
use Rattle.std.specs.List.{AllZip, concat}
use Rattle.std.specs.Iterator.Runs.{Run}
use Rattle.asn1_headers.specs.declared.error.Err.{Err as Refusal}
use Rattle.asn1_headers.specs.declared.error.Error.{Error}
use Rattle.asn1_headers.specs.declared.error.Error.TheVariants as errors
use Rattle.asn1_rs.specs.declared.asn1_types.sequence.iterator.SequenceIterator.{SequenceIterator}
use Rattle.asn1_headers.specs.Walk.{TakesItem}
use Rattle.x690.specs.Octets.{IsOctets}
use Rattle.x690.specs.Joined.{NoPrefix, IsPrefixFree, IsConcatenation}
use Rattle.asn1_headers.specs.Answers.{Exactly}
use Rattle.asn1_rs.specs.declared.asn1_types.any.Any.{Any}
use Rattle.asn1_rs.specs.Any.{IsTheElement}
use Rattle.asn1_rs.specs.Traits.{BerGives}

-- the octets that are left
abbrev pub octets_left : {T F E : Type 0} → SequenceIterator T F E → List ℕ
octets_left s = s.left.now

-- A reader takes an item exactly where a word of the grammar begins the octets, and one word alone begins an input.
pub record ReadsExactly {T V E : Type 0} (IsTruncated : List ℕ → Type 0) (G : List ℕ → V → Type 0) (value : T → V)
    (memory : Refusal E → Type 0) (reads : List ℕ → Result (List ℕ × T) (Refusal E) → Type 0) : Type 0 where
  pub one_word : IsPrefixFree G
  pub takes : (octets : List ℕ) (answer : Result (List ℕ × T) (Refusal E)) → IsOctets octets → reads octets answer →
      Exactly IsTruncated G value memory octets answer

-- What a call of `next` on the iterator answers, and the iterator that it leaves.
abbrev pub WalkSteps : {T F E : Type 0} → (List ℕ → Result (List ℕ × T) (Refusal E) → Type 0) → (Error → E → Type 0) →
    SequenceIterator T F E → Option (Result T E) → SequenceIterator T F E → Type 0
WalkSteps reads from s answer t = TakesItem reads from (octets_left s) answer (octets_left t)

-- How a walk ended so far, where these octets were not taken: they are left;
-- or one refusal told of them, and nothing is left.
abbrev pub EndsWalk : {T E : Type 0} → (List ℕ → E → Type 0) → List ℕ → List (Result T E) → List ℕ → Type 0
EndsWalk Tells octets [] left = left ≡ octets
EndsWalk Tells octets (Err e ∷ []) left = (octets ≢ []) × Tells octets e × (left ≡ [])
EndsWalk Tells octets _ left = ⊥

-- What the calls of `next` gave so far. They are the values of words, whose joining begins the contents octets, and
-- then perhaps one refusal of what follows them.
pub record IsWalk {T V E : Type 0} (G : List ℕ → V → Type 0) (value : T → V) (Tells : List ℕ → E → Type 0)
    (content : List ℕ) (answers : List (Result T E)) (left : List ℕ) : Type 0 where
  pub words : List (List ℕ)
  pub items : List T
  pub others : List ℕ
  pub ends : List (Result T E)
  pub answers_are : answers ≡ map Ok items ++ ends
  pub values : AllZip (λ word item. G word (value item)) words items
  pub joined : content ≡ concat words ++ others
  pub end : EndsWalk Tells others ends left

-- What the calls that std's consumers make give is a walk, and where they went on to `None`, nothing is left.
pub record IsWalkOf {T F V E : Type 0}
    {steps : SequenceIterator T F E → Option (Result T E) → SequenceIterator T F E → Type 0} (G : List ℕ → V → Type 0)
    (value : T → V) (Tells : List ℕ → E → Type 0) (run : Run steps) : Type 0 where
  pub left : List ℕ
  pub walk : IsWalk G value Tells (octets_left run.from) run.items left
  pub whole : run.whole ≡ true → left ≡ []

-- Words of the grammar with these values begin the octets, and something is left behind them,
-- of which the refusal tells.
pub record EndsJoined {V E : Type 0} (G : List ℕ → V → Type 0) (Tells : List ℕ → E → Type 0) (octets : List ℕ)
    (values : List V) (e : E) : Type 0 where
  pub front : List ℕ
  pub others : List ℕ
  pub is : octets ≡ front ++ others
  pub joined : IsConcatenation G front values
  pub some : others ≢ []
  pub tells : Tells others e

-- a refusal tells that no word begins what is left, or reports out of memory, where the reader allocates
abbrev pub TellsNoWord : {V E : Type 0} → (List ℕ → V → Type 0) → (E → Type 0) → List ℕ → E → Type 0
TellsNoWord G memory octets e = memory e ⊎ NoPrefix G octets

-- where a word begins what is left a refusal reports out of memory alone
abbrev pub TellsMemoryAlone : {E : Type 0} → (E → Type 0) → List ℕ → E → Type 0
TellsMemoryAlone memory octets e = memory e

-- the error reports out of memory, where the reader allocates
abbrev pub IsMemory : {E : Type 0} → Bool → (Error → E → Type 0) → E → Type 0
IsMemory allocates from e = IsTrue allocates × from errors.OutOfMemory e

-- where no refusal is told
abbrev pub ReportsNothing : {E : Type 0} → List ℕ → E → Type 0
ReportsNothing octets e = ⊥

-- the library's refusal itself, where a reader makes no other of it
abbrev pub IsSame : Error → Error → Type 0
IsSame e f = f ≡ e

-- what a reader of elements by BER may answer
abbrev pub ElementsGive : List ℕ → Result (List ℕ × Any) (Refusal Error) → Type 0
ElementsGive = BerGives IsTheElement IsSame
