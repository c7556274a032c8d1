-- Sequences and sets that are kept as their contents octets, and what their calls answer.
use Rattle.std.specs.Prelude.{◌≡◌, ◌⊎◌, ℕ, false, List, [], ◌∷◌, length, Result, Ok, Err, Option, ◌++◌}
use Rattle.std.specs.Borrow.{Bor}
use Rattle.std.specs.Cow.{cow_slice_items}
use Rattle.std.specs.Fn.{Once, FnOnceTakesAt}
use Rattle.std.specs.Iterator.{Yields, Drains}
use Rattle.std.specs.List.{All, AllZip, flat_map}
use Rattle.std.specs.declared.alloc.Global.{Global}
use Rattle.std.specs.declared.borrow.CowSlice.{CowSlice}
use Rattle.std.specs.declared.borrow.CowSlice.TheVariants as held
use Rattle.x690.specs.Elements.{Parts}
use Rattle.x690.specs.Faults.{Fault}
use Rattle.asn1_rs.specs.declared.asn1_types.kept.Kept.{Kept}
use Rattle.asn1_rs.specs.declared.asn1_types.kept.kinds.SequenceMark.{SequenceMark}
use Rattle.asn1_rs.specs.declared.asn1_types.kept.kinds.SetMark.{SetMark}
use Rattle.asn1_headers.specs.declared.error.Error.{Error}
use Rattle.asn1_headers.specs.declared.error.SerializeError.{SerializeError}
use Rattle.asn1_headers.specs.declared.error.Err.{Err as Refusal}
use Rattle.asn1_headers.specs.declared.error.Err.TheVariants.{Error as refused}
use Rattle.asn1_headers.specs.Answers.{HasPrefix}
use Rattle.asn1_rs.specs.Checks.{nothing, is_constructed}
use Rattle.asn1_headers.specs.Error.{Converted, tells_of_io, vector_refusal}
use Rattle.asn1_rs.specs.Any.{TakesContent}
use Rattle.asn1_rs.specs.Leaf.{Leaf}
use Rattle.asn1_rs.specs.Lists.{IsListOr, ItemsGive}
use Rattle.asn1_rs.specs.OctetString.{contents_leaf}
use Rattle.asn1_rs.specs.ToDer.{IntoVector, IsWritable, RefusesAtOnce, VectorRefuses, Writing, whole_allocates}
use Rattle.asn1_rs.specs.ToDer.{whole_octets, whole_refuses}

-- the contents octets, borrowed or owned
abbrev pub kept_octets : {K : Type 0} → Kept K → List ℕ
kept_octets x = cow_slice_items x.content

-- An element with the tag number whose value is its contents octets, as they stand. It is constructed (8.9.1, 8.11.1),
-- and DER asks no more of it.
abbrev pub kept_leaf : {K : Type 0} → ℕ → Leaf (Kept K)
kept_leaf number = contents_leaf number kept_octets is_constructed nothing

-- Sequences that are kept as their contents octets.
abbrev pub sequence_leaf : Leaf (Kept SequenceMark)
sequence_leaf = kept_leaf 16

-- Sets that are kept as their contents octets.
abbrev pub set_leaf : Leaf (Kept SetMark)
set_leaf = kept_leaf 17

-- a closure that is called once may be called at the octets, where they are borrowed
abbrev pub TakesLent : {F R : Type 0} → Once F (Bor (List ℕ) × Unit {0}) R → F → CowSlice ℕ Global → Type 0
TakesLent g f content = (octets : Bor (List ℕ)) → content ≡ held.Borrowed octets → g.pre f (octets, tt)

-- borrowed octets are handed on; owned ones, from which nothing could be lent that outlives them, are refused
abbrev pub OnLent : {R : Type 0} → (List ℕ → R → Type 0) → (R → Type 0) → CowSlice ℕ Global → R → Type 0
OnLent lent owned (held.Borrowed r) result = lent r.now result
OnLent lent owned (held.Owned v) result = owned result

-- the answer is that refusal, by its conversion
abbrev pub IsRefused : {T E : Type 0} → (Error → E → Type 0) → Error → Result T (Refusal E) → Type 0
IsRefused {T} {E} from error result = (e : E) × from error e × (result ≡ Err (refused e))

-- the result is that refusal of the library, as the conversion makes it
abbrev pub IsErrorOf : {T E : Type 0} → (Error → E → Type 0) → Error → Result T E → Type 0
IsErrorOf {T} {E} from error result = (e : E) × from error e × (result ≡ Err e)

-- What looking at the tag number of an element and then at its constructed bit, and handing its contents octets to a
-- reader, may answer. The rest is the element's.
abbrev pub HandsListOn : {T E : Type 0} → ℕ → (Error → E → Type 0) →
    (List ℕ → Result (Bor (List ℕ) × T) (Refusal E) → Type 0) → Parts → List ℕ →
    Result (List ℕ × T) (Refusal E) → Type 0
HandsListOn number from reads p rest (Ok x) =
    IsListOr number p (Ok tt) × (x.0 ≡ rest) × ((left : Bor (List ℕ)) × reads p.content (Ok (left, x.1)))
HandsListOn {T} {E} number from reads p rest (Err r) =
    ((refusal : Error) × IsListOr number p (Err refusal) × ((e : E) × from refusal e × (r ≡ refused e))) ⊎
    (IsListOr number p (Ok tt) × reads p.content (Err r))

-- it may be called at the contents octets of the element that begins the input,
-- where that is a list with this tag number
abbrev pub TakesList : {F R : Type 0} → (List ℕ → Parts → Type 0) → ℕ → Once F (Bor (List ℕ) × Unit {0}) R → F →
    List ℕ → Type 0
TakesList ElementOf number g f = TakesContent ElementOf (λ p. IsListOr number p (Ok tt)) (FnOnceTakesAt g f)

-- what reading an element and then that may answer: a refusal is that of the element's first fault,
-- or that of what follows
abbrev pub ListThenGives : {T E : Type 0} → (List ℕ → Parts → Type 0) → (List ℕ → Fault → Type 0) →
    (Fault → Refusal Error) → ℕ → (Error → E → Type 0) → (List ℕ → Result (Bor (List ℕ) × T) (Refusal E) → Type 0) →
    List ℕ → Result (List ℕ × T) (Refusal E) → Type 0
ListThenGives ElementOf FaultOf refusal number from reads input (Ok x) =
    (p : Parts) × (rest : List ℕ) × HasPrefix ElementOf input p rest × HandsListOn number from reads p rest (Ok x)
ListThenGives ElementOf FaultOf refusal number from reads input (Err r) =
    ((fault : Fault) × FaultOf input fault × Converted from (refusal fault) r) ⊎
    ((p : Parts) × (rest : List ℕ) × HasPrefix ElementOf input p rest × HandsListOn number from reads p rest (Err r))

-- copies of the items in contents octets: of all of them, in order; or the refusal of an item, or out of memory
abbrev pub CopiesGive : {T W E : Type 0} → (T → W → Type 0) → (List ℕ → Result (List ℕ × T) (Refusal E) → Type 0) →
    (Error → E → Type 0) → List ℕ → Result (List W) E → Type 0
CopiesGive {T} copies reads from content (Ok ys) =
    (xs : List T) × ItemsGive reads from content (Ok xs) × AllZip copies xs ys
CopiesGive copies reads from content (Err e) = ItemsGive reads from content (Err e)

-- Why joining ends at this item. Those before it have no refusal of their own.
-- An item that is refused for its header asks for no memory but its own.
pub record EndsJoining {T : Type 0} (w : Writing T) (items : List T) (item : T) (e : SerializeError) : Type 0 where
  pub before : All w.tells items → All (IsWritable w) items
  pub refused : All w.tells (items ++ item ∷ []) →
      VectorRefuses (length (flat_map (whole_octets w) (items ++ item ∷ []))) (whole_refuses w item) e
  pub at_once : (f : SerializeError) → w.tells item → w.header_refuses item f →
      IntoVector (RefusesAtOnce (whole_allocates w) (length (whole_octets w item)) (whole_refuses w item)) e
  pub first : (f : SerializeError) → w.refuses_first item f → e ≡ vector_refusal f
  pub no_io : tells_of_io e ≡ false

-- What joining the items that an iterator gives may answer. It is their octets in their order, where none is refused.
-- Else it is the refusal of the last item that it gave, or out of memory, or a length past memory.
abbrev pub JoinsGiven : {I T : Type 0} → (I → Option T → I → Type 0) → Writing T → I →
    Result (List ℕ) SerializeError → Type 0
JoinsGiven {I} {T} steps w it (Ok content) = (items : List T) × Drains steps it items ×
    (All w.tells items → (content ≡ flat_map (whole_octets w) items) × All (IsWritable w) items)
JoinsGiven {I} {T} steps w it (Err e) =
    (items : List T) × (item : T) × (rest : I) × Yields steps it (items ++ item ∷ []) rest × EndsJoining w items item e

-- the contents octets of what was made
abbrev pub content_octets : {K E : Type 0} → Result (Kept K) E → Result (List ℕ) E
content_octets (Ok x) = Ok (kept_octets x)
content_octets (Err e) = Err e
