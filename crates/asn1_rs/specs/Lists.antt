-- Lists: elements whose contents octets are items joined in their order (X.690 8.9, 8.10).
use Rattle.std.specs.Prelude.{◌≡◌, ◌⊎◌, ℕ, true, List, [], ◌∷◌, ◌++◌, length, map, Option, Result, Ok}
use Rattle.std.specs.Prelude.{Err}
use Rattle.std.specs.Borrow.{Bor}
use Rattle.std.specs.declared.vec.Vec.{Vec}
use Rattle.std.specs.List.{All, Any as HasSome, concat}
use Rattle.std.specs.Iterator.{Yields, AlwaysYields}
use Rattle.x690.specs.Identifiers.{Identifier}
use Rattle.x690.specs.Elements.{Parts, IsDerElement}
use Rattle.x690.specs.Joined.{IsConcatenation}
use Rattle.x690.specs.Collections.{AsWords}
use Rattle.asn1_headers.specs.declared.error.Err.{Err as Refusal}
use Rattle.asn1_headers.specs.declared.error.Error.{Error}
use Rattle.asn1_headers.specs.declared.error.Error.TheVariants as errors
use Rattle.asn1_rs.specs.declared.asn1_types.any.Any.{Any}
use Rattle.asn1_rs.specs.declared.asn1_types.lists.PackedEncodings.{PackedEncodings}
use Rattle.asn1_rs.specs.Any.{IsTheElement}
use Rattle.asn1_rs.specs.Checks.{CheckGives, ◌before◌, has_number, is_constructed}
use Rattle.asn1_headers.specs.Error.{FlattenedTo}
use Rattle.asn1_rs.specs.Grammar.Form.{IsStrict, UniversalForm}
use Rattle.asn1_rs.specs.Traits.{DerGives}
use Rattle.asn1_rs.specs.Grammar.{DerWord, NoCheck}
use Rattle.asn1_rs.specs.Grammar.Item.{ItemGrammar, ber_words}
use Rattle.asn1_headers.specs.Walk.{TakesItem}

-- the octets are no joining of words of the grammar
abbrev pub HasNoConcatenation : {V : Type 0} → (List ℕ → V → Type 0) → List ℕ → Type 0
HasNoConcatenation {V} G octets = (values : List V) → IsConcatenation G octets values → ⊥

-- An element of this shape, whose contents octets are words joined.
pub record ShapedList {V : Type 0} (Shape : Parts → Type 0) (G : List ℕ → V → Type 0) (p : Parts)
    (vs : List V) : Type 0 where
  pub shape : Shape p
  pub items : IsConcatenation G p.content vs

-- the element has the tag number
abbrev pub HasNumber : ℕ → Parts → Type 0
HasNumber number p = p.id.number ≡ number

-- and is constructed
abbrev pub IsConstructed : ℕ → Parts → Type 0
IsConstructed number p = (p.id.number ≡ number) × (p.id.constructed ≡ true)

-- A constructed element with the tag number, whose contents octets are words joined.
abbrev pub ListBody : {V : Type 0} → ℕ → (List ℕ → V → Type 0) → Parts → List V → Type 0
ListBody number = ShapedList (IsConstructed number)

-- The same, where the constructed bit is not looked at.
abbrev pub ListOf : {V : Type 0} → ℕ → (List ℕ → V → Type 0) → Parts → List V → Type 0
ListOf number = ShapedList (HasNumber number)

-- an element of definite length whose parts meet the constraints
abbrev pub CheckedElement : (Parts → Type 0) → List ℕ → Parts → Type 0
CheckedElement Check octets p = IsDerElement octets p × Check p

-- A constructed element with the tag number, whose contents octets are elements of definite length that meet the
-- constraints of an item.
pub record ListCheck (number : ℕ) (Check : Parts → Type 0) (p : Parts) : Type 0 where
  pub number_is : p.id.number ≡ number
  pub constructed : p.id.constructed ≡ true
  pub elements : List Parts
  pub checked : IsConcatenation (CheckedElement Check) p.content elements

-- the strict encodings of a grammar's values, as words
abbrev pub StrictWord : {V : Type 0} → (V → Identifier → List ℕ → Type 0) → List ℕ → V → Type 0
StrictWord Form = AsWords (IsStrict Form)

-- the strict parts of a list: universal, constructed, and the strict encodings of the items joined in their order
abbrev pub ListForm : {V : Type 0} → ℕ → (V → Identifier → List ℕ → Type 0) → List V → Identifier → List ℕ → Type 0
ListForm number Form = UniversalForm true number (λ vs c. IsConcatenation (StrictWord Form) c vs)

-- a constructed element with the tag number, or the refusal of the first of these that fails
abbrev pub IsListOr : ℕ → CheckGives
IsListOr number = has_number number before is_constructed

-- a walk gave items, and then this refusal
abbrev pub EndsItems : {T E : Type 0} → (List ℕ → Result (List ℕ × T) (Refusal E) → Type 0) → (Error → E → Type 0) →
    List ℕ → E → Type 0
EndsItems {T} {E} reads from content e =
    (items : List T) × (left : List ℕ) × Yields (TakesItem reads from) content (map Ok items ++ Err e ∷ []) left

-- What collecting the items of a walk may answer: all of them, or the refusal that ended the walk, or out of memory.
abbrev pub ItemsGive : {T E : Type 0} → (List ℕ → Result (List ℕ × T) (Refusal E) → Type 0) → (Error → E → Type 0) →
    List ℕ → Result (List T) E → Type 0
ItemsGive reads from content (Ok items) = Yields (TakesItem reads from) content (map Ok items) []
ItemsGive reads from content (Err e) = from errors.OutOfMemory e ⊎ EndsItems reads from content e

-- the items of a vector that was answered
abbrev pub listed : {T E A : Type 0} → Result (Vec T A) E → Result (List T) E
listed (Ok v) = Ok v.items
listed (Err e) = Err e

-- What making a list of the items of a walk may answer. It is what holds the items, or the refusal that ended the walk,
-- or out of memory.
abbrev pub ListGives : {T W E : Type 0} → (List T → W → Type 0) → (List ℕ → Result (List ℕ × T) (Refusal E) → Type 0) →
    (Error → E → Type 0) → List ℕ → Result W E → Type 0
ListGives {T} holds reads from content (Ok w) =
    (items : List T) × holds items w × ItemsGive reads from content (Ok items)
ListGives holds reads from content (Err e) = ItemsGive reads from content (Err e)

-- What making a list of an element may answer: the list of its items; or the refusal of the check, or of the items.
-- The check is `IsListOr`, or `has_number` where the constructed bit is not looked at.
abbrev pub ListConverts : {T W E : Type 0} → CheckGives → (List T → W → Type 0) →
    (List ℕ → Result (List ℕ × T) (Refusal E) → Type 0) → (Error → E → Type 0) → Parts → Result W E → Type 0
ListConverts check holds reads from p (Ok w) = check p (Ok tt) × ListGives holds reads from p.content (Ok w)
ListConverts check holds reads from p (Err e) = ((refusal : Error) × check p (Err refusal) × from refusal e) ⊎
    (check p (Ok tt) × ListGives holds reads from p.content (Err e))

-- a list that was made of items whose values stand in the element's contents octets
abbrev pub IsListMadeOf : {T V W : Type 0} → (Parts → List V → Type 0) → (T → V) → (List T → W → Type 0) → Parts → W →
    Type 0
IsListMadeOf {T} Body value holds p w = (items : List T) × holds items w × Body p (map value items)

-- a vector has these items
abbrev pub has_items : {T A : Type 0} → List T → Vec T A → Type 0
has_items items v = v.items ≡ items

-- what reading an element by DER and checking its constraints may answer
abbrev pub CheckedGives : (Parts → Result (Unit {0}) Error → Type 0) → List ℕ →
    Result (List ℕ × Any) (Refusal Error) → Type 0
CheckedGives check = DerGives check IsTheElement (λ x y. y ≡ x)

-- what checking the constraints of all items may answer: each passes;
-- or the refusal of the first that is none, or does not
abbrev pub ItemsCheckGives : (Parts → Result (Unit {0}) Error → Type 0) → List ℕ → Result (Unit {0}) Error → Type 0
ItemsCheckGives check content (Ok x) =
    (items : List Any) × Yields (TakesItem (CheckedGives check) (λ x y. y ≡ x)) content (map Ok items) []
ItemsCheckGives check content (Err e) = EndsItems (CheckedGives check) (λ x y. y ≡ x) content e

-- what the check of a list may answer
abbrev pub ListCheckGives : ℕ → CheckGives → CheckGives
ListCheckGives number check = IsListOr number before (λ p. ItemsCheckGives check p.content)

-- what reading the first element and checking it may answer: what follows it, or its refusal
abbrev pub FirstChecked : (Parts → Result (Unit {0}) Error → Type 0) → List ℕ → Result (Bor (List ℕ)) Error → Type 0
FirstChecked check octets (Ok rest) = (item : Any) × CheckedGives check octets (Ok (rest.now, item))
FirstChecked check octets (Err e) =
    (r : Refusal Error) × CheckedGives check octets (Err r) × FlattenedTo (λ x y. y ≡ x) (λ x y. y ≡ x) r e

-- strings, one after another, and the number of octets of each
abbrev pub JoinedWithLengths : List (List ℕ) → List ℕ → List ℕ → Type 0
JoinedWithLengths strings octets lengths = (octets ≡ concat strings) × (lengths ≡ map length strings)

abbrev pub ArePacked : List (List ℕ) → PackedEncodings → Type 0
ArePacked strings e = JoinedWithLengths strings e.octets.items e.lengths.items

-- one more item at the end; or the items as they were, and out of memory
abbrev pub PushesItem : {T : Type 0} → List T → T → List T → Result (Unit {0}) Error → Type 0
PushesItem old item new (Ok x) = new ≡ old ++ item ∷ []
PushesItem old item new (Err e) = (new ≡ old) × (e ≡ errors.OutOfMemory)

-- An iterator gives these items, in this order, and nothing more. What it gives is seen as an item by `sees`.
pub record GivesItems {S R T : Type 0} (steps : S → Option R → S → Type 0) (sees : R → T → Type 0) (s : S)
    (xs : List T) : Type 0 where
  pub item : R → T
  pub only : (r : R) (x : T) → sees r x → x ≡ item r
  pub gives : AlwaysYields steps item s xs

-- one of the items has this refusal
abbrev pub SomeRefuses : {T E : Type 0} → (T → E → Type 0) → List T → E → Type 0
SomeRefuses refuses items e = HasSome (λ x. refuses x e) items

-- lists of items of a type, in what holds them
abbrev pub list_grammar : {S W : Type 0} → ℕ → (W → List S) → ItemGrammar S → ItemGrammar W
list_grammar number items G = record {
  Value = List G.Value;
  value = λ w. map G.value (items w);
  IsValue = All G.IsValue;
  IsDer = All G.IsDer;
  Der = DerWord NoCheck (ListOf number G.Der);
  Body = ListBody number (ber_words G);
  Check = ListCheck number G.Check;
  Form = ListForm number G.Form;
  allocates = true;
}
