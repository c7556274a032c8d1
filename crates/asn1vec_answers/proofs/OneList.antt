-- Items are read once: two walks over the same octets give the same items,
-- but that one of them may end when out of memory. So do lists of them.
use Rattle.std.proofs.Common.{◌≡◌, ◌∙◌, ◌<◌, sym, ap, subst, refl, List, [], ◌∷◌, ◌++◌, length, map, ℕ, Bool, true, inl}
use Rattle.std.proofs.Common.{inr, Result, Ok, Err, arith}
use Rattle.std.specs.Iterator.{Yields}
use Rattle.x690.specs.Elements.{Parts, IsDerElement}
use Rattle.x690.specs.Faults.{Violation, Fault, DerElementFault}
use Rattle.x690.specs.Nested.{IsElement, ElementFault}
use Rattle.x690.specs.Identifiers.{IsTruncatedIdentifier}
use Rattle.asn1_headers.specs.declared.error.Err.{Err as Refusal}
use Rattle.asn1_headers.specs.declared.error.Err.TheVariants.{Error as refused, Incomplete as truncated, Failure as failed}
use Rattle.asn1_headers.specs.declared.error.Error.{Error}
use Rattle.asn1_headers.specs.declared.error.Error.TheVariants.{Incomplete, OutOfMemory}
use Rattle.asn1_rs.specs.declared.asn1_types.any.Any.{Any}
use Rattle.asn1_rs.specs.Any.{BeginsWithAny, parts_of}
use Rattle.asn1_headers.specs.Ber.{max_depth, EndsWithin}
use Rattle.asn1_headers.specs.Error.{FlattenedTo}
use Rattle.asn1_headers.specs.Header.Reading.{refusal_of, der_violation, ber_violation}
use Rattle.asn1_rs.specs.Checks.{CheckGives, IsCheck}
use Rattle.asn1_rs.specs.Lists.{ListGives, ListConverts}
use Rattle.asn1_headers.specs.Walk.{TakesItem, EndsItem}
use Rattle.asn1_rs.specs.Traits.{BerGives, DerGives, ElementGives, OfParts, PassesAll}
use Rattle.asn1_rs.specs.Laws.Readers.{AreLawfulElements, ber_elements, der_elements}
use Rattle.asn1vec_answers.specs.Names.{name_of_error}
use Rattle.asn1vec_answers.specs.Shown.{Reading, Same}
use Rattle.asn1vec_answers.proofs.OneRefusal.{SameError, SameRefusal, named, no_memory, one_reading_refusal, same_parts}
use Rattle.asn1vec_answers.proofs.OneRefusal.{same_tail, element_or_fault}
use Rattle.asn1vec_answers.proofs.OneReading.{SameReading, one_pass, passed}

-- Two answers to the same octets are the same, as far as `view` sees of a value,
-- but that one of them may be out of memory.
abbrev pub IsOneReader : {T D : Type 0} → (T → D) → Bool → (List ℕ → Reading T → Type 0) → Type 0
IsOneReader {T} view allocates reads = (octets : List ℕ) (a b : Reading T) → reads octets a → reads octets b →
    SameReading (λ x y. view x ≡ view y) allocates a b

-- the same of conversions
abbrev pub SameResult : {T D : Type 0} → (T → D) → Bool → Result T Error → Result T Error → Type 0
SameResult view allocates (Ok x) (Ok y) = view x ≡ view y
SameResult view allocates (Ok x) (Err f) = (allocates ≡ true) × (f ≡ OutOfMemory)
SameResult view allocates (Err e) (Ok y) = (allocates ≡ true) × (e ≡ OutOfMemory)
SameResult view allocates (Err e) (Err f) = SameError allocates e f

abbrev pub IsOneConversion : {T D : Type 0} → (T → D) → Bool → (Parts → Result T Error → Type 0) → Type 0
IsOneConversion {T} view allocates convert =
    (p : Parts) (a b : Result T Error) → convert p a → convert p b → SameResult view allocates a b

-- what tells of refused memory, flattened
pub flattened_memory : (r : Refusal Error) (e : Error) → r ≡ no_memory → FlattenedTo (λ x y. y ≡ x) Same r e →
    e ≡ OutOfMemory
flattened_memory r e is flat =
    let same : FlattenedTo (λ x y. y ≡ x) Same no_memory e =
    subst (λ (q : Refusal Error). FlattenedTo (λ x y. y ≡ x) Same q e) is flat in
    same

named_flattened : (q r : Refusal Error) (e f : Error) → named q ≡ named r → FlattenedTo (λ x y. y ≡ x) Same q e →
    FlattenedTo (λ x y. y ≡ x) Same r f → name_of_error e ≡ name_of_error f
named_flattened q r e f same h k = flat q e h ∙ ap name same ∙ sym (flat r f k)
  where
    name : Refusal (List ℕ) → List ℕ
    name (truncated n) = name_of_error (Incomplete n)
    name (refused word) = word
    name (failed word) = word

    flat : (r : Refusal Error) (e : Error) → FlattenedTo (λ x y. y ≡ x) Same r e → name_of_error e ≡ name (named r)
    flat (truncated n) e h = ap name_of_error h
    flat (refused x) e h = ap name_of_error h
    flat (failed x) e h = ap name_of_error h

pub flattened_same : (allocates : Bool) (q r : Refusal Error) (e f : Error) → SameRefusal allocates q r →
    FlattenedTo (λ x y. y ≡ x) Same q e → FlattenedTo (λ x y. y ≡ x) Same r f → SameError allocates e f
flattened_same allocates q r e f (inl same) h k = inl (named_flattened q r e f same h k)
flattened_same allocates q r e f (inr (takes, inl memory)) h k = inr (takes, inl (flattened_memory q e memory h))
flattened_same allocates q r e f (inr (takes, inr memory)) h k = inr (takes, inr (flattened_memory r f memory k))

-- and where memory may be allocated all the more
allowed : (allocates : Bool) (e f : Error) → SameError allocates e f → SameError true e f
allowed allocates e f (inl same) = inl same
allowed allocates e f (inr (takes, which)) = inr (refl, which)

one_pass_none : (p : Parts) (e : Error) → PassesAll p (Err e) → ⊥
one_pass_none p e h = cc

-- the same of conversions that look at more than the parts of an element
abbrev pub IsOneTaking : {T D : Type 0} → (T → D) → Bool → (Any → Result T Error → Type 0) → Type 0
IsOneTaking {T} view allocates convert = (a b : Any) (x y : Result T Error) → parts_of b ≡ parts_of a → convert a x →
    convert b y → SameResult view allocates x y

pub one_by_parts : {T D : Type 0} (view : T → D) (allocates : Bool) (convert : Parts → Result T Error → Type 0) →
    IsOneConversion view allocates convert → IsOneTaking view allocates (OfParts convert)
one_by_parts view allocates convert once a b x y same h k =
    once (parts_of a) x y h (subst (λ (p : Parts). convert p y) same k)

-- An element that is read and converted, where no check refuses.
module _ (ElementOf : List ℕ → Parts → Type 0) (FaultOf : List ℕ → Fault → Type 0) (IsTruncated : List ℕ → Type 0)
    (elements : AreLawfulElements ElementOf FaultOf IsTruncated) (refuses : Violation → Error)
    {T D : Type 0} (view : T → D) (allocates : Bool) (convert : Any → Result T Error → Type 0)
    (once : IsOneTaking view allocates convert) where
  abbrev Gives : List ℕ → Reading T → Type 0
  Gives = ElementGives ElementOf FaultOf (refusal_of refuses) PassesAll convert Same

  element_or_refused : (octets rest : List ℕ) (any : Any) (x : T) (r : Refusal Error) →
      BeginsWithAny ElementOf octets any rest → convert any (Ok x) → Gives octets (Err r) →
      (allocates ≡ true) × (r ≡ no_memory)
  element_or_refused octets rest any x r begins is (inl (fault, why, told)) = absurd
      (element_or_fault ElementOf FaultOf IsTruncated elements refuses octets rest (parts_of any) fault begins.front why)
  element_or_refused octets rest any x r begins is (inr (other, tail, starts, inl (e, why, told))) =
      absurd (one_pass_none (parts_of other) e why)
  element_or_refused octets rest any x r begins is (inr (other, tail, starts, inr (passes, (e, why, told)))) =
      let same = same_parts ElementOf FaultOf IsTruncated elements octets rest tail (parts_of any)
      (parts_of other) begins.front starts.front in
      let memory = once any other (Ok x) (Err e) same is why in
      (memory.0, told ∙ ap (λ (d : Error). refused d) memory.1)

  pub one_element : IsOneReader view allocates Gives
  one_element octets (Ok (rest, x)) (Ok (tail, y)) (any, begins, passes, is) (other, starts, passed, too) =
      let same = same_parts ElementOf FaultOf IsTruncated elements octets rest tail (parts_of any)
      (parts_of other) begins.front starts.front in (
        once any other (Ok x) (Ok y) same is too,
        same_tail ElementOf FaultOf IsTruncated elements octets rest tail (parts_of any)
            (parts_of other) begins.front starts.front,
      )
  one_element octets (Ok (rest, x)) (Err r) (any, begins, passes, is) h =
      element_or_refused octets rest any x r begins is h
  one_element octets (Err q) (Ok (tail, y)) h (any, begins, passes, is) =
      element_or_refused octets tail any y q begins is h
  one_element octets (Err q) (Err r) h k =
      one_reading_refusal allocates PassesAll convert one_pass passed
      (λ a b e f same why also. once a b (Err e) (Err f) same why also)
      ElementOf FaultOf IsTruncated elements refuses octets q r h k

-- Walks.

module _ {T D : Type 0} (view : T → D) (allocates : Bool) (reads : List ℕ → Reading T → Type 0)
    (once : IsOneReader view allocates reads) where
  abbrev Takes : List ℕ → List (Result T Error) → List ℕ → Type 0
  Takes = Yields (TakesItem reads Same)

  -- a refusal where there is an item tells of refused memory
  item_or_end : (octets rest : List ℕ) (x : T) (answer : Reading T) (e : Error) → length rest < length octets →
      reads octets (Ok (rest, x)) → reads octets answer → EndsItem Same octets answer e → e ≡ OutOfMemory
  item_or_end octets rest x (Ok (tail, y)) e less is too (long, same) = absurd
      (let equal = (once octets (Ok (rest, x)) (Ok (tail, y)) is too).1 in omega (arith, less, long, ap length equal))
  item_or_end octets rest x (Err r) e less is too flat =
      flattened_memory r e (once octets (Ok (rest, x)) (Err r) is too).1 flat

  -- two refusals
  ends_same : (octets : List ℕ) (a b : Reading T) (e f : Error) → reads octets a → reads octets b →
      EndsItem Same octets a e → EndsItem Same octets b f → SameError true e f
  ends_same octets (Ok x) (Ok y) e f is too (long, h) (past, k) = inl (ap name_of_error (h ∙ sym k))
  ends_same octets (Ok x) (Err r) e f is too h k =
      inr (refl, inr (flattened_memory r f (once octets (Ok x) (Err r) is too).1 k))
  ends_same octets (Err q) (Ok y) e f is too h k =
      inr (refl, inl (flattened_memory q e (once octets (Err q) (Ok y) is too).1 h))
  ends_same octets (Err q) (Err r) e f is too h k =
      allowed allocates e f (flattened_same allocates q r e f (once octets (Err q) (Err r) is too) h k)

  same_rest : (octets rest tail : List ℕ) (x y : T) → reads octets (Ok (rest, x)) → reads octets (Ok (tail, y)) →
      (view x ≡ view y) × (tail ≡ rest)
  same_rest octets rest tail x y is too =
      let same = once octets (Ok (rest, x)) (Ok (tail, y)) is too in
      (same.0, sym same.1)

  -- two walks to the end
  walks_same : (octets : List ℕ) (xs ys : List T) → Takes octets (map Ok xs) [] → Takes octets (map Ok ys) [] →
      map view xs ≡ map view ys
  walks_same octets [] [] a b = refl
  walks_same octets [] (y ∷ ys) a (j, (some, is, less), rest) = absurd (some a)
  walks_same octets (x ∷ xs) [] (j, (some, is, less), rest) b = absurd (some b)
  walks_same octets (x ∷ xs) (y ∷ ys) (j, (some, is, less), more) (k, (full, too, few), after) =
      let same = same_rest octets j k x y is too in
      ap (λ (d : D). d ∷ map view xs) same.0 ∙ ap (λ (ds : List D). view y ∷ ds)
      (walks_same j xs ys more (subst (λ (l : List ℕ). Takes l (map Ok ys) []) same.1 after))

  -- a walk to the end, and one that a refusal ended
  walk_or_end : (octets left : List ℕ) (xs ys : List T) (e : Error) → Takes octets (map Ok xs) [] →
      Takes octets (map Ok ys ++ Err e ∷ []) left → e ≡ OutOfMemory
  walk_or_end octets left [] [] e a (j, (some, why, none), rest) = absurd (some a)
  walk_or_end octets left [] (y ∷ ys) e a (j, (some, is, less), rest) = absurd (some a)
  walk_or_end octets left (x ∷ xs) [] e (j, (some, is, less), more) (k, (full, (answer, too, ends), none), rest) =
      item_or_end octets j x answer e less is too ends
  walk_or_end octets left (x ∷ xs) (y ∷ ys) e (j, (some, is, less), more) (k, (full, too, few), after) =
      let same = same_rest octets j k x y is too in
      walk_or_end j left xs ys e more (subst (λ (l : List ℕ). Takes l (map Ok ys ++ Err e ∷ []) left) same.1 after)

  -- two walks that refusals ended
  ended_same : (octets left last : List ℕ) (xs ys : List T) (e f : Error) →
      Takes octets (map Ok xs ++ Err e ∷ []) left → Takes octets (map Ok ys ++ Err f ∷ []) last → SameError true e f
  ended_same octets left last [] [] e f (j, (some, (a, is, ends), none), rest)
      (k, (full, (b, too, end), nothing), tail) = ends_same octets a b e f is too ends end
  ended_same octets left last [] (y ∷ ys) e f (j, (some, (a, is, ends), none), rest) (k, (full, too, few), after) =
      inr (refl, inl (item_or_end octets k y a e few too is ends))
  ended_same octets left last (x ∷ xs) [] e f (j, (some, is, less), more) (k, (full, (b, too, end), nothing), tail) =
      inr (refl, inr (item_or_end octets j x b f less is too end))
  ended_same octets left last (x ∷ xs) (y ∷ ys) e f (j, (some, is, less), more) (k, (full, too, few), after) =
      let same = same_rest octets j k x y is too in
      ended_same j left last xs ys e f more
      (subst (λ (l : List ℕ). Takes l (map Ok ys ++ Err f ∷ []) last) same.1 after)

  -- Lists of the items.

  module _ {W L : Type 0} (sight : W → L) (holds : List T → W → Type 0) (held : (xs ys : List T) (v w : W) →
      map view xs ≡ map view ys → holds xs v → holds ys w → sight v ≡ sight w) where
    list_once : (content : List ℕ) (a b : Result W Error) → ListGives holds reads Same content a →
        ListGives holds reads Same content b → SameResult sight true a b
    list_once content (Ok v) (Ok w) (xs, h, walk) (ys, k, other) =
        held xs ys v w (walks_same content xs ys walk other) h k
    list_once content (Ok v) (Err f) (xs, h, walk) (inl memory) = (refl, memory)
    list_once content (Ok v) (Err f) (xs, h, walk) (inr (ys, left, ends)) =
        (refl, walk_or_end content left xs ys f walk ends)
    list_once content (Err e) (Ok w) (inl memory) b = (refl, memory)
    list_once content (Err e) (Ok w) (inr (xs, left, ends)) (ys, k, walk) =
        (refl, walk_or_end content left ys xs e walk ends)
    list_once content (Err e) (Err f) (inl memory) b = inr (refl, inl memory)
    list_once content (Err e) (Err f) a (inl memory) = inr (refl, inr memory)
    list_once content (Err e) (Err f) (inr (xs, left, ends)) (inr (ys, last, end)) =
        ended_same content left last xs ys e f ends end

    -- Conversions of elements to lists.

    module _ (check : CheckGives) (is : IsCheck check) where
      pub takes_once : IsOneConversion sight true (ListConverts check holds reads Same)
      takes_once p (Ok v) (Ok w) h k = list_once p.content (Ok v) (Ok w) h.1 k.1
      takes_once p (Ok v) (Err f) h (inl (r, other, same)) = absurd (is.apart p r h.0 other)
      takes_once p (Ok v) (Err f) h (inr k) = list_once p.content (Ok v) (Err f) h.1 k.1
      takes_once p (Err e) (Ok w) (inl (r, other, same)) k = absurd (is.apart p r k.0 other)
      takes_once p (Err e) (Ok w) (inr h) k = list_once p.content (Err e) (Ok w) h.1 k.1
      takes_once p (Err e) (Err f) (inl (q, other, same)) (inl (r, another, equal)) =
          inl (ap name_of_error (same ∙ is.one p q r other another ∙ sym equal))
      takes_once p (Err e) (Err f) (inl (q, other, same)) (inr k) = absurd (is.apart p q k.0 other)
      takes_once p (Err e) (Err f) (inr h) (inl (r, other, same)) = absurd (is.apart p r h.0 other)
      takes_once p (Err e) (Err f) (inr h) (inr k) = list_once p.content (Err e) (Err f) h.1 k.1

      -- Readers of lists.

      pub taken_by_ber : IsOneReader sight true (BerGives (OfParts (ListConverts check holds reads Same)) Same)
      taken_by_ber = one_element (IsElement max_depth) (ElementFault max_depth) EndsWithin ber_elements ber_violation
          sight true (OfParts (ListConverts check holds reads Same))
          (one_by_parts sight true (ListConverts check holds reads Same) takes_once)

      pub taken_by_der : IsOneReader sight true (DerGives PassesAll (OfParts (ListConverts check holds reads Same))
          Same)
      taken_by_der = one_element IsDerElement DerElementFault IsTruncatedIdentifier der_elements der_violation sight true
          (OfParts (ListConverts check holds reads Same))
          (one_by_parts sight true (ListConverts check holds reads Same) takes_once)
