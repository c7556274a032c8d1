-- What a step of the walk keeps: the whole is strict exactly where what is left is.
use Rattle.std.proofs.Common.{◌≡◌, ◌≢◌, ℕ, ◌+◌, true, false, List, [], ◌∷◌, ◌++◌, length, reverse, refl, sym, ap}
use Rattle.std.proofs.Common.{◌∙◌, ◌↔◌, arith, subst, length-append}
use Rattle.std.specs.Borrow.{Bor}
use Rattle.std.proofs.lemmas.List.{append-nil, reverse-append}
use Rattle.x690.specs.Rules.{der_rule}
use Rattle.x690.specs.Elements.{Parts, IsDerElement}
use Rattle.x690.specs.Faults.{Fault, DerElementFault}
use Rattle.x690.specs.Laws.Elements.{definite_element_unique, definite_element_two}
use Rattle.x690.specs.Laws.Faults.{der_element_or_fault}
use Rattle.asn1_strict.specs.Universal.{IsProper}
use Rattle.asn1_strict.specs.Strict.{IsStrictDer, StrictRow, nothing, element, AllStrict, tails_length}

-- what a strict row asks of the element that begins it
abbrev pub Asks : Parts → List ℕ → Type 0
Asks parts rest = IsProper parts × (parts.id.constructed ≡ true → StrictRow parts.content) × StrictRow rest

-- a strict row has what it asks of its first element, however that was read
pub strict_back : (octets word rest : List ℕ) (parts : Parts) → octets ≡ word ++ rest → IsDerElement word parts →
    StrictRow octets → Asks parts rest
strict_back octets word rest parts e d nothing =
    absurd (omega (arith, definite_element_two der_rule word parts d, ap length e, length-append word rest))
strict_back octets word rest parts e d (element _ w r p f g proper below after) =
    let u = definite_element_unique der_rule der_rule w word r rest p parts g d (sym f ∙ e) in
    subst (λ (q : Parts). Asks q rest) u.1 (subst (λ (s : List ℕ). Asks p s) u.2 (proper, below, after))

-- no strict row begins where there is a fault
pub strict_no_fault : (octets : List ℕ) (fault : Fault) → octets ≢ [] → DerElementFault octets fault →
    StrictRow octets → ⊥
strict_no_fault octets fault some why nothing = some refl
strict_no_fault octets fault some why (element _ w r p f g proper below after) =
    der_element_or_fault octets w r p fault why g f

-- what is left is strict only where the innermost row is
pub all_row : (tails : List (Bor (List ℕ))) (view : List ℕ) → AllStrict tails view → StrictRow view
all_row [] view all = all
all_row (tail ∷ tails) view all = all.0

-- the innermost row is replaced
pub all_with : (tails : List (Bor (List ℕ))) (view other : List ℕ) → (StrictRow view → StrictRow other) →
    AllStrict tails view → AllStrict tails other
all_with [] view other f all = f all
all_with (tail ∷ tails) view other f all = (f all.0, all.1)

-- a primitive element is passed
pub passed : (tails : List (Bor (List ℕ))) (view word rest : List ℕ) (parts : Parts) → view ≡ word ++ rest →
    IsDerElement word parts → parts.id.constructed ≡ false → IsProper parts →
    AllStrict tails view ↔ AllStrict tails rest
passed tails view word rest parts e d primitive proper = (
  all_with tails view rest (λ row. (strict_back view word rest parts e d row).2),
  all_with tails rest view (λ row. element view word rest parts e d proper (λ c. absurd (let b = sym primitive ∙ c in cc)) row),
)

-- an element is opened
pub opened : (tails : List (Bor (List ℕ))) (tail : Bor (List ℕ)) (view word : List ℕ) (parts : Parts) →
    view ≡ word ++ tail.now → IsDerElement word parts → parts.id.constructed ≡ true → IsProper parts →
    AllStrict tails view ↔ AllStrict (tail ∷ tails) parts.content
opened tails tail view word parts e d constructed proper = (
  λ all. (
    (strict_back view word tail.now parts e d (all_row tails view all)).1 constructed,
    all_with tails view tail.now (λ row. (strict_back view word tail.now parts e d row).2) all,
  ),
  λ all. all_with tails tail.now view (λ row. element view word tail.now parts e d proper (λ c. all.0) row) all.1,
)

-- the last tail is the innermost
pub innermost : (before all : List (Bor (List ℕ))) (tail : Bor (List ℕ)) → all ≡ before ++ tail ∷ [] →
    reverse all ≡ tail ∷ reverse before
innermost before all tail e = ap reverse e ∙ reverse-append before (tail ∷ [])

-- nothing is left
pub all_nothing : (items : List (Bor (List ℕ))) (view : List ℕ) → items ≡ [] → view ≡ [] →
    AllStrict (reverse items) view
all_nothing items view e v =
    subst (λ (ts : List (Bor (List ℕ))). AllStrict (reverse ts) view) (sym e) (subst StrictRow (sym v) nothing)

-- a row ends
pub popped : (items fewer : List (Bor (List ℕ))) (tail : Bor (List ℕ)) (view : List ℕ) → items ≡ fewer ++ tail ∷ [] →
    view ≡ [] → AllStrict (reverse items) view ↔ AllStrict (reverse fewer) tail.now
popped items fewer tail view e v = (
  λ all. (subst (λ (ts : List (Bor (List ℕ))). AllStrict ts view) (innermost fewer items tail e) all).1,
  λ all. subst (λ (ts : List (Bor (List ℕ))). AllStrict ts view) (sym (innermost fewer items tail e))
      (subst StrictRow (sym v) nothing, all),
)

-- a row is opened
pub pushed : (items more : List (Bor (List ℕ))) (tail : Bor (List ℕ)) (view word : List ℕ) (parts : Parts) →
    more ≡ items ++ tail ∷ [] → view ≡ word ++ tail.now → IsDerElement word parts → parts.id.constructed ≡ true →
    IsProper parts → AllStrict (reverse items) view ↔ AllStrict (reverse more) parts.content
pushed items more tail view word parts m e d constructed proper =
    subst (λ (ts : List (Bor (List ℕ))). AllStrict (reverse items) view ↔ AllStrict ts parts.content)
    (sym (innermost items more tail m)) (opened (reverse items) tail view word parts e d constructed proper)

-- the octets behind
pub behind_more : (items more : List (Bor (List ℕ))) (tail : Bor (List ℕ)) → more ≡ items ++ tail ∷ [] →
    tails_length (reverse more) ≡ length tail.now + tails_length (reverse items)
behind_more items more tail m = ap tails_length (innermost items more tail m)

-- one equivalence after another
pub and_then : {A B C : Type 0} → (A ↔ B) → (B ↔ C) → A ↔ C
and_then f g = (λ a. g.0 (f.0 a), λ c. f.1 (g.1 c))

-- no octets, told by their number
pub empty_of : (octets : List ℕ) → length octets ≡ 0 → octets ≡ []
empty_of [] e = refl
empty_of (octet ∷ octets) e = absurd (omega arith)

-- behind the element of strict DER nothing stands
pub nothing_behind : (octets word rest : List ℕ) (parts : Parts) → octets ≡ word ++ rest → IsDerElement word parts →
    IsStrictDer octets → rest ≡ []
nothing_behind octets word rest parts e w d =
    (definite_element_unique der_rule der_rule word octets rest [] parts d.0 w d.1 (sym e ∙ sym (append-nil octets))).2

-- one element that is strict
pub one_element : (octets word rest : List ℕ) (parts : Parts) → octets ≡ word ++ rest → IsDerElement word parts →
    rest ≡ [] → StrictRow octets → IsStrictDer octets
one_element octets word rest parts e w n row =
    let s : word ≡ octets = sym (e ∙ ap (λ (r : List ℕ). word ++ r) n ∙ append-nil word) in
    (parts, subst (λ (o : List ℕ). IsDerElement o parts) s w, row)

-- where there is a fault there is no strict DER
pub no_element : (octets : List ℕ) (fault : Fault) → DerElementFault octets fault → IsStrictDer octets → ⊥
no_element octets fault why d = der_element_or_fault octets octets [] d.0 fault why d.1 (sym (append-nil octets))

-- with nothing behind it, the front is the whole
pub whole_of : (octets word rest : List ℕ) → octets ≡ word ++ rest → rest ≡ [] → octets ≡ word
whole_of octets word rest e n = e ∙ ap (λ (r : List ℕ). word ++ r) n ∙ append-nil word
