-- What a step of the walk does to the offset where what is left breaks.
use Rattle.std.proofs.Common.{◌≡◌, ℕ, ◌+◌, ◌-◌, true, List, [], ◌∷◌, ◌++◌, length, reverse, sym}
use Rattle.std.proofs.Common.{arith, subst, inl, inr, ap, length-append}
use Rattle.std.specs.Borrow.{Bor}
use Rattle.x690.specs.Elements.{Parts, IsDerElement}
use Rattle.asn1_strict.specs.declared.requirement.Departure.{Departure}
use Rattle.asn1_strict.specs.Universal.{IsProper}
use Rattle.asn1_strict.specs.Strict.{StrictRow, nothing}
use Rattle.asn1_strict.specs.Departures.{Departs, within, behind_it, LeftDeparts}
use Rattle.asn1_strict.proofs.Rows.{innermost}

-- where the innermost row breaks, what is left does
pub left_breaks : (tails : List (Bor (List ℕ))) (offset : ℕ) (view : List ℕ) (departure : Departure) → Departs offset view departure →
    LeftDeparts tails offset view departure
left_breaks [] offset view departure b = b
left_breaks (tail ∷ tails) offset view departure b = inl b

-- an element in front changes nothing, if its contents are strict
pub element_in_front : (tails : List (Bor (List ℕ))) (offset next : ℕ) (view word rest : List ℕ) (parts : Parts)
    (departure : Departure) → view ≡ word ++ rest → IsDerElement word parts → IsProper parts →
    (parts.id.constructed ≡ true → StrictRow parts.content) → next ≡ offset + length word →
    LeftDeparts tails next rest departure → (StrictRow rest → StrictRow view) → LeftDeparts tails offset view departure
element_in_front [] offset next view word rest parts departure e d proper below n b strict =
    behind_it offset view word rest parts departure e d proper below (subst (λ (m : ℕ). Departs m rest departure) n b)
element_in_front (tail ∷ tails) offset next view word rest parts departure e d proper below n (inl b) strict =
    inl (behind_it offset view word rest parts departure e d proper below (subst (λ (m : ℕ). Departs m rest departure) n b))
element_in_front (tail ∷ tails) offset next view word rest parts departure e d proper below n (inr b) strict =
    let m : next + length rest ≡ offset + length view =
    omega (arith, n, ap length e, length-append word rest) in
    inr (strict b.0, subst (λ (k : ℕ). LeftDeparts tails k tail.now departure) m b.1)

-- an element is opened
pub opened_breaks : (tails more : List (Bor (List ℕ))) (tail : Bor (List ℕ)) (offset next : ℕ) (view word : List ℕ)
    (parts : Parts) (departure : Departure) → more ≡ tails ++ tail ∷ [] → view ≡ word ++ tail.now → IsDerElement word parts →
    IsProper parts → parts.id.constructed ≡ true → next ≡ offset + (length word - length parts.content) →
    length parts.content ≡ length parts.content → next + length parts.content ≡ offset + length word →
    (StrictRow parts.content → StrictRow tail.now → StrictRow view) →
    LeftDeparts (reverse more) next parts.content departure → LeftDeparts (reverse tails) offset view departure
opened_breaks tails more tail offset next view word parts departure m e d proper constructed n l s strict b =
    elim (subst (λ (ts : List (Bor (List ℕ))). LeftDeparts ts next parts.content departure) (innermost tails more tail m) b) [
      | inl h ↦ left_breaks (reverse tails) offset view departure (within offset view word tail.now parts departure e d proper
          constructed (subst (λ (k : ℕ). Departs k parts.content departure) n h))
      | inr h ↦ element_in_front (reverse tails) offset (next + length parts.content) view word tail.now parts departure e d
          proper (λ c. h.0) s h.1 (strict h.0)
    ]

-- a row ends
pub popped_breaks : (items fewer : List (Bor (List ℕ))) (tail : Bor (List ℕ)) (offset : ℕ) (view : List ℕ) (departure : Departure) →
    items ≡ fewer ++ tail ∷ [] → view ≡ [] → LeftDeparts (reverse fewer) offset tail.now departure →
    LeftDeparts (reverse items) offset view departure
popped_breaks items fewer tail offset view departure e v b =
    let n : offset ≡ offset + length view = omega (arith, ap length v) in
    subst (λ (ts : List (Bor (List ℕ))). LeftDeparts ts offset view departure) (sym (innermost fewer items tail e))
    (inr (subst StrictRow (sym v) nothing, subst (λ (k : ℕ). LeftDeparts (reverse fewer) k tail.now departure) n b))
