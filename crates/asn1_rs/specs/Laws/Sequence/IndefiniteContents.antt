-- Walks over the contents octets of elements of indefinite length.
use Rattle.std.proofs.Common.{◌≡◌, ◌∙◌, sym, subst, refl, ℕ, ◌≤◌, false, List, [], ◌∷◌}
use Rattle.std.specs.Prelude.{Result, Ok, Err}
use Rattle.std.specs.Iterator.{Yields}
use Rattle.x690.specs.Octets.{IsOctets}
use Rattle.x690.specs.Lengths.{indefinite}
use Rattle.x690.specs.Elements.{Parts}
use Rattle.x690.specs.Nested.{IsElement, IsRow, IsWord, ElementFault}
use Rattle.x690.specs.Laws.Nested.{nested_element_deeper, nested_content_is_octets}
use Rattle.x690.specs.Laws.Nested.IndefiniteContents.{indefinite_is_row}
use Rattle.x690.specs.Joined.{AreWords}
use Rattle.asn1_headers.specs.declared.error.Err.{Err as Refusal}
use Rattle.asn1_headers.specs.declared.error.Error.{Error}
use Rattle.asn1_rs.specs.declared.asn1_types.any.Any.{Any}
use Rattle.asn1_headers.specs.Answers.{Exactly, TellsMemory}
use Rattle.asn1_rs.specs.Any.{parts_of, IsTheElement, BerElementGives}
use Rattle.asn1_headers.specs.Header.Reading.{ber_violation}
use Rattle.asn1_headers.specs.Ber.{max_depth, EndsWithin}
use Rattle.asn1_rs.specs.Traits.{PassesAll}
use Rattle.asn1_rs.specs.Grammar.{ElementWord, NoCheck, TakesBody}
use Rattle.asn1_headers.specs.Walk.{TakesItem}
use Rattle.asn1_rs.specs.Sequence.Iterator.{IsWalk, ReportsNothing, TellsMemoryAlone, IsMemory, EndsWalk, ElementsGive}
use Rattle.asn1_rs.specs.Sequence.Iterator.{IsSame}
use Rattle.asn1_rs.specs.Laws.Any.Value.{the_element_parts}
use Rattle.asn1_rs.specs.Laws.Readers.{ber_elements, element_exact, passes_all}
use Rattle.asn1_rs.specs.Laws.Sequence.Iterator.{octets_kept, whole_walk}

-- Reading one element.

-- the value of an element is its parts
abbrev IsParts : Parts → Parts → Type 0
IsParts p v = v ≡ p

-- The conversion of an element to itself is exact.
element_taken : (any : Any) (answer : Result Any Error) → IsOctets any.content.now → IsTheElement any answer →
    TakesBody IsParts parts_of false IsSame (parts_of any) answer
element_taken any (Ok same) o g = the_element_parts any same g
element_taken any (Err e) o g = absurd g

-- An element by BER is a word whose value is its parts.
element_split : (o : List ℕ) (v : Parts) → IsElement max_depth o v →
    ElementWord (IsElement max_depth) NoCheck IsParts o v
element_split o v a = (v, a, tt, refl)

-- Such a word is an element by BER.
element_join : (o : List ℕ) (v : Parts) → ElementWord (IsElement max_depth) NoCheck IsParts o v →
    IsElement max_depth o v
element_join o v a = subst (λ (p : Parts). IsElement max_depth o p) (sym a.3) a.1

-- The reader of elements is exact.
elements_exact : (octets : List ℕ) (answer : Result (List ℕ × Any) (Refusal Error)) → IsOctets octets →
    ElementsGive octets answer →
    Exactly EndsWithin (IsElement max_depth) parts_of (TellsMemory false IsSame) octets answer
elements_exact octets answer o = element_exact (IsElement max_depth) (ElementFault max_depth) EndsWithin ber_elements
    ber_violation PassesAll IsTheElement IsSame NoCheck IsParts parts_of false
    (IsElement max_depth) passes_all element_taken element_split element_join octets answer

-- The walk.

-- elements of a lesser depth are elements by BER
row_words : (within : ℕ) (words : List (List ℕ)) (headers : ℕ) → within ≤ max_depth →
    IsRow (IsWord within) words headers → AreWords (IsElement max_depth) words
row_words within [] headers l r = tt
row_words within (word ∷ words) headers l r =
    ((r.2.0, (r.0, nested_element_deeper within max_depth word r.2.0 r.0 l r.2.1)), row_words within words r.1 l r.4)

-- without memory that is taken, no refusal is told
no_end : (octets : List ℕ) (ends : List (Result Any Error)) (left : List ℕ) →
    EndsWalk (TellsMemoryAlone (IsMemory false IsSame)) octets ends left → EndsWalk ReportsNothing octets ends left
no_end octets [] left e = e
no_end octets (Err e ∷ []) left w = let untold = w.1.0 in cc
no_end octets (Err e ∷ (a ∷ others)) left w = w
no_end octets (Ok x ∷ others) left w = w

-- A walk over the contents octets of an element of indefinite length gives its elements, and tells no refusal.
pub indefinite_walk : (input : List ℕ) (x : List ℕ × Any) (content : List ℕ) (answers : List (Result Any Error))
    (left : List ℕ) → BerElementGives input (Ok x) → (parts_of x.1).form ≡ indefinite →
    content ≡ (parts_of x.1).content → Yields (TakesItem ElementsGive IsSame) content answers left →
    IsWalk (IsElement max_depth) parts_of ReportsNothing content answers left
indefinite_walk input x content answers left g f e y =
    let front = g.front in
    let n = front.fits.1 in
    let row = indefinite_is_row max_depth front.word (parts_of x.1) front.fits.0 f n in
    let o = subst IsOctets (sym e) (nested_content_is_octets max_depth front.word (parts_of x.1) front.fits.0 n) in
    let w = whole_walk ElementsGive IsSame (IsElement max_depth) parts_of false EndsWithin ber_elements.one IsOctets
    octets_kept elements_exact answers content left o (
      row.1,
      row_words row.0 row.1 row.2 row.3 row.4,
      e ∙ row.5,
    ) y in
    record {
      words = w.words;
      items = w.items;
      others = w.others;
      ends = w.ends;
      answers_are = w.answers_are;
      values = w.values;
      joined = w.joined;
      end = no_end w.others w.ends left w.end;
    }
