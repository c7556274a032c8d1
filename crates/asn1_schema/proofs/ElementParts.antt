-- Parts of elements by each of the rules.
use Rattle.std.proofs.Common.{◌≡◌, subst, refl, ℕ, zero, suc, inl, inr, Bool, true, false, List, length}
use Rattle.std.specs.Prelude.{◌⊎◌}
use Rattle.x690.specs.Identifiers.{Identifier}
use Rattle.x690.specs.Lengths.{definite, indefinite}
use Rattle.x690.specs.Elements.{Parts}
use Rattle.x690.specs.Nested.{IsElement, IsNestedElement}
use Rattle.x690.specs.Joined.{NoPrefix}
use Rattle.asn1_headers.specs.Answers.{HasPrefix}
use Rattle.asn1_headers.specs.Header.{identifier_of}
use Rattle.asn1_headers.specs.Elements.{element_parts}
use Rattle.asn1_headers.specs.declared.header.Header.{Header}
use Rattle.asn1_headers.specs.declared.length.Length.{Length}
use Rattle.asn1_headers.specs.declared.length.Length.TheVariants as lengths
use Rattle.asn1_headers.specs.Length.{form_of as length_form}
use Rattle.asn1_schema.specs.Reading.{form_of_length}

nested_form : (max : ℕ) (o : List ℕ) (p : Parts) (n : ℕ) → IsNestedElement max o p n →
    (p.form ≡ definite (length p.content)) ⊎ (p.form ≡ indefinite)
unfolding IsNestedElement
nested_form zero o p n a = absurd a
nested_form (suc max) o p n (inl a) = inl a.0.counted
nested_form (suc max) o p n (inr a) = inr a.1.form

same_form : (l : Length) (b : Bool) (n : ℕ) → (length_form l ≡ definite n) ⊎ (length_form l ≡ indefinite) →
    (b ≡ true → l ≡ lengths.Indefinite) → (b ≡ false → (m : ℕ) × (l ≡ lengths.Definite m)) →
    length_form l ≡ form_of_length b n
same_form (lengths.Definite m) true n e y f = absurd (let g = y refl in cc)
same_form (lengths.Definite m) false n (inl e) y f = e
same_form (lengths.Definite m) false n (inr e) y f = absurd (cc)
same_form lengths.Indefinite true n e y f = refl
same_form lengths.Indefinite false n e y f = absurd (let g = (f refl).1 in cc)

-- an element by BER has the parts that were read
pub ber_front : (max : ℕ) (octets rest content : List ℕ) (h : Header) (id : Identifier) (b : Bool) →
    HasPrefix (IsElement max) octets (element_parts h content) rest → id ≡ identifier_of h →
    (b ≡ true → h.length ≡ lengths.Indefinite) → (b ≡ false → (n : ℕ) × (h.length ≡ lengths.Definite n)) →
    HasPrefix (IsElement max) octets (record { id = id; form = form_of_length b (length content); content = content })
    rest
ber_front max octets rest content h id b f i y n =
    let e = same_form h.length b (length content) (nested_form max f.word (element_parts h content) f.fits.0 f.fits.1) y n in
    let same : element_parts h content ≡ (record { id = id; form = form_of_length b (length content); content = content }) = cc in
    subst (λ (z : Parts). HasPrefix (IsElement max) octets z rest) same f

pub no_depth : (octets : List ℕ) → NoPrefix (IsElement 0) octets
unfolding IsNestedElement
no_depth octets word rest p e a = a.1
