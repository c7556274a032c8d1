-- Laws of elements of definite length.
use Rattle.std.proofs.Common.{◌≡◌, ℕ, ◌+◌, ◌≤◌, List, ◌++◌, length, sym, ap, ◌∙◌, arith, subst, length-append}
use Rattle.std.proofs.lemmas.List.{append_cancel_left}
use Rattle.x690.specs.Octets.{IsOctets}
use Rattle.x690.specs.Identifiers.{Identifier}
use Rattle.x690.specs.Lengths.{LengthForm}
use Rattle.x690.specs.Rules.{Rule}
use Rattle.x690.specs.Elements.{Parts, IsDefiniteElement, ArePossible}
use Rattle.x690.specs.Laws.Octets.{octets_append}
use Rattle.x690.specs.Laws.Identifiers.{identifier_bounds}
use Rattle.x690.specs.Laws.Lengths.{same_front}
use Rattle.x690.specs.Laws.Headers.{header_peel, header_two, header_is_octets, definite_same}

-- Elements with the same identifier, form and contents octets have the same parts.
pub same_parts : (i j : Identifier) (f g : LengthForm) (c e : List ℕ) → i ≡ j → f ≡ g → c ≡ e →
    ◌≡◌ {A = Parts} (record { id = i; form = f; content = c }) (record { id = j; form = g; content = e })
same_parts i j f g c e p q r = cc

-- Elements of definite length that begin one input are the same with the same parts, and the same follows.
pub definite_element_unique : (rule other : Rule) (o q x y : List ℕ) (p r : Parts) → IsDefiniteElement rule o p →
    IsDefiniteElement other q r → o ++ x ≡ q ++ y → (o ≡ q) × (p ≡ r) × (x ≡ y)
definite_element_unique rule other o q x y p r a b e =
    let u = header_peel rule other a.header b.header p.content r.content x y p.id r.id p.form r.form a.header_is
    b.header_is (ap (λ (ys : List ℕ). ys ++ x) (sym a.is) ∙ e ∙ ap (λ (ys : List ℕ). ys ++ y) b.is) in
    let l = definite_same (length p.content) (length r.content) (sym a.counted ∙ u.2 ∙ b.counted) in
    let c = same_front p.content r.content x y l u.3 in
    let s : o ≡ q =
    a.is ∙ ap (λ (ys : List ℕ). ys ++ p.content) u.0 ∙ ap (λ (ys : List ℕ). b.header ++ ys) c ∙ sym b.is in (
      s,
      same_parts p.id r.id p.form r.form p.content r.content u.1 u.2 c,
      append_cancel_left q x y (ap (λ (ys : List ℕ). ys ++ x) (sym s) ∙ e),
    )

-- the contents octets and a header of two octets at least
pub definite_element_two : (rule : Rule) (o : List ℕ) (p : Parts) → IsDefiniteElement rule o p →
    length p.content + 2 ≤ length o
definite_element_two rule o p a =
    omega (arith, header_two rule a.header p.id p.form a.header_is, ap length a.is, length-append a.header p.content)

-- An element of definite length is octets.
pub definite_element_is_octets : (rule : Rule) (o : List ℕ) (p : Parts) → IsDefiniteElement rule o p → IsOctets o
definite_element_is_octets rule o p a =
    subst IsOctets (sym a.is)
    (octets_append a.header p.content (header_is_octets rule a.header p.id p.form a.header_is) a.content_octets)

-- the parts are those that an element can have
pub definite_possible : (rule : Rule) (o : List ℕ) (p : Parts) → IsDefiniteElement rule o p → ArePossible p
definite_possible rule o p a =
    let b = identifier_bounds a.header_is.identifier p.id a.header_is.identifier_is in
    record { class = b.0; number = b.1; content = a.content_octets }
