-- Embedded presentation data values are lawful, as far as they are read, and have one refusal.
pub mod Equal
use Rattle.std.specs.Prelude.{◌≡◌, ◌⊎◌, ℕ, zero, suc, false, List, [], ◌++◌, Option, Result, Ok, Err, codes, IfSome}
use Rattle.std.specs.Prelude.{IsUtf8}
use Rattle.std.proofs.Common.{◌∙◌, ap, sym, subst, refl, inl, inr, arith, append-nil}
use Rattle.std.proofs.lemmas.List.{append_cancel_left}
use Rattle.x690.specs.Octets.{IsOctets}
use Rattle.x690.specs.Elements.{Parts}
use Rattle.x690.specs.Faults.{Fault, missing, tag_fault, length_fault, rule_fault, depth_fault}
use Rattle.x690.specs.Laws.Faults.{speaks_now}
use Rattle.asn1_headers.specs.Ber.{EndsWithin}
use Rattle.asn1_headers.specs.Error.{FlattenedTo}
use Rattle.asn1_headers.specs.Header.Reading.{ber_refusal}
use Rattle.asn1_headers.specs.declared.error.Error.{Error}
use Rattle.asn1_headers.specs.declared.error.Error.TheVariants as errors
use Rattle.asn1_rs.specs.declared.asn1_types.embedded_pdv.EmbeddedPdv.{EmbeddedPdv}
use Rattle.asn1_rs.specs.Any.{parts_of}
use Rattle.asn1_rs.specs.Checks.{IsCheck, but_text, has_number, is_constructed, is_counted}
use Rattle.asn1_rs.specs.EmbeddedPdv.{Identification, syntaxes, syntax, context, negotiation, transfer, fixed, PdvValue}
use Rattle.asn1_rs.specs.EmbeddedPdv.{IsIdentification, IsPdv, BeginsWithParts, NoFirstElement, BeginsWithTwo, NotTwo}
use Rattle.asn1_rs.specs.EmbeddedPdv.{Identifies}
use Rattle.asn1_rs.specs.EmbeddedPdv.{SaysNone, has_context_tag, HasInner, HasNoInner, HoldsElement, HoldsNone}
use Rattle.asn1_rs.specs.EmbeddedPdv.{IsIdentified}
use Rattle.asn1_rs.specs.EmbeddedPdv.{NotIdentified, IsData, NoData, HasPdvParts, LacksPart, PdvBody, PdvGives}
use Rattle.asn1_rs.specs.EmbeddedPdv.{Identification-set, PdvValue-set, pdv_constraints, pdv_element, pdv_value}
use Rattle.asn1_rs.specs.Grammar.{TakesBody}
use Rattle.asn1_rs.specs.Kinds.{IsLawfulElement, IsExactCheck, IsExactConversion}
use Rattle.asn1_rs.specs.Laws.Checks.{before_is, exact_check, has_number_is, is_constructed_is, is_counted_is}
use Rattle.asn1_rs.specs.Laws.Readers.{ber_elements}
use Rattle.asn1_rs.specs.Laws.Tagged.{has_class_is}
use Rattle.asn1_rs.specs.Laws.Times.{same_text}
use Rattle.asn1_rs.specs.Leaf.{HasOneRefusalUpTo}
use Rattle.asn1_rs.specs.Oid.{OidValue, absolute}
use Rattle.asn1_rs.specs.Tagged.{has_class}
use Rattle.asn1_rs.specs.Traits.{OfParts}
use Rattle.x690.specs.Laws.Equality.{octets_set, option_set}
use Rattle.asn1_rs.specs.Laws.Oid.{oid_value_set}

-- One answer, and one refusal.

-- A refusal of what is not there, or, behind what is there, of what is wanted next. There is one where both are, as
-- `key` tells refusals apart, and none where both are there.
module _ {A B K : Type 0} (key : Error → K) (Has : A → B → Type 0) (None : Error → Type 0)
    (Next : A → B → Error → Type 0)
    (alone : (a b : A) (r s : B) → Has a r → Has b s → (a ≡ b) × (r ≡ s))
    (apart : (a : A) (r : B) (e : Error) → Has a r → None e → ⊥) where
  -- what is first is not there; or it is, and what comes next is not
  abbrev Lacks : Error → Type 0
  Lacks e = None e ⊎ ((a : A) × (r : B) × Has a r × Next a r e)

  -- Such a lack has one refusal where each of the two has.
  lacks_one : ((e f : Error) → None e → None f → key e ≡ key f) →
      ((a : A) (r : B) (e f : Error) → Next a r e → Next a r f → key e ≡ key f) → (e f : Error) → Lacks e → Lacks f →
      key e ≡ key f
  lacks_one one next e f (inl n) (inl m) = one e f n m
  lacks_one one next e f (inl n) (inr (b, s, h, m)) = absurd (apart b s e h n)
  lacks_one one next e f (inr (a, r, h, n)) (inl m) = absurd (apart a r f h m)
  lacks_one one next e f (inr (a, r, h, n)) (inr (b, s, k, m)) =
      let same = alone a b r s h k in
      next b s e f (subst (λ (z : A). Next z s e) same.0 (subst (λ (z : B). Next a z e) same.1 n)) m

  -- There is no such lack where both are there.
  lacks_apart : (a : A) (r : B) (e : Error) → Has a r → (Next a r e → ⊥) → Lacks e → ⊥
  lacks_apart a r e h none (inl n) = apart a r e h n
  lacks_apart a r e h none (inr (b, s, k, n)) =
      let same = alone b a s r k h in
      none (subst (λ (z : A). Next z r e) same.0 (subst (λ (z : B). Next b z e) same.1 n))

-- one element begins octets, and what follows it is one
one_begins : (o : List ℕ) (p q : Parts) (r s : List ℕ) → BeginsWithParts o p r → BeginsWithParts o q s →
    (p ≡ q) × (r ≡ s)
one_begins o p q r s a b =
    let same = ber_elements.one.one a.word b.word r s p q a.fits b.fits (sym a.is ∙ b.is) in
    (same.1, append_cancel_left b.word r s (ap (λ (w : List ℕ). w ++ r) (sym same.0) ∙ sym a.is ∙ b.is))

-- where one does there is no refusal
begins_or_none : (o : List ℕ) (p : Parts) (r : List ℕ) (e : Error) → BeginsWithParts o p r → NoFirstElement o e → ⊥
begins_or_none o p r e a n = ber_elements.final o [] a.word r p n.0 n.1
    (speaks_now (EndsWithin o) n.0 (ber_elements.counts o n.0 n.1)) a.fits (append-nil o ∙ a.is)

-- the refusal of a fault of an element within, as an error
abbrev Flat : Fault → Error → Type 0
Flat fault e = FlattenedTo (λ x y. y ≡ x) (λ x y. y ≡ x) (ber_refusal fault) e

-- One fault has one such error.
one_flat : (fault : Fault) (e f : Error) → Flat fault e → Flat fault f → e ≡ f
one_flat (missing n) e f a b = a ∙ sym b
one_flat tag_fault e f a b = a ∙ sym b
one_flat length_fault e f a b = a ∙ sym b
one_flat (rule_fault violation) e f a b = a ∙ sym b
one_flat depth_fault e f a b = a ∙ sym b

-- It does not report out of memory.
flat_no_memory : (fault : Fault) → Flat fault errors.OutOfMemory → ⊥
flat_no_memory (missing n) a = cc
flat_no_memory tag_fault a = cc
flat_no_memory length_fault a = cc
flat_no_memory (rule_fault violation) a = cc
flat_no_memory depth_fault a = cc

-- Octets with no element have one refusal.
one_no_element : (o : List ℕ) (e f : Error) → NoFirstElement o e → NoFirstElement o f → but_text e ≡ but_text f
one_no_element o e f n m =
    ap but_text (one_flat m.0 e f (subst (λ (z : Fault). Flat z e) (ber_elements.alone o n.0 m.0 n.1 m.1) n.2) m.2)

-- It does not report out of memory.
no_element_no_memory : (o : List ℕ) → NoFirstElement o errors.OutOfMemory → ⊥
no_element_no_memory o n = flat_no_memory n.0 n.2

-- That of the tag number is a check.
has_tag_is : (number : ℕ) → IsCheck (has_context_tag number)
has_tag_is number = before_is (has_class 2) (has_number number) (has_class_is 2) (has_number_is number)

-- An element of another tag number has one refusal.
one_tag_refusal : (number : ℕ) (p : Parts) (e f : Error) → has_context_tag number p (Err e) →
    has_context_tag number p (Err f) →
    but_text e ≡ but_text f
one_tag_refusal number p e f a b = ap but_text ((has_tag_is number).one p e f a b)

-- two elements in turn
one_two : (o : List ℕ) (p q r s : Parts) → BeginsWithTwo o p q → BeginsWithTwo o r s → (p ≡ r) × (q ≡ s)
one_two o p q r s a b =
    let f = one_begins o p r a.between b.between a.first b.first in
    let g = one_begins a.between q s a.rest b.rest a.second
    (subst (λ (z : List ℕ). BeginsWithParts z s b.rest) (sym f.1) b.second) in
    (f.0, g.0)

-- Where two elements begin octets there is no refusal of them.
two_or_none : (o : List ℕ) (p q : Parts) (e : Error) → BeginsWithTwo o p q → NotTwo o e → ⊥
two_or_none o p q e a n =
    lacks_apart but_text (BeginsWithParts o) (NoFirstElement o) (λ one between. NoFirstElement between)
    (one_begins o) (begins_or_none o) p a.between e a.first (begins_or_none a.between q a.rest e a.second) n

-- Octets with no two elements have one refusal.
one_not_two : (o : List ℕ) (e f : Error) → NotTwo o e → NotTwo o f → but_text e ≡ but_text f
one_not_two o =
    lacks_one but_text (BeginsWithParts o) (NoFirstElement o) (λ one between. NoFirstElement between) (one_begins o)
    (begins_or_none o) (one_no_element o) (λ one between. one_no_element between)

-- It does not report out of memory.
not_two_no_memory : (o : List ℕ) → NotTwo o errors.OutOfMemory → ⊥
not_two_no_memory o (inl n) = no_element_no_memory o n
not_two_no_memory o (inr (one, between, first, n)) = no_element_no_memory between n

-- what an element of this number and these contents octets says
abbrev SaysIdentification : ℕ → List ℕ → Identification → Type 0
SaysIdentification zero content i = (one other : Parts) × BeginsWithTwo content one other ×
    (i ≡ syntaxes (absolute one.content) (absolute other.content))
SaysIdentification (suc zero) content i = i ≡ syntax (absolute content)
SaysIdentification (suc (suc zero)) content i = i ≡ context content
SaysIdentification (suc (suc (suc zero))) content i =
    (one other : Parts) × BeginsWithTwo content one other × (i ≡ negotiation one.content (absolute other.content))
SaysIdentification (suc (suc (suc (suc zero)))) content i = i ≡ transfer (absolute content)
SaysIdentification (suc (suc (suc (suc (suc n))))) content i = i ≡ fixed

-- A number and contents octets say one identification.
one_says : (n : ℕ) (content : List ℕ) (i j : Identification) → SaysIdentification n content i →
    SaysIdentification n content j → i ≡ j
one_says zero content i j (p, q, a, e) (r, s, b, f) = let same = one_two content p q r s a b in
    e ∙ ap (λ (z : Parts). syntaxes (absolute z.content) (absolute q.content)) same.0
    ∙ ap (λ (z : Parts). syntaxes (absolute r.content) (absolute z.content)) same.1 ∙ sym f
one_says (suc zero) content i j e f = e ∙ sym f
one_says (suc (suc zero)) content i j e f = e ∙ sym f
one_says (suc (suc (suc zero))) content i j (p, q, a, e) (r, s, b, f) = let same = one_two content p q r s a b in
    e ∙ ap (λ (z : Parts). negotiation z.content (absolute q.content)) same.0
    ∙ ap (λ (z : Parts). negotiation r.content (absolute z.content)) same.1 ∙ sym f
one_says (suc (suc (suc (suc zero)))) content i j e f = e ∙ sym f
one_says (suc (suc (suc (suc (suc n))))) content i j e f = e ∙ sym f

-- What an element identifies is what its number and its contents octets say.
says_it : (p : Parts) (i : Identification) → Identifies p i → SaysIdentification p.id.number p.content i
says_it p (syntaxes a t) (e, (one, other, two, x, y)) =
    subst (λ (n : ℕ). SaysIdentification n p.content (syntaxes a t)) (sym e) (
      one,
      other,
      two,
      ap (λ (z : OidValue). syntaxes z t) x ∙ ap (syntaxes (absolute one.content)) y,
    )
says_it p (syntax s) (e, x) = subst (λ (n : ℕ). SaysIdentification n p.content (syntax s)) (sym e) (ap syntax x)
says_it p (context c) (e, x) = subst (λ (n : ℕ). SaysIdentification n p.content (context c)) (sym e) (ap context x)
says_it p (negotiation c s) (e, (one, other, two, x, y)) =
    subst (λ (n : ℕ). SaysIdentification n p.content (negotiation c s)) (sym e)
    (one, other, two, ap (λ (z : List ℕ). negotiation z s) x ∙ ap (negotiation one.content) y)
says_it p (transfer s) (e, x) = subst (λ (n : ℕ). SaysIdentification n p.content (transfer s)) (sym e) (ap transfer x)
says_it p fixed e = subst (λ (n : ℕ). SaysIdentification n p.content fixed) (sym e) refl

-- An element says one identification.
one_identification : (p : Parts) (i j : Identification) → Identifies p i → Identifies p j → i ≡ j
one_identification p i j a b = one_says p.id.number p.content i j (says_it p i a) (says_it p j b)

-- an element that wants no two, or has two
says_or_none : (p : Parts) (i : Identification) (e : Error) → Identifies p i → SaysNone p e → ⊥
says_or_none p (syntaxes a t) e (n, (one, other, two, x, y)) (inl (k, m)) = two_or_none p.content one other e two m
says_or_none p (syntaxes a t) e (n, x) (inr (l, m)) = omega (arith, n, l)
says_or_none p (syntax s) e (n, x) (inl (inl k, m)) = omega (arith, n, k)
says_or_none p (syntax s) e (n, x) (inl (inr k, m)) = omega (arith, n, k)
says_or_none p (syntax s) e (n, x) (inr (l, m)) = omega (arith, n, l)
says_or_none p (context c) e (n, x) (inl (inl k, m)) = omega (arith, n, k)
says_or_none p (context c) e (n, x) (inl (inr k, m)) = omega (arith, n, k)
says_or_none p (context c) e (n, x) (inr (l, m)) = omega (arith, n, l)
says_or_none p (negotiation c s) e (n, (one, other, two, x, y)) (inl (k, m)) = two_or_none p.content one other e two m
says_or_none p (negotiation c s) e (n, x) (inr (l, m)) = omega (arith, n, l)
says_or_none p (transfer s) e (n, x) (inl (inl k, m)) = omega (arith, n, k)
says_or_none p (transfer s) e (n, x) (inl (inr k, m)) = omega (arith, n, k)
says_or_none p (transfer s) e (n, x) (inr (l, m)) = omega (arith, n, l)
says_or_none p fixed e n (inl (inl k, m)) = omega (arith, n, k)
says_or_none p fixed e n (inl (inr k, m)) = omega (arith, n, k)
says_or_none p fixed e n (inr (l, m)) = omega (arith, n, l)

-- An element that says no identification has one refusal.
one_says_none : (p : Parts) (e f : Error) → SaysNone p e → SaysNone p f → but_text e ≡ but_text f
one_says_none p e f (inl (k, n)) (inl (l, m)) = one_not_two p.content e f n m
one_says_none p e f (inl (inl k, n)) (inr (l, m)) = let b : ⊥ = omega (arith, k, l) in absurd b
one_says_none p e f (inl (inr k, n)) (inr (l, m)) = let b : ⊥ = omega (arith, k, l) in absurd b
one_says_none p e f (inr (l, m)) (inl (inl k, n)) = let b : ⊥ = omega (arith, k, l) in absurd b
one_says_none p e f (inr (l, m)) (inl (inr k, n)) = let b : ⊥ = omega (arith, k, l) in absurd b
one_says_none p e f (inr (k, n)) (inr (l, m)) =
    same_text (record { 0 = p.id.number }) (codes "not an identification") e f n m

-- It does not report out of memory.
says_none_no_memory : (p : Parts) → SaysNone p errors.OutOfMemory → ⊥
says_none_no_memory p (inl (k, n)) = not_two_no_memory p.content n
says_none_no_memory p (inr (l, m)) = m

-- the element that the first one holds
one_inner : (outer p q : Parts) → HasInner outer p → HasInner outer q → p ≡ q
one_inner outer p q a b = (one_begins outer.content p q a.rest b.rest a.within b.within).0

-- Where an element holds one there is no refusal of that.
inner_or_none : (outer p : Parts) (e : Error) → HasInner outer p → HasNoInner outer e → ⊥
inner_or_none outer p e a n = lacks_apart but_text (BeginsWithParts outer.content) (NoFirstElement outer.content)
    (λ inner rest x. has_context_tag 0 outer (Err x)) (one_begins outer.content)
    (begins_or_none outer.content) p a.rest e a.within
    ((has_tag_is 0).apart outer e a.tag) n

-- An element that holds none has one refusal.
one_no_inner : (outer : Parts) (e f : Error) → HasNoInner outer e → HasNoInner outer f → but_text e ≡ but_text f
one_no_inner outer = lacks_one but_text (BeginsWithParts outer.content) (NoFirstElement outer.content)
    (λ inner rest x. has_context_tag 0 outer (Err x)) (one_begins outer.content) (begins_or_none outer.content)
    (one_no_element outer.content) (λ inner rest. one_tag_refusal 0 outer)

-- It does not report out of memory.
no_inner_no_memory : (outer : Parts) → HasNoInner outer errors.OutOfMemory → ⊥
no_inner_no_memory outer (inl n) = no_element_no_memory outer.content n
no_inner_no_memory outer (inr (inner, rest, within, t)) = (has_tag_is 0).asks_no_memory outer t

-- Octets hold one element of the sort, and one rest behind it.
one_held : (o : List ℕ) (p q : Parts) (r s : List ℕ) → HoldsElement o p r → HoldsElement o q s → (p ≡ q) × (r ≡ s)
one_held o p q r s a b =
    let f = one_begins o a.outer b.outer r s a.first b.first in
    (one_inner b.outer p q (subst (λ (z : Parts). HasInner z p) f.0 a.has) b.has, f.1)

-- Where they hold one there is no refusal of that.
held_or_none : (o : List ℕ) (p : Parts) (r : List ℕ) (e : Error) → HoldsElement o p r → HoldsNone o e → ⊥
held_or_none o p r e a n =
    lacks_apart but_text (BeginsWithParts o) (NoFirstElement o) (λ outer behind. HasNoInner outer)
    (one_begins o) (begins_or_none o) a.outer r e a.first (inner_or_none a.outer p e a.has) n

-- Octets that hold none have one refusal.
one_none_held : (o : List ℕ) (e f : Error) → HoldsNone o e → HoldsNone o f → but_text e ≡ but_text f
one_none_held o =
    lacks_one but_text (BeginsWithParts o) (NoFirstElement o) (λ outer behind. HasNoInner outer) (one_begins o)
    (begins_or_none o) (one_no_element o) (λ outer behind. one_no_inner outer)

-- It does not report out of memory.
none_held_no_memory : (o : List ℕ) → HoldsNone o errors.OutOfMemory → ⊥
none_held_no_memory o (inl n) = no_element_no_memory o n
none_held_no_memory o (inr (outer, behind, first, n)) = no_inner_no_memory outer n

-- the identification
one_identified : (o : List ℕ) (i j : Identification) (r s : List ℕ) → IsIdentified o i r → IsIdentified o j s →
    (i ≡ j) × (r ≡ s)
one_identified o i j r s a b =
    let f = one_held o a.inner b.inner r s a.holds b.holds in
    (one_identification b.inner i j (subst (λ (z : Parts). Identifies z i) f.0 a.says) b.says, f.1)

-- Where there is an identification there is no refusal of it.
identified_or_none : (o : List ℕ) (i : Identification) (r : List ℕ) (e : Error) → IsIdentified o i r →
    NotIdentified o e → ⊥
identified_or_none o i r e a n = lacks_apart but_text (HoldsElement o) (HoldsNone o) (λ inner behind. SaysNone inner)
    (one_held o) (held_or_none o) a.inner r e a.holds (says_or_none a.inner i e a.says) n

-- Octets with none have one refusal.
one_not_identified : (o : List ℕ) (e f : Error) → NotIdentified o e → NotIdentified o f → but_text e ≡ but_text f
one_not_identified o = lacks_one but_text (HoldsElement o) (HoldsNone o) (λ inner behind. SaysNone inner) (one_held o)
    (held_or_none o) (one_none_held o) (λ inner behind. one_says_none inner)

-- It does not report out of memory.
not_identified_no_memory : (o : List ℕ) → NotIdentified o errors.OutOfMemory → ⊥
not_identified_no_memory o (inl n) = none_held_no_memory o n
not_identified_no_memory o (inr (inner, behind, holds, n)) = says_none_no_memory inner n

-- the data value
one_data_value : (o a b : List ℕ) → IsData o a → IsData o b → a ≡ b
one_data_value o a b x y =
    x.is ∙ ap (λ (z : Parts). z.content) (one_begins o x.parts y.parts x.rest y.rest x.element y.element).0 ∙ sym y.is

-- Where there is a data value there is no refusal of it.
data_or_none : (o a : List ℕ) (e : Error) → IsData o a → NoData o e → ⊥
data_or_none o a e x n =
    lacks_apart but_text (BeginsWithParts o) (NoFirstElement o) (λ p rest z. has_context_tag 2 p (Err z))
    (one_begins o) (begins_or_none o) x.parts x.rest e x.element ((has_tag_is 2).apart x.parts e x.tag) n

-- Octets with none have one refusal.
one_no_data : (o : List ℕ) (e f : Error) → NoData o e → NoData o f → but_text e ≡ but_text f
one_no_data o =
    lacks_one but_text (BeginsWithParts o) (NoFirstElement o) (λ p rest z. has_context_tag 2 p (Err z)) (one_begins o)
    (begins_or_none o) (one_no_element o) (λ p rest. one_tag_refusal 2 p)

-- It does not report out of memory.
no_data_no_memory : (o : List ℕ) → NoData o errors.OutOfMemory → ⊥
no_data_no_memory o (inl n) = no_element_no_memory o n
no_data_no_memory o (inr (p, rest, element, t)) = (has_tag_is 2).asks_no_memory p t

-- both
parts_or_none : (o : List ℕ) (i : Identification) (a : List ℕ) (e : Error) → HasPdvParts o i a → LacksPart o e → ⊥
parts_or_none o i a e x n = lacks_apart but_text (IsIdentified o) (NotIdentified o) (λ j behind. NoData behind)
    (one_identified o) (identified_or_none o) i x.behind e x.identified (data_or_none x.behind a e x.data_value) n

-- Octets that lack a part have one refusal.
one_lacks_part : (o : List ℕ) (e f : Error) → LacksPart o e → LacksPart o f → but_text e ≡ but_text f
one_lacks_part o = lacks_one but_text (IsIdentified o) (NotIdentified o) (λ j behind. NoData behind) (one_identified o)
    (identified_or_none o) (one_not_identified o) (λ j behind. one_no_data behind)

-- It does not report out of memory.
lacks_part_no_memory : (o : List ℕ) → LacksPart o errors.OutOfMemory → ⊥
lacks_part_no_memory o (inl n) = not_identified_no_memory o n
lacks_part_no_memory o (inr (i, behind, identified, n)) = no_data_no_memory behind n

-- An element has one data value.
one_body : (p : Parts) (v w : PdvValue) → PdvBody p v → PdvBody p w → v ≡ w
one_body p v w (a, d) (b, e) =
    let f = one_identified p.content v.identification w.identification a.behind b.behind a.identified b.identified in
    let g = one_data_value b.behind v.octets w.octets
    (subst (λ (z : List ℕ). IsData z v.octets) f.1 a.data_value) b.data_value in
    ap (λ (i : Identification). record { identification = i; descriptor = v.descriptor; octets = v.octets }) f.0 ∙
    ap (λ (x : Option (List ℕ)). record { identification = w.identification; descriptor = x; octets = v.octets })
    (d ∙ sym e) ∙
    ap (λ (o : List ℕ). record { identification = w.identification; descriptor = w.descriptor; octets = o }) g

-- Values.

-- The contents octets of an element that begins octets are octets.
begun_octets : (o : List ℕ) (p : Parts) (r : List ℕ) → BeginsWithParts o p r → IsOctets p.content
begun_octets o p r a = (ber_elements.possible a.word p a.fits).content

-- The octets of an absolute identifier are its contents octets.
absolute_octets : (v : OidValue) (c : List ℕ) → v ≡ absolute c → IsOctets c → IsOctets v.octets
absolute_octets v c e o = subst (λ (z : OidValue). IsOctets z.octets) (sym e) o

-- The identification that an element says has parts such as an element can say.
said_parts : (p : Parts) (i : Identification) → IsOctets p.content → Identifies p i → IsIdentification i
said_parts p (syntaxes a t) o (n, (one, other, two, x, y)) = (
  absolute_octets a one.content x (begun_octets p.content one two.between two.first),
  absolute_octets t other.content y (begun_octets two.between other two.rest two.second),
)
said_parts p (syntax s) o (n, x) = absolute_octets s p.content x o
said_parts p (context c) o (n, x) = subst IsOctets (sym x) o
said_parts p (negotiation c s) o (n, (one, other, two, x, y)) = (
  subst IsOctets (sym x) (begun_octets p.content one two.between two.first),
  absolute_octets s other.content y (begun_octets two.between other two.rest two.second),
)
said_parts p (transfer s) o (n, x) = absolute_octets s p.content x o
said_parts p fixed o n = tt

-- The data value that an element says is one of the type's.
body_is : (p : Parts) (v : PdvValue) → PdvBody p v → IsPdv v
body_is p v (a, d) = record {
  identification =
      let held = a.identified.holds in
      said_parts a.identified.inner v.identification
      (begun_octets held.outer.content a.identified.inner held.has.rest held.has.within) a.identified.says;
  descriptor = subst (λ (z : Option (List ℕ)). IfSome z IsUtf8) (sym d) tt;
  octets = subst IsOctets (sym a.data_value.is)
      (begun_octets a.behind a.data_value.parts a.data_value.rest a.data_value.element);
}

-- The laws.

-- values are equal in one way at most
pdv_value_set : IsSet PdvValue
pdv_value_set = PdvValue-set (Identification-set oid_value_set octets_set) (option_set octets_set) octets_set

-- it has no strict parts, so nothing is asked of them
pub pdv_lawful : IsLawfulElement pdv_element
pdv_lawful = record {
  one_equality = pdv_value_set;
  body_values = λ p v o b. body_is p v b;
  form_values = λ v i c f. absurd f;
  body_one = one_body;
  one_form = λ v i j c d f g. absurd f;
  one_value = λ v w i c f g. absurd f;
  form_fits = λ v i c f. absurd f;
  form_check = λ v i c f. absurd f;
  form_der = λ v i c f. absurd f;
  form_body = λ v i c f. absurd f;
}

-- The constraints of a data value are a check.
pub pdv_constraints_are : IsCheck pdv_constraints
pdv_constraints_are = before_is is_counted is_constructed is_counted_is is_constructed_is

-- They are exact.
pub pdv_checked : IsExactCheck pdv_constraints pdv_element.Check
pdv_checked = exact_check pdv_constraints pdv_constraints_are

-- The conversion is exact.
pub pdv_converts : IsExactConversion (OfParts PdvGives) pdv_element
pdv_converts =
    record {
      exact = λ any. exact (parts_of any);
      asks_no_memory =
          λ none any g. lacks_part_no_memory (parts_of any).content g;
    }
  where
    exact : (p : Parts) (answer : Result EmbeddedPdv Error) → IsOctets p.content → PdvGives p answer →
        TakesBody PdvBody pdv_value false (λ (x y : Error). y ≡ x) p answer
    exact p (Ok x) o g = g.0
    exact p (Err e) o g = inr (λ v b. parts_or_none p.content v.identification v.octets e b.0 g)

-- an element has one refusal by the conversion, and none where it has a value; and so of the constraints
pub pdv_one_refusal : HasOneRefusalUpTo but_text PdvGives
pdv_one_refusal = record {
  one = λ p. one_lacks_part p.content;
  none = λ p x e g h. parts_or_none p.content (pdv_value x).identification (pdv_value x).octets e g.0.0 h;
}

-- An element has one refusal by the constraints.
pub pdv_constraints_have_one_refusal : HasOneRefusalUpTo (λ (e : Error). e) pdv_constraints
pdv_constraints_have_one_refusal =
    record { one = pdv_constraints_are.one; none = λ p x e g h. pdv_constraints_are.apart p e g h }
