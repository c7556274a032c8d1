-- What readers of elements and of contents octets say of more octets, and that they have one refusal.
pub mod Decoded
pub mod Kept
pub mod Text
pub mod Value
pub mod Writing
use Rattle.std.proofs.Common.{◌≡◌, ◌∙◌, inl, inr, refl, subst, ap, sym, ℕ, List, [], ◌++◌, append_assoc, append-nil}
use Rattle.std.proofs.lemmas.List.{append_cancel_left}
use Rattle.std.specs.Prelude.{zero, suc, Bool, true, false, Result, Ok, Err, IfOk}
use Rattle.std.specs.Borrow.{Bor}
use Rattle.x690.specs.Identifiers.{Identifier, IsIdentifier}
use Rattle.x690.specs.Laws.Identifiers.{identifier_unique}
use Rattle.x690.specs.Lengths.{LengthForm, definite, indefinite}
use Rattle.x690.specs.Elements.{Parts, IsDerElement}
use Rattle.x690.specs.Faults.{Violation, Fault, tag_fault, IsLackingOrTruncated}
use Rattle.x690.specs.Nested.{IsElement}
use Rattle.x690.specs.Nested.Contents.{IsContent}
use Rattle.x690.specs.Laws.Nested.Contents.{content_unique, content_extends, one_content_fault, content_or_fault}
use Rattle.asn1_headers.specs.declared.error.Err.{Err as Refusal}
use Rattle.asn1_headers.specs.declared.error.Err.TheVariants.{Incomplete as truncated, Error as refused, Failure as failed}
use Rattle.asn1_headers.specs.declared.error.Error.TheVariants.{InvalidTag}
use Rattle.asn1_headers.specs.Error.{Converted}
use Rattle.asn1_headers.specs.declared.error.Error.{Error}
use Rattle.asn1_rs.specs.declared.asn1_types.any.Any.{Any}
use Rattle.asn1_headers.specs.Answers.{HasPrefix, TellsBeginning}
use Rattle.asn1_headers.specs.declared.header.Header.{Header}
use Rattle.asn1_headers.specs.Header.Reading.{refusal_of, der_refusal, ber_refusal, KeepsIdentifier}
use Rattle.asn1_headers.specs.Header.{identifier_of, KeepsLent}
use Rattle.asn1_headers.specs.Ber.{BerContentGives, max_depth}
use Rattle.asn1_rs.specs.Any.{AnyGives, BeginsWithAny, IsTheElement, IsDefiniteOr, parts_of, BerElementGives}
use Rattle.asn1_rs.specs.Any.{DerElementGives, ElementLasts, RefusalLasts}
use Rattle.asn1_rs.specs.Laws.Any.Value.{the_element_parts}
use Rattle.asn1_rs.specs.Traits.{BerGives, DerGives}
use Rattle.asn1_rs.specs.Laws.Readers.{AreLawfulElements, speaks_itself, refusal_speaks_now}
use Rattle.asn1_headers.specs.Content.{ContentStays}

-- Readers of elements.

-- as the fault that it tells of
pub tells_beginning : (refuses : Violation → Error) (fault : Fault) (r : Refusal Error) (ends_within : Type 0)
    (more : List ℕ) → r ≡ refusal_of refuses fault → IsLackingOrTruncated ends_within fault more →
    TellsBeginning ends_within r more
tells_beginning at fault r ends_within more e (inl l) = inl (l.0, e ∙ ap (refusal_of at) l.1, l.2)
tells_beginning at fault r ends_within more e (inr c) = inr (e ∙ ap (refusal_of at) c.0, c.1)

module _ (ElementOf : List ℕ → Parts → Type 0) (FaultOf : List ℕ → Fault → Type 0) (IsTruncated : List ℕ → Type 0)
    (elements : AreLawfulElements ElementOf FaultOf IsTruncated) (refuses : Violation → Error) where
  -- what such a reader may answer
  abbrev Gives : List ℕ → Result (List ℕ × Any) (Refusal Error) → Type 0
  Gives = AnyGives ElementOf FaultOf (refusal_of refuses)

  -- What a refusal says of more octets holds of them.
  pub refusal_lasts : (input : List ℕ) (r : Refusal Error) → Gives input (Err r) → RefusalLasts ElementOf IsTruncated input r
  refusal_lasts input r g = λ more word rest p s a e.
      elements.final input more word rest p g.0 g.1
      (speaks_itself refuses g.0 r (IsTruncated input) more (elements.counts input g.0 g.1) g.2 s) a e

  -- An element that was read is read with more octets behind it, too.
  pub element_lasts : (input : List ℕ) (x : List ℕ × Any) → Gives input (Ok x) → ElementLasts ElementOf input x.0 x.1
  element_lasts input x g = λ more word tail p a e.
      let f = g.front in
      let s : f.word ++ (x.0 ++ more) ≡ word ++ tail =
      sym (append_assoc f.word x.0 more) ∙ ap (λ (ys : List ℕ). ys ++ more) (sym f.is) ∙ e in
      let same : (f.word ≡ word) × (parts_of x.1 ≡ p) =
      elements.one.one f.word word (x.0 ++ more) tail (parts_of x.1) p f.fits a s in (
        sym same.1,
        sym (append_cancel_left word (x.0 ++ more) tail (ap (λ (ys : List ℕ). ys ++ (x.0 ++ more)) (sym same.0) ∙ s)),
      )

  -- An input that further octets would make begin with an element is refused as the beginning of one.
  pub beginning_refused : (input more word rest : List ℕ) (p : Parts) (r : Refusal Error) → Gives input (Err r) →
      ElementOf word p → input ++ more ≡ word ++ rest → TellsBeginning (IsTruncated input) r more
  beginning_refused input more word rest p r g a e =
      tells_beginning refuses g.0 r (IsTruncated input) more g.2 (elements.beginning input more word rest p g.0 g.1 a e)

  -- Octets that end within identifier octets are refused with `InvalidTag`.
  pub within_refused : (input : List ℕ) (answer : Result (List ℕ × Any) (Refusal Error)) → IsTruncated input →
      Gives input answer → answer ≡ Err (refused InvalidTag)
  within_refused input (Ok x) c g = absurd (elements.final input [] g.front.word x.0 (parts_of x.1) tag_fault
      (elements.within input c) (inl refl) g.front.fits (append-nil input ∙ g.front.is))
  within_refused input (Err r) c g =
      ap Err (g.2 ∙ ap (refusal_of refuses) (elements.alone input g.0 tag_fault g.1 (elements.within input c)))

  -- an input has one refusal
  pub one_element_refusal : (input : List ℕ) (q r : Refusal Error) → Gives input (Err q) → Gives input (Err r) → q ≡ r
  one_element_refusal input q r f g = f.2 ∙ ap (refusal_of refuses) (elements.alone input f.0 g.0 f.1 g.1) ∙ sym g.2

  -- where an element begins an input there is no refusal of it
  pub element_or_refusal : (input : List ℕ) (x : List ℕ × Any) (r : Refusal Error) → Gives input (Ok x) →
      Gives input (Err r) → ⊥
  element_or_refusal input x r f g = refusal_lasts input r g [] f.front.word x.0 (parts_of x.1)
      (refusal_speaks_now (IsTruncated input) r) f.front.fits (append-nil input ∙ f.front.is)

-- Readers of contents octets.

-- contents octets by BER have one refusal
pub one_content_refusal : (constructed : Bool) (form : LengthForm) (depth : ℕ) (input : List ℕ) (q r : Refusal Error) →
    BerContentGives constructed form depth input (Err q) → BerContentGives constructed form depth input (Err r) → q ≡ r
one_content_refusal true form zero input q r f g = cc
one_content_refusal false form zero input q r f g = cc
one_content_refusal false indefinite (suc depth) input q r f g = cc
one_content_refusal false (definite n) (suc depth) input q r f g =
    f.2 ∙ ap ber_refusal (one_content_fault (definite n) depth input f.0 g.0 f.1 g.1) ∙ sym g.2
one_content_refusal true form (suc depth) input q r f g =
    f.2 ∙ ap ber_refusal (one_content_fault form depth input f.0 g.0 f.1 g.1) ∙ sym g.2

-- and none where contents octets begin the input
pub content_or_refusal : (constructed : Bool) (form : LengthForm) (depth : ℕ) (input : List ℕ)
    (x : Bor (List ℕ) × Bor (List ℕ)) (r : Refusal Error) → BerContentGives constructed form depth input (Ok x) →
    BerContentGives constructed form depth input (Err r) → ⊥
content_or_refusal true form zero input x r f g = cc
content_or_refusal false form zero input x r f g = cc
content_or_refusal false indefinite (suc depth) input x r f g = cc
content_or_refusal false (definite n) (suc depth) input x r f g =
    content_or_fault (definite n) depth input x.1.now x.0.now f.0 g.0 f.1 g.1
content_or_refusal true form (suc depth) input x r f g =
    content_or_fault form depth input x.1.now x.0.now f.0 g.0 f.1 g.1

-- what is read of a form stays, and no fault of it is found
content_stays : (form : LengthForm) (depth : ℕ) (input more : List ℕ) (x : Bor (List ℕ) × Bor (List ℕ)) →
    ((headers : ℕ) × IsContent form depth input x.1.now x.0.now headers) →
    (answer : Result (Bor (List ℕ) × Bor (List ℕ)) (Refusal Error)) →
    BerContentGives true form (suc depth) (input ++ more) answer → ContentStays x more answer
content_stays form depth input more x f (Ok y) g =
    let u = content_unique form depth (input ++ more) y.1.now x.1.now y.0.now (x.0.now ++ more) g.0 f.0 g.1
    (content_extends form depth input x.1.now x.0.now more f.0 f.1) in
    (u.0, u.1)
content_stays form depth input more x f (Err r) g =
    content_or_fault form depth (input ++ more) x.1.now (x.0.now ++ more) f.0 g.0
    (content_extends form depth input x.1.now x.0.now more f.0 f.1) g.1

-- Contents octets of a definite length are read alike whatever the constructed bit.
either_bit : (n depth : ℕ) (input : List ℕ) (answer : Result (Bor (List ℕ) × Bor (List ℕ)) (Refusal Error)) →
    BerContentGives false (definite n) (suc depth) input answer →
    BerContentGives true (definite n) (suc depth) input answer
either_bit n depth input (Ok x) g = g
either_bit n depth input (Err r) g = g

-- Contents octets that were read stay what they are with more octets behind them.
pub content_lasts : (constructed : Bool) (form : LengthForm) (depth : ℕ) (input more : List ℕ)
    (x : Bor (List ℕ) × Bor (List ℕ)) (answer : Result (Bor (List ℕ) × Bor (List ℕ)) (Refusal Error)) →
    BerContentGives constructed form depth input (Ok x) →
    BerContentGives constructed form depth (input ++ more) answer → ContentStays x more answer
content_lasts true form zero input more x answer f g = cc
content_lasts false form zero input more x answer f g = cc
content_lasts false indefinite (suc depth) input more x answer f g = cc
content_lasts false (definite n) (suc depth) input more x answer f g =
    content_stays (definite n) depth input more x f answer (either_bit n depth (input ++ more) answer g)
content_lasts true form (suc depth) input more x answer f g = content_stays form depth input more x f answer g

-- Identifier octets that are kept.

-- a header that keeps the identifier octets at the front of the input keeps these, since one string of them begins it
raw_tag_kept : (input identifier more : List ℕ) (id : Identifier) (h : Header) → IsIdentifier identifier id →
    input ≡ identifier ++ more → KeepsIdentifier input h → KeepsLent identifier h
raw_tag_kept input identifier more id h i e (octets, rest, j, f, kept) =
    subst (λ (front : List ℕ). KeepsLent front h)
    (identifier_unique octets identifier rest more (identifier_of h) id j i (sym f ∙ e)).0 kept

-- An element that was read keeps the identifier octets at the front of the input.
pub raw_tag_told : (ElementOf : List ℕ → Parts → Type 0) (FaultOf : List ℕ → Fault → Type 0)
    (refusal : Fault → Refusal Error) (input identifier more : List ℕ) (id : Identifier)
    (answer : Result (List ℕ × Any) (Refusal Error)) →
    IsIdentifier identifier id → input ≡ identifier ++ more → AnyGives ElementOf FaultOf refusal input answer →
    IfOk answer (λ x. KeepsLent identifier x.1.header)
raw_tag_told ElementOf FaultOf refusal input identifier more id (Ok x) i e g =
    raw_tag_kept input identifier more id x.1.header i e g.kept
raw_tag_told ElementOf FaultOf refusal input identifier more id (Err r) i e g = tt

-- The blanket readers at an element.

-- errors that stay as they are keep the refusal
same_refusal : (q r : Refusal Error) → Converted (λ (e f : Error). f ≡ e) q r → r ≡ q
same_refusal (truncated n) r c = c
same_refusal (refused e) r c = c.2 ∙ ap refused c.1
same_refusal (failed e) r c = c.2 ∙ ap failed c.1

-- a definite element has no indefinite form
not_indefinite : (o : List ℕ) (p : Parts) → IsDerElement o p → p.form ≡ indefinite → ⊥
not_indefinite o p d e = let counted = d.counted in cc

-- what is the element that begins an input begins it too
same_begins : (ElementOf : List ℕ → Parts → Type 0) (input rest : List ℕ) (any same : Any) →
    IsTheElement any (Ok same) → BeginsWithAny ElementOf input any rest →
    BeginsWithAny ElementOf input same rest
same_begins ElementOf input rest any same h b = record {
  front = subst (λ (p : Parts). HasPrefix ElementOf input p rest) (sym (the_element_parts any same h)) b.front;
  kept = subst (KeepsIdentifier input) (sym h.0) b.kept;
}

-- What the blanket readers answer at an element is the element, or the refusal of its first fault.
pub der_any : (input : List ℕ) (answer : Result (List ℕ × Any) (Refusal Error)) →
    DerGives IsDefiniteOr IsTheElement (λ e f. f ≡ e) input answer → DerElementGives input answer
der_any input (Ok x) (any, begins, check, same) = same_begins IsDerElement input x.0 any x.1 same begins
der_any input (Err r) (inl (fault, f, c)) = (fault, f, same_refusal (der_refusal fault) r c)
der_any input (Err r) (inr (any, rest, begins, inl (e, check, from))) =
    absurd (not_indefinite begins.front.word (parts_of any) begins.front.fits check.0)
der_any input (Err r) (inr (any, rest, begins, inr (check, (e, convert, is)))) = absurd convert

-- So it is by BER.
pub ber_any : (input : List ℕ) (answer : Result (List ℕ × Any) (Refusal Error)) →
    BerGives IsTheElement (λ e f. f ≡ e) input answer → BerElementGives input answer
ber_any input (Ok x) (any, begins, check, same) = same_begins (IsElement max_depth) input x.0 any x.1 same begins
ber_any input (Err r) (inl (fault, f, c)) = (fault, f, same_refusal (ber_refusal fault) r c)
ber_any input (Err r) (inr (any, rest, begins, inl (e, check, from))) = cc
ber_any input (Err r) (inr (any, rest, begins, inr (check, (e, convert, is)))) = absurd convert
