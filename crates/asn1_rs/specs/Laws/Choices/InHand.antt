-- What an element in hand is read as by the arms of a choice, and by the choice, is what they read.
use Rattle.std.proofs.Common.{ap, inl, inr, refl, ℕ, Bool, List}
use Rattle.std.specs.Prelude.{Result, Ok, Err}
use Rattle.x690.specs.Elements.{IsDerElement}
use Rattle.x690.specs.Identifiers.{Identifier}
use Rattle.asn1_headers.specs.declared.error.Err.{Err as Refusal}
use Rattle.asn1_headers.specs.declared.error.Err.TheVariants.{Error as refused}
use Rattle.asn1_headers.specs.declared.error.Error.{Error}
use Rattle.asn1_rs.specs.declared.asn1_types.any.Any.{Any}
use Rattle.asn1_rs.specs.declared.choices.arms.Or.{Or}
use Rattle.asn1_rs.specs.declared.choices.arms.Or.TheVariants as arm
use Rattle.asn1_rs.specs.declared.choices.nested.OrChoice.{OrChoice}
use Rattle.asn1_rs.specs.declared.choices.nested.OrChoice.TheVariants as part
use Rattle.asn1_rs.specs.Any.{parts_of}
use Rattle.asn1_rs.specs.Any.Decoded.{IsReadAgain}
use Rattle.asn1_rs.specs.Choices.{ChoiceGives, ChoiceReads, IsNoArm, OrGives, OrReads}
use Rattle.asn1_rs.specs.Choices.InHand.{IsReadByArms}
use Rattle.asn1_rs.specs.Choices.Nested.{OrChoiceGives, OrChoiceReads}

-- An element that is of no arm is refused.
pub none_in_hand : {T : Type 0} (any : Any) (answer : Result T Error) →
    IsNoArm (λ (e : Error). e) (parts_of any).id.number answer →
    IsReadByArms (λ i octets given. IsNoArm refused i.number given) any answer
none_in_hand any (Ok x) g octets rest begins = absurd (cc)
none_in_hand any (Err e) g octets rest begins = (refused e, ap the_refusal g, refl)
  where
    the_refusal : {T : Type 0} → Result T Error → Result (List ℕ × T) (Refusal Error)
    the_refusal (Ok x) = Err (refused e)
    the_refusal (Err f) = Err (refused f)

-- Another one is the value of an arm.
module _ {A B : Type 0} (told : Bool) (any : Any) (first : List ℕ → Result (List ℕ × A) (Refusal Error) → Type 0)
    (others : List ℕ → Result (List ℕ × B) (Refusal Error) → Type 0) (this : Result A Error → Type 0)
    (rest_of : Result B Error → Type 0)
    (first_read : (answer : Result A Error) → this answer → IsReadAgain IsDerElement first any answer)
    (others_read : (answer : Result B Error) → rest_of answer → IsReadAgain IsDerElement others any answer) where
  -- Of the first one, or of another.
  pub or_in_hand : {class : ℕ} (answer : Result (Or A B class) Error) → OrGives told this rest_of answer →
      IsReadAgain IsDerElement (OrReads told first others) any answer
  or_in_hand (Ok (arm.This x)) g octets rest begins = (g.0, first_read (Ok x) g.1 octets rest begins)
  or_in_hand (Ok (arm.Other y)) g octets rest begins = (g.0, others_read (Ok y) g.1 octets rest begins)
  or_in_hand (Err e) (inl g) octets rest begins =
      let h = first_read (Err e) g.1 octets rest begins in (h.0, inl (g.0, h.1), h.2)
  or_in_hand (Err e) (inr g) octets rest begins =
      let h = others_read (Err e) g.1 octets rest begins in (h.0, inr (g.0, h.1), h.2)

  -- So it is of a choice, or of the other arms.
  pub or_choice_in_hand : (answer : Result (OrChoice A B) Error) → OrChoiceGives told this rest_of answer →
      IsReadAgain IsDerElement (OrChoiceReads told first others) any answer
  or_choice_in_hand (Ok (part.This x)) g octets rest begins = (g.0, first_read (Ok x) g.1 octets rest begins)
  or_choice_in_hand (Ok (part.Other y)) g octets rest begins = (g.0, others_read (Ok y) g.1 octets rest begins)
  or_choice_in_hand (Err e) (inl g) octets rest begins =
      let h = first_read (Err e) g.1 octets rest begins in (h.0, inl (g.0, h.1), h.2)
  or_choice_in_hand (Err e) (inr g) octets rest begins =
      let h = others_read (Err e) g.1 octets rest begins in (h.0, inr (g.0, h.1), h.2)

-- The choice is what its arms are.
pub choice_in_hand : {S T : Type 0} (tags : List (ℕ × ℕ)) (as_arms : T → S)
    (reads : Identifier → List ℕ → Result (List ℕ × S) (Refusal Error) → Type 0)
    (decodes : Any → Result S Error → Type 0) →
    ((any : Any) (answer : Result S Error) → decodes any answer → IsReadByArms reads any answer) →
    (any : Any) (answer : Result T Error) → ChoiceGives tags as_arms decodes any answer →
    IsReadAgain IsDerElement (ChoiceReads tags as_arms reads) any answer
choice_in_hand tags as_arms reads decodes each any (Ok x) g octets rest begins =
    (any, rest, begins, each any (Ok (as_arms x)) g octets rest begins)
choice_in_hand tags as_arms reads decodes each any (Err e) (inl c) octets rest begins =
    (refused e, inr (any, rest, begins, inl (e, c, refl)), refl)
choice_in_hand tags as_arms reads decodes each any (Err e) (inr g) octets rest begins =
    let h = each any (Err e) g.1 octets rest begins in (h.0, inr (any, rest, begins, inr (g.0, h.1)), h.2)

-- What follows from an answer of the reader is so, too.
pub read_also : {T : Type 0} (reads more : List ℕ → Result (List ℕ × T) (Refusal Error) → Type 0) →
    ((octets : List ℕ) (given : Result (List ℕ × T) (Refusal Error)) → reads octets given → more octets given) →
    (any : Any) (answer : Result T Error) → IsReadAgain IsDerElement reads any answer →
    IsReadAgain IsDerElement (λ octets given. more octets given × reads octets given) any answer
read_also reads more follows any (Ok x) g octets rest begins =
    let h = g octets rest begins in (follows octets (Ok (rest, x)) h, h)
read_also reads more follows any (Err e) g octets rest begins =
    let h = g octets rest begins in (h.0, (follows octets (Err h.0) h.1, h.1), h.2)
