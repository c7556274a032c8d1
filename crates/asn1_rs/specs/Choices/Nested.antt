-- A choice as one of the arms of another choice.
pub mod Data
use Rattle.std.specs.Prelude.{◌≡◌, ◌⊎◌, ◌||◌, ◌&&◌, ℕ, Bool, true, false, List, [], ◌∷◌, ◌++◌, Result, Ok, Err, not}
use Rattle.std.proofs.Common.{inl, inr}
use Rattle.asn1_rs.specs.Checks.{CheckGives}
use Rattle.asn1_rs.specs.Grammar.Item.{ItemGrammar}
use Rattle.asn1_rs.specs.Prelude.{has_a_tag}
use Rattle.asn1_rs.specs.Choices.{ArmsGrammar, ChosenArm, InArm, ByTag, CheckByTag, is_tag_among}
use Rattle.asn1_rs.specs.declared.choices.nested.OrChoice.{OrChoice}
use Rattle.asn1_rs.specs.declared.choices.nested.OrChoice.TheVariants as part

-- none of the first tags is one of the second
abbrev pub no_tag_in_common : List (ℕ × ℕ) → List (ℕ × ℕ) → Bool
no_tag_in_common [] others = true
no_tag_in_common (tag ∷ tags) others = not (is_tag_among tag.0 tag.1 others) && no_tag_in_common tags others

abbrev pub or_choice_value : {A B V W : Type 0} → (A → V) → (B → W) → OrChoice A B → V ⊎ W
or_choice_value f g (part.This x) = inl (f x)
or_choice_value f g (part.Other y) = inr (g y)

-- A choice whose arms have these tags, and the other arms. What has one of its tags is its own.
abbrev pub or_choice : {A B : Type 0} → List (ℕ × ℕ) → ItemGrammar A → ArmsGrammar B → ArmsGrammar (OrChoice A B)
or_choice tags G H = record {
  Value = G.Value ⊎ H.Value;
  value = or_choice_value G.value H.value;
  IsValue = InArm G.IsValue H.IsValue;
  IsDer = InArm G.IsDer H.IsDer;
  Der = λ i o. ByTag (has_a_tag tags i) (G.Der o) (H.Der i o);
  Body = λ p. ByTag (has_a_tag tags p.id) (G.Body p) (H.Body p);
  Check = λ p. CheckByTag (has_a_tag tags p.id) (G.Check p) (H.Check p);
  Form = λ v i c. InArm (λ x. G.Form x i c) (λ y. H.Form y i c) v;
  tags = tags ++ H.tags;
  allocates = G.allocates || H.allocates;
}

-- the arm that a value is of: one of the choice, or one of the others
abbrev pub or_choice_chosen : {A B : Type 0} → (A → ChosenArm) → (B → ChosenArm) → OrChoice A B → ChosenArm
or_choice_chosen first others (part.This x) = first x
or_choice_chosen first others (part.Other y) = others y

-- What a reader of arms may answer that hands on to the reader of the choice, or to the reader of the others.
abbrev pub OrChoiceReads : {A B E : Type 0} → Bool → (List ℕ → Result (List ℕ × A) E → Type 0) →
    (List ℕ → Result (List ℕ × B) E → Type 0) → List ℕ → Result (List ℕ × OrChoice A B) E → Type 0
OrChoiceReads told first others input (Ok (rest, part.This x)) = (told ≡ true) × first input (Ok (rest, x))
OrChoiceReads told first others input (Ok (rest, part.Other y)) = (told ≡ false) × others input (Ok (rest, y))
OrChoiceReads told first others input (Err r) =
    ((told ≡ true) × first input (Err r)) ⊎ ((told ≡ false) × others input (Err r))

-- what their conversion may
abbrev pub OrChoiceGives : {A B E : Type 0} → Bool → (Result A E → Type 0) → (Result B E → Type 0) →
    Result (OrChoice A B) E → Type 0
OrChoiceGives told first others (Ok (part.This x)) = (told ≡ true) × first (Ok x)
OrChoiceGives told first others (Ok (part.Other y)) = (told ≡ false) × others (Ok y)
OrChoiceGives told first others (Err e) = ((told ≡ true) × first (Err e)) ⊎ ((told ≡ false) × others (Err e))

-- and what their check may
abbrev pub OrChoiceChecks : List (ℕ × ℕ) → CheckGives → CheckGives → CheckGives
OrChoiceChecks tags first others p answer =
    CheckByTag (has_a_tag tags p.id) (first p answer) (others p answer)
