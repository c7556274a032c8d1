-- From the tape of a value to its end.
use Rattle.std.proofs.Common.{◌≡◌, ◌∙◌, ap, sym, refl, subst, ℕ, ◌+◌, List, [], ◌∷◌, ◌++◌, append-nil, length, reverse, Option, Some, None, MatchOption, arith}
use Rattle.json.specs.Token.{Token}
use Rattle.asn1_schema.specs.Tape.{Kept, Mark, tape_of, value_of}
use Rattle.asn1_json.specs.declared.walk.Frame.{Frame}
use Rattle.asn1_json.specs.declared.walk.Frame.TheVariants as frames
use Rattle.asn1_json.specs.Tokens.{Types, tokens_of}
use Rattle.asn1_json.specs.Walk.{Await, Advances, AwaitNot, Steps}
use Rattle.asn1_json.proofs.Steps.{last_first, goes_on}

-- no step
pub goes_nowhere : (types : Types) (fs gs : List Frame) (here : List Mark) (old : List Token) → gs ≡ fs →
    Advances types fs here gs here old old
goes_nowhere types fs gs here old same = λ shown w.
    (shown, subst (λ (x : List Frame). Await types x here shown) (sym same) w, refl)

-- the frame that a step takes off is the last one
popped_first : (before popped : List Frame) (f : Frame) → before ≡ popped ++ f ∷ [] → reverse before ≡ f ∷ reverse popped
popped_first before popped f is = ap (λ (x : List Frame). reverse x) is ∙ last_first popped f

-- one step more
pub goes_step : (types : Types) (start before popped after : List Frame) (f : Frame) (here mid behind : List Mark)
    (old now new : List Token) → before ≡ popped ++ f ∷ [] → Advances types start here (reverse before) mid old now →
    Steps types (f ∷ reverse popped) mid (reverse after) behind now new → Advances types start here (reverse after) behind old new
goes_step types start before popped after f here mid behind old now new is goes step =
    goes_on types start (f ∷ reverse popped) (reverse after) here mid behind old now new
    (subst (λ (x : List Frame). Advances types start here x mid old now) (popped_first before popped f is) goes)
    step.goes

-- what is taken from none
pub none_left : {X : Type 0} (r : Option X) (n m : ℕ) → ((x : X) → r ≡ Some x → ⊥) →
    MatchOption r ((n ≡ 0) × (m ≡ 0)) (λ _. m + 1 ≡ n) → n ≡ 0
none_left None n m not told = told.0
none_left (Some x) n m not told = absurd (not x refl)

-- no frame is left
pub no_frames : (fs : List Frame) → length fs ≡ 0 → reverse fs ≡ []
no_frames [] none = refl
no_frames (f ∷ fs) none = absurd (omega (arith, none))

module _ (types : Types) (of : Option ℕ) (gs : List Frame) (here behind : List Mark) (old new : List Token)
    (goes : Advances types (frames.Value of ∷ []) here gs behind old new) (kept : Kept) (at : here ≡ tape_of kept) where
  -- what is awaited there
  awaited : (others : List Token) × Await types gs behind others ×
      (old ++ (tokens_of types of (value_of kept) ++ []) ≡ new ++ others)
  awaited = goes (tokens_of types of (value_of kept) ++ []) (kept, [], [], at ∙ sym (append-nil (tape_of kept)), refl, (refl, refl))

  at_end : gs ≡ [] → Await types [] behind awaited.0
  at_end none = subst (λ (x : List Frame). Await types x behind awaited.0) none awaited.1

  -- at the end all tokens are written, and no mark is left
  pub whole_goes : gs ≡ [] → new ≡ old ++ tokens_of types of (value_of kept)
  whole_goes none =
      let tokens = tokens_of types of (value_of kept) in
      sym (append-nil new) ∙ ap (λ (ts : List Token). new ++ ts) (sym (at_end none).1) ∙ sym awaited.2
      ∙ ap (λ (ts : List Token). old ++ ts) (append-nil tokens)

  pub whole_left : gs ≡ [] → behind ≡ []
  whole_left none = (at_end none).0

  -- a frame awaits what is there
  pub whole_awaits : (before popped : List Frame) (f : Frame) → gs ≡ reverse before → before ≡ popped ++ f ∷ [] →
      AwaitNot types (f ∷ reverse popped) behind → ⊥
  whole_awaits before popped f same is not =
      not awaited.0 (subst (λ (x : List Frame). Await types x behind awaited.0) (same ∙ popped_first before popped f is) awaited.1)
