-- Steps, and how many are left.
use Rattle.std.proofs.Common.{◌≡◌, ◌∙◌, ap, sym, refl, subst, Bool, true, false, ℕ, suc, ◌<◌, ◌≤◌, List, [], ◌∷◌, ◌++◌, length, reverse, drop, Option, nat_lt, arith}
use Rattle.std.proofs.lemmas.List.{length-map, drop-map}
use Rattle.json.specs.Token.{Token, begin_object, end_object, key}
use Rattle.asn1_schema.specs.Values.{LeafValue, Values, leaf}
use Rattle.asn1_schema.specs.declared.tape.Item.{Item}
use Rattle.asn1_schema.specs.Tape.{Kept, Mark, mark, marks, tape_of, value_of}
use Rattle.asn1_json.specs.declared.walk.Frame.{Frame}
use Rattle.asn1_json.specs.declared.walk.Frame.TheVariants as frames
use Rattle.asn1_json.specs.declared.front.Front.{Front}
use Rattle.asn1_json.specs.declared.front.Front.TheVariants as fronts
use Rattle.asn1_json.specs.declared.front.Opening.{Opening}
use Rattle.asn1_json.specs.declared.front.Opening.TheVariants as openings
use Rattle.asn1_json.specs.Leaves.{leaf_tokens}
use Rattle.asn1_json.specs.Types.{labels_at, resolved}
use Rattle.asn1_json.specs.Tokens.{Types, tokens_of_fields, type_of_arm, name_of_arm, type_of_members, count_of_fields}
use Rattle.asn1_json.specs.Walk.{front_of, items_end, AwaitNot, Steps, weight, steps_to_come, OpensRow, BeginsField}
use Rattle.asn1_json.proofs.Steps.{light, two_last, leaf_goes, row_goes, arm_goes, field_goes, fields_end, field_gone, item_goes, items_end_goes, item_gone, no_value}

-- a mark is taken
taken : (here behind : List Mark) (f : Front) → front_of here ≡ f → (f ≡ fronts.Nothing → ⊥) → behind ≡ drop 1 here →
    length behind < length here
taken [] behind f e some truncated = absurd (some (sym e))
taken (m ∷ ms) behind f e some truncated = let is = ap (λ (x : List Mark). length x) truncated in omega (arith, is)

-- so a step is made
fewer_behind : (f : Frame) (fs gs : List Frame) (here behind : List Mark) → length behind < length here →
    1 ≤ weight (f ∷ fs) → steps_to_come gs (length behind) < steps_to_come (f ∷ fs) (length here)
fewer_behind f fs gs here behind shorter some = let few = light gs in omega (arith, few, shorter, some)

-- a value is awaited where none was
fewer_frames : (f : Frame) (fs before after : List Frame) (g h : Frame) (here : List Mark) →
    after ≡ (before ++ g ∷ []) ++ h ∷ [] → weight (h ∷ g ∷ reverse before) ≡ 1 → weight (f ∷ fs) ≡ 2 →
    steps_to_come (reverse after) (length here) < steps_to_come (f ∷ fs) (length here)
fewer_frames f fs before after g h here is one two =
    let last : weight (reverse after) ≡ 1 = ap (λ (x : List Frame). weight (reverse x)) is ∙ ap weight (two_last before g h) ∙ one in
    omega (arith, last, two)

-- what stands there is not awaited
pub not_value : (types : Types) (of : Option ℕ) (fs : List Frame) (here : List Mark) (f : Front) → front_of here ≡ f →
    ((o : Opening) → f ≡ fronts.Value o → ⊥) → AwaitNot types (frames.Value of ∷ fs) here
not_value types of fs here f is not = no_value types of fs here (λ o e. not o (sym is ∙ e))

-- items and their marks
pub marks_behind : (xs ys : List Item) → ys ≡ drop 1 xs → marks ys ≡ drop 1 (marks xs)
marks_behind xs ys is = ap (λ (x : List Item). marks x) is ∙ sym (drop-map mark 1 xs)

pub fewer_marks : (xs ys : List Item) → length ys < length xs → length (marks ys) < length (marks xs)
fewer_marks xs ys shorter = let a = length-map xs mark in let b = length-map ys mark in omega (arith, a, b, shorter)

module _ (types : Types) (before : List Frame) (here behind : List Mark) (old new : List Token) where
  pub leaf_step : (of at : Option ℕ) → at ≡ resolved types.table of → front_of here ≡ fronts.Value openings.Leaf →
      length behind < length here →
      ((k : Kept) (rest : List Mark) → here ≡ tape_of k ++ rest → behind ≡ rest) →
      ((k : Kept) (rest : List Mark) (l : LeafValue) → here ≡ tape_of k ++ rest → value_of k ≡ leaf l →
      new ≡ old ++ leaf_tokens (labels_at types.names at) l) →
      Steps types (frames.Value of ∷ reverse before) here (reverse before) behind old new
  leaf_step of at same f shorter truncated written = record {
    goes = leaf_goes types of (reverse before) here behind old new f truncated
        (λ k rest l e v. written k rest l e v ∙ ap (λ (a : Option ℕ). old ++ leaf_tokens (labels_at types.names a) l) same);
    fewer = fewer_behind (frames.Value of) (reverse before) (reverse before) here behind shorter (omega arith);
  }

  pub fields_end_step : (at : Option ℕ) (place : ℕ) → front_of here ≡ fronts.Close → behind ≡ drop 1 here →
      new ≡ old ++ end_object ∷ [] → Steps types (frames.Fields at place ∷ reverse before) here (reverse before) behind old new
  fields_end_step at place f truncated written = record {
    goes = fields_end types at place (reverse before) here behind old new f truncated written;
    fewer = fewer_behind (frames.Fields at place) (reverse before) (reverse before) here behind (taken here behind fronts.Close f (λ e. cc) truncated) (omega arith);
  }

  pub items_end_step : (of : Option ℕ) (are_unknown : Bool) → front_of here ≡ fronts.Close → behind ≡ drop 1 here →
      new ≡ old ++ items_end are_unknown →
      Steps types (frames.Items of are_unknown ∷ reverse before) here (reverse before) behind old new
  items_end_step of are_unknown f truncated written = record {
    goes = items_end_goes types of are_unknown (reverse before) here behind old new f truncated written;
    fewer = fewer_behind (frames.Items of are_unknown) (reverse before) (reverse before) here behind (taken here behind fronts.Close f (λ e. cc) truncated) (omega arith);
  }

module _ (types : Types) (before after : List Frame) (here behind : List Mark) (old new : List Token) where
  pub row_step : (of at : Option ℕ) → at ≡ resolved types.table of → front_of here ≡ fronts.Value openings.Row →
      behind ≡ drop 1 here → OpensRow (type_of_members types at) at before after old new →
      Steps types (frames.Value of ∷ reverse before) here (reverse after) behind old new
  row_step of at same f truncated opens = record {
    goes = row_goes types of before after here behind old new f truncated
        (subst (λ (a : Option ℕ). OpensRow (type_of_members types a) a before after old new) same opens);
    fewer = fewer_behind (frames.Value of) (reverse before) (reverse after) here behind (taken here behind (fronts.Value openings.Row) f (λ e. cc) truncated) (omega arith);
  }

  pub arm_step : (of at : Option ℕ) (arm : ℕ) → at ≡ resolved types.table of →
      front_of here ≡ fronts.Value (openings.Arm arm) → behind ≡ drop 1 here →
      after ≡ (before ++ frames.ArmEnd ∷ []) ++ frames.Value (type_of_arm types at arm) ∷ [] →
      new ≡ (old ++ begin_object ∷ []) ++ key (name_of_arm types at arm) ∷ [] →
      Steps types (frames.Value of ∷ reverse before) here (reverse after) behind old new
  arm_step of at arm same f truncated opens written = record {
    goes = arm_goes types of arm before after here behind old new f truncated
        (opens ∙ ap (λ (a : Option ℕ). (before ++ frames.ArmEnd ∷ []) ++ frames.Value (type_of_arm types a arm) ∷ []) same)
        (written ∙ ap (λ (a : Option ℕ). (old ++ begin_object ∷ []) ++ key (name_of_arm types a arm) ∷ []) same);
    fewer = fewer_behind (frames.Value of) (reverse before) (reverse after) here behind (taken here behind (fronts.Value (openings.Arm arm)) f (λ e. cc) truncated) (omega arith);
  }

module _ (types : Types) (before after : List Frame) (here behind : List Mark) (old : List Token) where
  pub field_gone_step : (at : Option ℕ) (place next : ℕ) → front_of here ≡ fronts.Gone → behind ≡ drop 1 here →
      after ≡ before ++ frames.Fields at next ∷ [] →
      ((vs : Values) → tokens_of_fields types at next vs ≡ tokens_of_fields types at (suc place) vs) →
      Steps types (frames.Fields at place ∷ reverse before) here (reverse after) behind old old
  field_gone_step at place next f truncated more same = record {
    goes = field_gone types at place next before after here behind old f truncated more same;
    fewer = fewer_behind (frames.Fields at place) (reverse before) (reverse after) here behind (taken here behind fronts.Gone f (λ e. cc) truncated) (omega arith);
  }

  pub item_gone_step : (of : Option ℕ) (are_unknown : Bool) → front_of here ≡ fronts.Gone → behind ≡ drop 1 here →
      after ≡ before ++ frames.Items of are_unknown ∷ [] →
      Steps types (frames.Items of are_unknown ∷ reverse before) here (reverse after) behind old old
  item_gone_step of are_unknown f truncated more = record {
    goes = item_gone types of are_unknown before after here behind old f truncated more;
    fewer = fewer_behind (frames.Items of are_unknown) (reverse before) (reverse after) here behind (taken here behind fronts.Gone f (λ e. cc) truncated) (omega arith);
  }

module _ (types : Types) (before after : List Frame) (here : List Mark) (o : Opening) (old : List Token) where
  pub item_step : (of : Option ℕ) (are_unknown : Bool) → front_of here ≡ fronts.Value o →
      after ≡ (before ++ frames.Items of are_unknown ∷ []) ++ frames.Value of ∷ [] →
      Steps types (frames.Items of are_unknown ∷ reverse before) here (reverse after) here old old
  item_step of are_unknown f more = record {
    goes = item_goes types of are_unknown before after here o old f more;
    fewer = fewer_frames (frames.Items of are_unknown) (reverse before) before after (frames.Items of are_unknown) (frames.Value of) here more refl refl;
  }

  -- a field begins, or an unknown element
  begun : (b : Bool) (at : Option ℕ) (place : ℕ) (new : List Token) → BeginsField b types at place before after old new →
      (g : Frame) × (of : Option ℕ) × (after ≡ (before ++ g ∷ []) ++ frames.Value of ∷ [])
  begun true at place new begins = (_, _, begins.0)
  begun false at place new begins = (_, _, begins.0)

  pub field_step : (at : Option ℕ) (place : ℕ) (new : List Token) → front_of here ≡ fronts.Value o →
      BeginsField (nat_lt place (count_of_fields types at)) types at place before after old new →
      Steps types (frames.Fields at place ∷ reverse before) here (reverse after) here old new
  field_step at place new f begins =
      let b = begun (nat_lt place (count_of_fields types at)) at place new begins in record {
        goes = field_goes types at place before after here o old new f begins;
        fewer = fewer_frames (frames.Fields at place) (reverse before) before after b.0 (frames.Value b.1) here b.2 refl refl;
      }
