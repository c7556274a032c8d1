-- What is to come of a value that is half shown.
use Rattle.std.specs.Prelude.{ℕ, suc, ◌+◌, ◌*◌, Bool, List, [], ◌∷◌, ◌++◌, ◌≡◌, length, Option, Some, None, true, false, codes, ◌<◌, if◌then◌else◌}
use Rattle.json.specs.Token.{Token, begin_object, end_object, begin_array, end_array, key}
use Rattle.asn1_schema.specs.Tape.{Mark, leaf_mark, begin_mark, end_mark, absent_mark, arm_mark, arm_end_mark, pieces_mark, pieces_end_mark}
use Rattle.asn1_schema.specs.Tape.{Kept, KeptRow, value_of, values_of, tape_of, tapes_of}
use Rattle.asn1_json.specs.declared.walk.Frame.{Frame}
use Rattle.asn1_json.specs.declared.walk.Frame.TheVariants as frames
use Rattle.asn1_json.specs.declared.front.Front.{Front}
use Rattle.asn1_json.specs.declared.front.Front.TheVariants as fronts
use Rattle.asn1_json.specs.declared.front.Opening.TheVariants as openings
use Rattle.asn1_json.specs.Tokens.{Types, tokens_of, tokens_of_items, tokens_of_fields, type_of_field, type_of_unknown, name_of_field}

-- what begins with a mark
abbrev pub front_of_mark : Mark → Front
front_of_mark (leaf_mark l) = fronts.Value openings.Leaf
front_of_mark (pieces_mark n) = fronts.Value openings.Leaf
front_of_mark (begin_mark n) = fronts.Value openings.Row
front_of_mark (arm_mark arm) = fronts.Value (openings.Arm arm)
front_of_mark (end_mark n) = fronts.Close
front_of_mark absent_mark = fronts.Gone
front_of_mark (arm_end_mark arm) = fronts.ArmEnd
front_of_mark (pieces_end_mark n) = fronts.Nothing

abbrev pub front_of : List Mark → Front
front_of [] = fronts.Nothing
front_of (m ∷ ms) = front_of_mark m

-- the end of an array, and with unknown elements that of the object that they are in
abbrev pub items_end : Bool → List Token
items_end are_unknown = end_array ∷ (if are_unknown then end_object ∷ [] else [])

-- the pieces of a string begin
abbrev pub begins_pieces : List Mark → Bool
begins_pieces (pieces_mark n ∷ ms) = true
begins_pieces _ = false

-- Marks of a row that has these behind it.
abbrev pub row_marks : KeptRow → ℕ → List Mark → List Mark
row_marks ks n behind = tapes_of ks ++ end_mark n ∷ behind

-- What frames await, the innermost one first: these marks, and their tokens.
abbrev pub Await : Types → List Frame → List Mark → List Token → Type 0
Await types [] here shown = (here ≡ []) × (shown ≡ [])
Await types (frames.Value of ∷ fs) here shown = (kept : Kept) × (behind : List Mark) × (others : List Token) ×
    (here ≡ tape_of kept ++ behind) × (shown ≡ tokens_of types of (value_of kept) ++ others) × Await types fs behind others
Await types (frames.Items of are_unknown ∷ fs) here shown =
    (ks : KeptRow) × (n : ℕ) × (behind : List Mark) × (others : List Token) × (here ≡ row_marks ks n behind) ×
    (shown ≡ tokens_of_items types of (values_of ks) ++ (items_end are_unknown ++ others)) × Await types fs behind others
Await types (frames.Fields at place ∷ fs) here shown =
    (ks : KeptRow) × (n : ℕ) × (behind : List Mark) × (others : List Token) × (here ≡ row_marks ks n behind) ×
    (shown ≡ tokens_of_fields types at place (values_of ks) ++ end_object ∷ others) × Await types fs behind others
Await types (frames.ArmEnd ∷ fs) here shown = (arm : ℕ) × (behind : List Mark) × (others : List Token) ×
    (here ≡ arm_end_mark arm ∷ behind) × (shown ≡ end_object ∷ others) × Await types fs behind others

-- From marks that frames await, others are left that other frames await; the tokens between are written.
abbrev pub Advances : Types → List Frame → List Mark → List Frame → List Mark → List Token → List Token → Type 0
Advances types frames here left behind old new = (shown : List Token) → Await types frames here shown →
    (others : List Token) × Await types left behind others × (old ++ shown ≡ new ++ others)

-- no frames await these marks
abbrev pub AwaitNot : Types → List Frame → List Mark → Type 0
AwaitNot types frames here = (shown : List Token) → Await types frames here shown → ⊥

-- A step takes a mark at least, or awaits a value where none was awaited.
abbrev pub weight : List Frame → ℕ
weight [] = 0
weight (frames.Value of ∷ fs) = 1
weight (frames.Items of are_unknown ∷ fs) = 2
weight (frames.Fields at place ∷ fs) = 2
weight (frames.ArmEnd ∷ fs) = 2

abbrev pub steps_to_come : List Frame → ℕ → ℕ
steps_to_come frames items = 2 * items + weight frames

-- Each step makes them fewer.
pub record Steps (types : Types) (frames : List Frame) (here : List Mark) (left : List Frame) (behind : List Mark)
    (old new : List Token) : Type 0 where
  pub goes : Advances types frames here left behind old new
  pub fewer : steps_to_come left (length behind) < steps_to_come frames (length here)

-- A row begins: an array where it is known of what type its members are, and else an object.
abbrev pub OpensRow : Option ℕ → Option ℕ → List Frame → List Frame → List Token → List Token → Type 0
OpensRow None at before after old new =
    (after ≡ before ++ frames.Fields at 0 ∷ []) × (new ≡ old ++ begin_object ∷ [])
OpensRow (Some of) at before after old new =
    (after ≡ before ++ frames.Items (Some of) false ∷ []) × (new ≡ old ++ begin_array ∷ [])

-- A field begins, behind its name; or an unknown element does, in an array.
abbrev pub BeginsField : Bool → Types → Option ℕ → ℕ → List Frame → List Frame → List Token → List Token → Type 0
BeginsField true types at place before after old new =
    (after ≡ (before ++ frames.Fields at (suc place) ∷ []) ++ frames.Value (type_of_field types at place) ∷ []) ×
    (new ≡ old ++ key (name_of_field types at place) ∷ [])
BeginsField false types at place before after old new =
    (after ≡ (before ++ frames.Items (type_of_unknown types at) true ∷ []) ++ frames.Value (type_of_unknown types at) ∷ []) ×
    (new ≡ (old ++ key (codes "...") ∷ []) ++ begin_array ∷ [])
