-- What readers of strings may answer.
use Rattle.std.specs.Prelude.{ℕ, Bool, List, ◌++◌, ◌≡◌, ◌↔◌, suc, map, Result, Ok, Err, IsTrue}
use Rattle.x690.specs.Elements.{Parts}
use Rattle.x690.specs.Joined.{IsConcatenation}
use Rattle.asn1_schema.specs.declared.fault.Fault.{Fault}
use Rattle.asn1_schema.specs.declared.coding.Coding.{Coding}
use Rattle.asn1_schema.specs.declared.tape.Item.{Item}
use Rattle.asn1_schema.specs.declared.pieces.Sort.{Sort}
use Rattle.asn1_schema.specs.declared.pieces.Sort.TheVariants as sorts
use Rattle.asn1_schema.specs.Values.{LeafValue, bits, octets, text, time, Value, leaf, joined}
use Rattle.asn1_schema.specs.Grammar.{StringOf, Says, AllButLast, IsUniversal, IsString, IsText, of_octets, of_bits}
use Rattle.asn1_schema.specs.Tape.{Kept, Mark, mark, marks, leaf_mark, value_of, tape_of}
use Rattle.asn1_schema.specs.Reading.{rules_of, UnlessMemory}

-- what strings of a sort are lists of
abbrev pub Elem : Sort → Type 0
Elem sorts.Octets = ℕ
Elem (sorts.Text kind) = ℕ
Elem (sorts.Time kind) = ℕ
Elem sorts.Bits = Bool

abbrev pub leaf_of : (s : Sort) → List (Elem s) → LeafValue
leaf_of sorts.Octets o = octets o
leaf_of (sorts.Text kind) o = text kind o
leaf_of (sorts.Time kind) o = time kind o
leaf_of sorts.Bits bs = bits bs

abbrev pub string_of : Coding → (s : Sort) → StringOf (Elem s)
string_of e sorts.Octets = of_octets
string_of e (sorts.Text kind) = of_octets
string_of e (sorts.Time kind) = of_octets
string_of e sorts.Bits = of_bits (rules_of e)

abbrev pub piece_mark : (s : Sort) → List (Elem s) → Mark
piece_mark s xs = leaf_mark (leaf_of s xs)

-- what is asked of octets that are text, or a time
abbrev pub IsSaid : Coding → (s : Sort) → List (Elem s) → Type 0
IsSaid e sorts.Octets o = Unit {0}
IsSaid e (sorts.Text kind) o = IsText kind o
IsSaid e (sorts.Time kind) o = (rules_of e).Time kind o
IsSaid e sorts.Bits bs = Unit {0}

-- a piece of a string, at a depth
abbrev pub IsPiece : {A : Type 0} → Coding → StringOf A → ℕ → Parts → List A → Type 0
IsPiece e S depth p xs = IsUniversal S.number p.id × IsString (rules_of e) S depth p xs

-- contents octets are pieces, which are joined
abbrev pub ArePieces : {A : Type 0} → Coding → StringOf A → ℕ → List ℕ → List A → Type 0
ArePieces {A} e S depth content xs = (pieces : List (List A)) × (xs ≡ joined pieces) × AllButLast S.Whole pieces ×
    IsConcatenation (Says (rules_of e) (IsPiece e S depth)) content pieces

-- a string of a sort; one in one piece, and one in several
abbrev pub IsStringOf : Coding → Sort → ℕ → Parts → Value → Type 0
IsStringOf e s depth p v = (xs : List (Elem s)) × (v ≡ leaf (leaf_of s xs)) ×
    IsString (rules_of e) (string_of e s) (suc depth) p xs × IsSaid e s xs

abbrev pub IsPrimitiveOf : Coding → Sort → List ℕ → Value → Type 0
IsPrimitiveOf e s content v = (xs : List (Elem s)) × (v ≡ leaf (leaf_of s xs)) × (string_of e s).Content content xs ×
    IsSaid e s xs

abbrev pub IsConstructedOf : Coding → Sort → ℕ → List ℕ → Value → Type 0
IsConstructedOf e s depth content v = (xs : List (Elem s)) × (v ≡ leaf (leaf_of s xs)) ×
    ArePieces e (string_of e s) depth content xs × IsSaid e s xs

-- an item is what contents octets say, and it is told whether others may follow
pub record SaysPiece (e : Coding) (s : Sort) (octets : List ℕ) (item : Item) (follow : Bool) : Type 0 where
  pub said : List (Elem s)
  pub content : (string_of e s).Content octets said
  pub is : mark item ≡ piece_mark s said
  pub whole : IsTrue follow ↔ (string_of e s).Whole said

-- A string with this property was put on the tape, in pieces, and it is told whether others may follow.
pub record PutsPieces (e : Coding) (s : Sort) (P : List (Elem s) → Type 0) (follow : Bool) (old new : List Item) : Type 0 where
  pub pieces : List (List (Elem s))
  pub holds : P (joined pieces)
  pub is : marks new ≡ marks old ++ map (piece_mark s) pieces
  pub whole : IsTrue follow ↔ (string_of e s).Whole (joined pieces)

abbrev pub ReadsPieces : (e : Coding) (s : Sort) → (List (Elem s) → Type 0) → List Item → List Item →
    Result Bool Fault → Type 0
ReadsPieces e s P old new (Ok follow) = PutsPieces e s P follow old new
ReadsPieces e s P old new (Err x) = UnlessMemory x ((xs : List (Elem s)) → P xs → ⊥)

-- pieces are closed: a value of what they join to
pub record ClosesPieces (s : Sort) (pieces : List (List (Elem s))) (front : List Mark) (new : List Item) : Type 0 where
  pub kept : Kept
  pub value : value_of kept ≡ leaf (leaf_of s (joined pieces))
  pub is : marks new ≡ front ++ tape_of kept
