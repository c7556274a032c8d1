-- What is still to come of a walk.
use Rattle.std.specs.Prelude.{◌≡◌, ℕ, suc, ◌+◌, ◌≤◌, Bool, true, false, List, [], ◌∷◌, ◌++◌, length, reverse, ◌⊎◌, Result, Ok, Err}
use Rattle.std.specs.Borrow.{Bor}
use Rattle.x690.specs.Lengths.{definite}
use Rattle.x690.specs.Faults.{Fault}
use Rattle.asn1_headers.specs.declared.error.Error.{Error}
use Rattle.asn1_headers.specs.declared.error.Err.{Err as Refusal}
use Rattle.asn1_headers.specs.declared.error.Err.TheVariants.{Incomplete as truncated}
use Rattle.asn1_headers.specs.declared.error.Needed.TheVariants.{Size}
use Rattle.asn1_headers.specs.Header.Reading.{ber_refusal}
use Rattle.asn1_walk.specs.declared.line.Line.{Line}
use Rattle.asn1_walk.specs.declared.state.Frame.{Frame}
use Rattle.asn1_walk.specs.declared.state.Walk.{Walk}
use Rattle.asn1_walk.specs.declared.walk.Step.{Step}
use Rattle.asn1_walk.specs.declared.walk.Step.TheVariants.{Line as an_element, Closed, End, Refused}
use Rattle.asn1_walk.specs.declared.walk.Ending.{Ending}
use Rattle.asn1_walk.specs.declared.walk.Ending.TheVariants.{Whole, Refused as Refused_at}
use Rattle.asn1_walk.specs.Rooms.{octets_behind, is_marked, tail_of}
use Rattle.asn1_walk.specs.Rows.{Row, Outcome, ended, refused, BeginsWithLine, Opens, AtEnd, NoElement, end_width}
use Rattle.asn1_headers.specs.Length.{form_of}

-- so many octets and the rest, or how many are missing
abbrev pub SplitsAt : ℕ → List ℕ → Result (Bor (List ℕ) × Bor (List ℕ)) (Refusal Error) → Type 0
SplitsAt n octets (Ok x) = (length x.0.now ≡ n) × (octets ≡ x.0.now ++ x.1.now)
SplitsAt n octets (Err r) = (lacking : ℕ) × (1 ≤ lacking) × (length octets + lacking ≡ n) ×
    (r ≡ truncated (Size lacking))

-- how the innermost contents that are open end
abbrev pub marked_of : List Frame → Bool
marked_of [] = false
marked_of (frame ∷ frames) = is_marked frame

-- The lines that are still to come, and how the walk comes out, where these contents are open (the innermost first).
-- They are the lines of the innermost row, and behind its end those of the rows around it.
unfoldable pub AreLinesToCome : List Frame → ℕ → List ℕ → List Line → Outcome → Type 0
AreLinesToCome [] offset view lines outcome = Row false 0 offset view lines outcome
AreLinesToCome (frame ∷ frames) offset view lines outcome =
    ((at : ℕ) × (fault : Fault) × (outcome ≡ refused at fault) ×
    Row (is_marked frame) (suc (length frames)) offset view lines (refused at fault)) ⊎
    ((inner others : List Line) × (at : ℕ) × (left : List ℕ) × (lines ≡ inner ++ others) ×
    Row (is_marked frame) (suc (length frames)) offset view inner (ended at left) ×
    AreLinesToCome frames at (left ++ tail_of frame) others outcome)

-- the same of a walk
abbrev pub Left : Walk → List Line → Outcome → Type 0
Left w lines outcome = AreLinesToCome (reverse w.frames.items) w.offset w.view.now lines outcome

-- the line tells of what comes next
abbrev pub Comes : Walk → Line → List ℕ → Type 0
Comes w line after =
    BeginsWithLine (marked_of (reverse w.frames.items)) (length (reverse w.frames.items)) w.offset w.view.now line after

-- the element that comes next has contents to go into, and this is kept of what stands behind them
abbrev pub CanOpen : Walk → Line → Frame → Type 0
CanOpen w line frame = (after : List ℕ) × Comes w line after × (line.constructed ≡ true) ×
    Opens (form_of line.length) after (is_marked frame) line.content.now (tail_of frame)

-- the element that comes next is primitive, and the rest follows its contents
abbrev pub CanPass : Walk → Line → List ℕ → Type 0
CanPass w line rest = Comes w line (line.content.now ++ rest) × (line.constructed ≡ false) ×
    (form_of line.length ≡ definite (length line.content.now))

-- a walk stands where it stood
abbrev pub Stays : Walk → Walk → Type 0
Stays old new = (new.view ≡ old.view) × (new.offset ≡ old.offset) × (new.frames.items ≡ old.frames.items)

-- the walk goes past the primitive element that comes next
abbrev pub Passes : Walk → Line → Walk → Type 0
Passes old line new = CanPass old line new.view.now ×
    (new.offset ≡ old.offset + line.header_len + length line.content.now) × (new.frames.items ≡ old.frames.items)

-- the walk goes into the contents of the element that comes next
abbrev pub Enters : Walk → Line → Walk → Type 0
Enters old line new = (frame : Frame) × CanOpen old line frame × (new.view.now ≡ line.content.now) ×
    (new.offset ≡ old.offset + line.header_len) × (new.frames.items ≡ old.frames.items ++ frame ∷ [])

-- the innermost contents that are open end here, and the walk goes on behind them
abbrev pub Leaves : Walk → Walk → Type 0
Leaves old new = (frame : Frame) × (left : List ℕ) × AtEnd (is_marked frame) old.view.now left ×
    (new.view.now ≡ left ++ tail_of frame) × (new.offset ≡ old.offset + end_width (is_marked frame)) ×
    (old.frames.items ≡ new.frames.items ++ frame ∷ [])

-- neither an end nor an element comes next
abbrev pub ComesNone : Walk → Fault → Type 0
ComesNone w fault = ((rest : List ℕ) → AtEnd (marked_of (reverse w.frames.items)) w.view.now rest → ⊥) ×
    NoElement w.view.now fault

-- What a step finds is what stands there: the element that comes next, the end of what is open, the end of all, or
-- octets that begin no element.
abbrev pub Finds : Step → Walk → Walk → Type 0
Finds (an_element line) old new = Passes old line new ⊎ Enters old line new
Finds Closed old new = Leaves old new
Finds End old new = (old.frames.items ≡ []) × (old.view.now ≡ []) × Stays old new
Finds (Refused r) old new = (fault : Fault) × ComesNone old fault × (r ≡ ber_refusal fault) × Stays old new

-- as many steps as a walk can still make, but for the last one
abbrev pub steps_left : Walk → ℕ
steps_left w = length w.view.now + octets_behind (reverse w.frames.items) + length w.frames.items

-- What a step says: what comes then is what came, without its line; or nothing comes.
abbrev pub Moves : Step → Walk → Walk → Type 0
Moves (an_element line) old new = (suc (steps_left new) ≤ steps_left old) ×
    ((lines : List Line) (outcome : Outcome) → Left new lines outcome → Left old (line ∷ lines) outcome)
Moves Closed old new = (suc (steps_left new) ≤ steps_left old) ×
    ((lines : List Line) (outcome : Outcome) → Left new lines outcome → Left old lines outcome)
Moves End old new = Left old [] (ended old.offset [])
Moves (Refused r) old new =
    (fault : Fault) × (r ≡ ber_refusal fault) × Left old [] (refused old.offset fault) × (new.offset ≡ old.offset)

-- the lines are those of the octets, as a row of elements that ends with them
abbrev pub ComesOut : List ℕ → List Line → Ending → Type 0
ComesOut octets lines Whole = Row false 0 0 octets lines (ended (length octets) [])
ComesOut octets lines (Refused_at at r) =
    (fault : Fault) × (r ≡ ber_refusal fault) × (at ≤ length octets) × Row false 0 0 octets lines (refused at fault)
