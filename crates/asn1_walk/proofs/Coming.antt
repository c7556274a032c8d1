-- What a step does to what is still to come.
use Rattle.std.proofs.Common.{◌≡◌, ℕ, suc, ◌+◌, true, false, List, [], ◌∷◌, ◌++◌, length, reverse, refl, sym, ap}
use Rattle.std.proofs.Common.{◌∙◌, arith, subst, inl, inr, append_assoc}
use Rattle.x690.specs.Lengths.{definite}
use Rattle.x690.specs.Faults.{Fault}
use Rattle.asn1_headers.specs.Length.{form_of}
use Rattle.asn1_walk.specs.declared.line.Line.{Line}
use Rattle.asn1_walk.specs.declared.state.Frame.{Frame}
use Rattle.asn1_walk.specs.Rooms.{is_marked, tail_of}
use Rattle.asn1_walk.specs.Rows.{Row, Outcome, ended, refused, at_end, at_fault, leaf, node, broken, AtEnd, NoElement}
use Rattle.asn1_walk.specs.Rows.{BeginsWithLine, Opens, end_width}
use Rattle.asn1_walk.specs.Walks.{AreLinesToCome, marked_of}

-- lines that stand in front of any row that goes on here stand in front of all that is to come
pub in_front : (frames : List Frame) (offset next : ℕ) (view rest : List ℕ) (before : List Line) →
    ((lines : List Line) (outcome : Outcome) → Row (marked_of frames) (length frames) next rest lines outcome →
    Row (marked_of frames) (length frames) offset view (before ++ lines) outcome) →
    (lines : List Line) (outcome : Outcome) → AreLinesToCome frames next rest lines outcome →
    AreLinesToCome frames offset view (before ++ lines) outcome
unfolding AreLinesToCome
in_front [] offset next view rest before row lines outcome g = row lines outcome g
in_front (frame ∷ frames) offset next view rest before row lines outcome (inl g) =
    inl (g.0, g.1, g.2, row lines (refused g.0 g.1) g.3)
in_front (frame ∷ frames) offset next view rest before row lines outcome (inr g) =
    inr (
      before ++ g.0,
      g.1,
      g.2,
      g.3,
      ap (λ (ls : List Line). before ++ ls) g.4 ∙ sym (append_assoc before g.0 g.1),
      row g.0 (ended g.2 g.3) g.5,
      g.6,
    )

-- where a row is broken off, all is
pub stops : (frames : List Frame) (offset : ℕ) (view : List ℕ) (lines : List Line) (at : ℕ) (fault : Fault) →
    Row (marked_of frames) (length frames) offset view lines (refused at fault) →
    AreLinesToCome frames offset view lines (refused at fault)
unfolding AreLinesToCome
stops [] offset view lines at fault row = row
stops (frame ∷ frames) offset view lines at fault row = inl (at, fault, refl, row)

-- a primitive element comes next
pub leaf_next : (frames : List Frame) (offset : ℕ) (view : List ℕ) (line : Line) (rest : List ℕ) (next : ℕ) →
    BeginsWithLine (marked_of frames) (length frames) offset view line (line.content.now ++ rest) →
    line.constructed ≡ false →
    form_of line.length ≡ definite (length line.content.now) →
    next ≡ offset + line.header_len + length line.content.now →
    (lines : List Line) (outcome : Outcome) → AreLinesToCome frames next rest lines outcome →
    AreLinesToCome frames offset view (line ∷ lines) outcome
leaf_next frames offset view line rest next tells primitive form e lines outcome g =
    in_front frames offset next view rest (line ∷ []) (λ ls out row.
    leaf (marked_of frames) (length frames) offset view line rest ls out tells primitive form
    (subst (λ (n : ℕ). Row (marked_of frames) (length frames) n rest ls out) e row)) lines outcome g

-- an element is opened
pub node_next : (frames : List Frame) (frame : Frame) (offset : ℕ) (view : List ℕ) (line : Line)
    (after : List ℕ) (next : ℕ) → BeginsWithLine (marked_of frames) (length frames) offset view line after →
    line.constructed ≡ true → Opens (form_of line.length) after (is_marked frame) line.content.now (tail_of frame) →
    next ≡ offset + line.header_len → (lines : List Line) (outcome : Outcome) →
    AreLinesToCome (frame ∷ frames) next line.content.now lines outcome →
    AreLinesToCome frames offset view (line ∷ lines) outcome
unfolding AreLinesToCome
node_next frames frame offset view line after next tells constructed opens e lines outcome (inl g) =
    subst (λ (o : Outcome). AreLinesToCome frames offset view (line ∷ lines) o) (sym g.2)
    (stops frames offset view (line ∷ lines) g.0 g.1
    (broken (marked_of frames) (length frames) offset view line after (is_marked frame) (tail_of frame) lines
    g.0 g.1 tells constructed opens
    (subst (λ (n : ℕ). Row (is_marked frame) (suc (length frames)) n line.content.now lines (refused g.0 g.1)) e g.3)))
node_next frames frame offset view line after next tells constructed opens e lines outcome (inr g) =
    subst (λ (ls : List Line). AreLinesToCome frames offset view (line ∷ ls) outcome) (sym g.4)
    (in_front frames offset g.2 view (g.3 ++ tail_of frame) (line ∷ g.0) (λ ls out row.
    node (marked_of frames) (length frames) offset view line after (is_marked frame) (tail_of frame) g.0 g.2
    g.3 ls out tells constructed opens
    (subst (λ (n : ℕ). Row (is_marked frame) (suc (length frames)) n line.content.now g.0 (ended g.2 g.3)) e g.5) row)
    g.1 outcome g.6)

-- open contents end
pub end_next : (frames : List Frame) (frame : Frame) (offset : ℕ) (view left : List ℕ) (next : ℕ) →
    AtEnd (is_marked frame) view left → next ≡ offset + end_width (is_marked frame) → (lines : List Line)
    (outcome : Outcome) → AreLinesToCome frames next (left ++ tail_of frame) lines outcome →
    AreLinesToCome (frame ∷ frames) offset view lines outcome
unfolding AreLinesToCome
end_next frames frame offset view left next end e lines outcome g =
    inr (
      [],
      lines,
      next,
      left,
      refl,
      subst (λ (n : ℕ). Row (is_marked frame) (suc (length frames)) offset view [] (ended n left)) (sym e)
          (at_end (is_marked frame) (suc (length frames)) offset view left end),
      g,
    )

-- all ends
pub all_end : (offset : ℕ) (view : List ℕ) → view ≡ [] → AreLinesToCome [] offset view [] (ended offset [])
unfolding AreLinesToCome
all_end offset view e =
    let n : offset + 0 ≡ offset = omega arith in
    subst (λ (m : ℕ). Row false 0 offset view [] (ended m [])) n (at_end false 0 offset view [] (e, refl))

-- no element comes next
pub fault_next : (frames : List Frame) (offset : ℕ) (view : List ℕ) (fault : Fault) →
    ((rest : List ℕ) → AtEnd (marked_of frames) view rest → ⊥) → NoElement view fault →
    AreLinesToCome frames offset view [] (refused offset fault)
fault_next frames offset view fault not_end why =
    stops frames offset view [] offset fault (at_fault (marked_of frames) (length frames) offset view fault not_end why)

-- a walk that begins has all lines before it
pub begun : (frames : List Frame) (offset : ℕ) (view octets : List ℕ) → frames ≡ [] → offset ≡ 0 → view ≡ octets →
    (lines : List Line) (outcome : Outcome) → AreLinesToCome (reverse frames) offset view lines outcome →
    Row false 0 0 octets lines outcome
unfolding AreLinesToCome
begun [] offset view octets e o v lines outcome g =
    subst (λ (n : ℕ). Row false 0 n octets lines outcome) o
    (subst (λ (w : List ℕ). Row false 0 offset w lines outcome) v g)
begun (frame ∷ frames) offset view octets e o v lines outcome g = cc
