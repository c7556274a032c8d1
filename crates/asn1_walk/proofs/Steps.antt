-- The steps of a walk.
use Rattle.std.proofs.Common.{◌≡◌, ℕ, suc, ◌+◌, ◌≤◌, Bool, true, false, List, [], ◌∷◌, ◌++◌, length, reverse, refl, sym, ap}
use Rattle.std.proofs.Common.{◌∙◌, ◌-◌, arith, subst, length-append}
use Rattle.std.proofs.lemmas.List.{reverse-append, append-nil}
use Rattle.std.specs.Borrow.{Bor}
use Rattle.x690.specs.Lengths.{LengthForm, definite, indefinite}
use Rattle.x690.specs.Rules.{ber_rule}
use Rattle.x690.specs.Laws.Headers.{header_two}
use Rattle.asn1_headers.specs.Length.{form_of}
use Rattle.asn1_walk.specs.declared.line.Line.{Line}
use Rattle.asn1_walk.specs.declared.state.Frame.{Frame}
use Rattle.asn1_walk.specs.declared.state.Frame.TheVariants.{Counted, Marked}
use Rattle.asn1_walk.specs.Rooms.{octets_behind, is_marked, tail_of}
use Rattle.asn1_walk.specs.Rows.{Row, Outcome, ended, refused, at_end, at_fault, leaf, node, broken, AtEnd, BeginsWithLine, Opens, end_width, identifier_of_line}
use Rattle.asn1_walk.specs.Walks.{AreLinesToCome, marked_of}
use Rattle.asn1_walk.proofs.Coming.{node_next, end_next}

-- the last frame is the innermost
pub innermost : (before all : List Frame) (frame : Frame) → all ≡ before ++ frame ∷ [] →
    reverse all ≡ frame ∷ reverse before
innermost before all frame e = ap reverse e ∙ reverse-append before (frame ∷ [])

-- what is told of an element is told with any contents
pub with_content : (marked : Bool) (depth offset : ℕ) (octets : List ℕ) (line : Line) (after : List ℕ)
    (content : Bor (List ℕ)) → BeginsWithLine marked depth offset octets line after →
    BeginsWithLine marked depth offset octets (record line { content = content }) after
with_content marked depth offset octets line after content t = record {
  not_end = t.not_end;
  header = t.header;
  header_is = t.header_is;
  is = t.is;
  depth_is = t.depth_is;
  offset_is = t.offset_is;
  header_len_is = t.header_len_is;
}

-- behind a header there are two octets less at least
pub header_passed : (marked : Bool) (depth offset : ℕ) (octets : List ℕ) (line : Line) (after : List ℕ) →
    BeginsWithLine marked depth offset octets line after → length after + 2 ≤ length octets
header_passed marked depth offset octets line after t =
    omega (
      arith,
      header_two ber_rule t.header (identifier_of_line line) (form_of line.length) t.header_is,
      ap length t.is,
      length-append t.header after,
    )

-- contents and what stands behind them are all that follows a header
pub opened_length : (form : LengthForm) (after : List ℕ) (marked : Bool) (content tail : List ℕ) →
    Opens form after marked content tail → length content + length tail ≡ length after
opened_length (definite n) after marked content tail o =
    omega (arith, ap length o.2, length-append content tail)
opened_length indefinite after marked content tail o = omega (arith, ap length o.1, ap length o.2)

-- where a walk over octets comes out: with the offset of what is left behind its end, or within them
abbrev pub ComesOutAt : ℕ → Outcome → Type 0
ComesOutAt n (ended at rest) = at + length rest ≡ n
ComesOutAt n (refused at fault) = at ≤ n

pub comes_out : (marked : Bool) (depth offset : ℕ) (octets : List ℕ) (lines : List Line) (outcome : Outcome) →
    Row marked depth offset octets lines outcome → ComesOutAt (offset + length octets) outcome
comes_out _ _ _ _ _ _ (at_end true depth offset octets rest e) =
    omega (arith, ap length e)
comes_out _ _ _ _ _ _ (at_end false depth offset octets rest e) =
    omega (arith, ap length e.0, ap length e.1)
comes_out _ _ _ _ _ _ (at_fault marked depth offset octets fault not_end why) = omega arith
comes_out _ _ _ _ _ _ (leaf marked depth offset octets line rest lines outcome t primitive form row) =
    let n : offset + line.header_len + length line.content.now + length rest ≡ offset + length octets =
    omega (
      arith,
      t.header_len_is,
      ap length t.is,
      length-append t.header (line.content.now ++ rest),
      length-append line.content.now rest,
    ) in
    subst (λ (m : ℕ). ComesOutAt m outcome) n (comes_out _ _ _ _ _ _ row)
comes_out _ _ _ _ _ _ (node marked depth offset octets line after inner_marked tail inner at left lines outcome t
    constructed opens row others) =
    let n : at + length (left ++ tail) ≡ offset + length octets =
    omega (
      arith,
      comes_out _ _ _ _ _ _ row,
      t.header_len_is,
      ap length t.is,
      length-append t.header after,
      length-append left tail,
      opened_length (form_of line.length) after inner_marked line.content.now tail opens,
    ) in
    subst (λ (m : ℕ). ComesOutAt m outcome) n (comes_out _ _ _ _ _ _ others)
comes_out _ _ _ _ _ _ (broken marked depth offset octets line after inner_marked tail inner at fault t constructed
    opens row) =
    omega (
      arith,
      comes_out _ _ _ _ _ _ row,
      t.header_len_is,
      ap length t.is,
      length-append t.header after,
      opened_length (form_of line.length) after inner_marked line.content.now tail opens,
    )

-- an element is opened
pub opened : (frames more : List Frame) (frame : Frame) (offset : ℕ) (view : List ℕ) (line : Line)
    (after : List ℕ) → more ≡ frames ++ frame ∷ [] →
    BeginsWithLine (marked_of (reverse frames)) (length (reverse frames)) offset view line after →
    line.constructed ≡ true →
    Opens (form_of line.length) after (is_marked frame) line.content.now (tail_of frame) → (lines : List Line)
    (outcome : Outcome) → AreLinesToCome (reverse more) (offset + line.header_len) line.content.now lines outcome →
    AreLinesToCome (reverse frames) offset view (line ∷ lines) outcome
opened frames more frame offset view line after e t constructed opens lines outcome g =
    node_next (reverse frames) frame offset view line after (offset + line.header_len) t constructed opens refl
    lines outcome (subst (λ (fs : List Frame). AreLinesToCome fs (offset + line.header_len) line.content.now lines
    outcome)
    (innermost frames more frame e) g)

-- fewer steps are left then
pub opened_fewer : (frames more : List Frame) (frame : Frame) (offset : ℕ) (view : List ℕ) (line : Line)
    (after : List ℕ) → more ≡ frames ++ frame ∷ [] →
    BeginsWithLine (marked_of (reverse frames)) (length (reverse frames)) offset view line after →
    Opens (form_of line.length) after (is_marked frame) line.content.now (tail_of frame) →
    suc (length line.content.now + octets_behind (reverse more) + length more) ≤ length view + octets_behind (reverse frames) + length frames
opened_fewer frames more frame offset view line after e t opens =
    omega (
      arith,
      header_passed _ _ offset view line after t,
      opened_length (form_of line.length) after (is_marked frame) line.content.now (tail_of frame) opens,
      ap octets_behind (innermost frames more frame e),
      ap length e,
      length-append frames (frame ∷ []),
    )

closed_width : (frame : Frame) (view left : List ℕ) → AtEnd (is_marked frame) view left →
    length left ≤ length view
closed_width (Counted tail) view left e = omega (arith, ap length e.1)
closed_width Marked view left e = omega (arith, ap length e)

-- open contents are closed
pub closed : (frames fewer : List Frame) (frame : Frame) (offset next : ℕ) (view left looked : List ℕ) →
    frames ≡ fewer ++ frame ∷ [] → AtEnd (is_marked frame) view left → looked ≡ left ++ tail_of frame →
    next ≡ offset + end_width (is_marked frame) → (lines : List Line) (outcome : Outcome) →
    AreLinesToCome (reverse fewer) next looked lines outcome → AreLinesToCome (reverse frames) offset view lines outcome
closed frames fewer frame offset next view left looked e end l n lines outcome g =
    subst (λ (fs : List Frame). AreLinesToCome fs offset view lines outcome) (sym (innermost fewer frames frame e))
    (end_next (reverse fewer) frame offset view left next end n lines outcome
    (subst (λ (v : List ℕ). AreLinesToCome (reverse fewer) next v lines outcome) l g))

-- fewer steps are left then
pub closed_fewer : (frames fewer : List Frame) (frame : Frame) (view left looked : List ℕ) →
    frames ≡ fewer ++ frame ∷ [] → AtEnd (is_marked frame) view left → looked ≡ left ++ tail_of frame →
    suc (length looked + octets_behind (reverse fewer) + length fewer) ≤ length view + octets_behind (reverse frames) +
    length frames
closed_fewer frames fewer frame view left looked e end l =
    omega (
      arith,
      ap length l,
      length-append left (tail_of frame),
      closed_width frame view left end,
      ap octets_behind (innermost fewer frames frame e),
      ap length e,
      length-append fewer (frame ∷ []),
    )

-- what is looked at when counted contents end, or marked ones
abbrev pub next_view : Frame → List ℕ → List ℕ
next_view (Counted tail) left = tail.now
next_view Marked left = left

pub at_end_of : (frames fewer : List Frame) (frame : Frame) (view left : List ℕ) → frames ≡ fewer ++ frame ∷ [] →
    AtEnd (marked_of (reverse frames)) view left → AtEnd (is_marked frame) view left
at_end_of frames fewer frame view left e end =
    subst (λ (fs : List Frame). AtEnd (marked_of fs) view left) (innermost fewer frames frame e) end

pub closed_view : (frame : Frame) (view left looked : List ℕ) → AtEnd (is_marked frame) view left →
    looked ≡ next_view frame left → looked ≡ left ++ tail_of frame
closed_view (Counted tail) view left looked e l = l ∙ ap (λ (l : List ℕ). l ++ tail.now) (sym e.1)
closed_view Marked view left looked e l = l ∙ sym (append-nil left)

pub closed_offset : (frame : Frame) (view left : List ℕ) → AtEnd (is_marked frame) view left →
    length view - length left ≡ end_width (is_marked frame)
closed_offset (Counted tail) view left e = omega (arith, ap length e.0, ap length e.1)
closed_offset Marked view left e = omega (arith, ap length e)
