use Rattle.std.proofs.Common.{arith, ap, subst, List}
use Rattle.std.proofs.lemmas.Option.{slice_get-get_or}
use Rattle.asn1_schema.specs.Tape.{Mark, mark}
use Rattle.asn1_schema.specs.Sizes.{pieces_measure}
use Rattle.asn1_schema.specs.Reading.{JudgesBounds}
use Rattle.asn1_schema.proofs.Bounded.{judged, judged_pieces, judged_row, no_place}
use Rattle.asn1_schema.proofs.bounds.judge_bounds.Goals as goal

pub returns-in-Begin : goal.returns-in-Begin
returns-in-Begin c = λ front kept e p. judged_row c.args.lower c.args.upper c.args.tape.now c.args.place _ _ c.row_within.result
    front kept e p (slice_get-get_or c.args.tape.now c.args.place _ (grind (arith, c.if-place-tape.false))) (ap mark c.in-Begin.is)
    (λ ks f. c.row_within.ensures front ks f p)

pub returns-in-Pieces : goal.returns-in-Pieces
returns-in-Pieces c = λ front kept e p. judged_pieces c.args.lower c.args.upper c.args.tape.now c.args.place _ _
    c.pieces_within.result front kept e p
    (slice_get-get_or c.args.tape.now c.args.place _ (grind (arith, c.if-place-tape.false))) (ap mark c.in-Pieces.is)
    (λ inner first last f. subst (λ (ms : List Mark). JudgesBounds c.args.lower c.args.upper (pieces_measure ms) c.pieces_within.result)
    (c.inner_items.ensures front inner first last f p) c.pieces_within.ensures)

pub returns-in_default : goal.returns-in_default
returns-in_default c = λ front kept e p. judged c.args.lower c.args.upper c.args.tape.now c.args.place _ c.item_within.result front kept e p
    (slice_get-get_or c.args.tape.now c.args.place _ (grind (arith, c.if-place-tape.false))) c.in_default.not-Begin
    c.in_default.not-Pieces c.item_within.ensures

pub returns-then-place-tape : goal.returns-then-place-tape
returns-then-place-tape c = λ front kept e p. absurd (no_place c.args.tape.now c.args.place front kept e p
    (grind (arith, c.if-place-tape.true)))
