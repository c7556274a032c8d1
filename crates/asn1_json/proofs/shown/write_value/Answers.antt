use Rattle.std.proofs.Common.{◌≡◌, ap, refl, List, [], ◌∷◌, length, reverse, Some, arith}
use Rattle.std.proofs.lemmas.Bool.Decides.{nat_tests}
use Rattle.std.proofs.lemmas.List.{length-map}
use Rattle.asn1_schema.specs.Tape.{Mark, mark, marks}
use Rattle.asn1_json.specs.declared.walk.Frame.{Frame}
use Rattle.asn1_json.specs.declared.walk.Frame.TheVariants as awaited
use Rattle.asn1_json.specs.Tokens.{given_types}
use Rattle.asn1_json.proofs.SameErrors.{same_error}
use Rattle.asn1_json.proofs.Whole.{goes_nowhere, goes_step, whole_goes, whole_left, whole_awaits, no_frames, none_left}
use Rattle.asn1_json.proofs.shown.write_value.Goals as goal

pub loop-frame-init : goal.loop-frame-init
loop-frame-init g c = goes_nowhere (given_types c.args.types) (awaited.Value (Some c.args.of) ∷ [])
    (reverse c.in_ok-frames.frames.items) (marks c.args.tape.now) (g.W.TokenWriter.written c.args.out.now)
    (ap (λ (fs : List Frame). reverse fs) c.in_ok-frames.ensures.items)

pub returns-in_err-left-clause-none : goal.returns-in_err-left-clause-none
returns-in_err-left-clause-none g c = λ is kept at.
    whole_awaits (given_types c.args.types) (Some c.args.of) (reverse c.loop-frame.frames.items) (marks c.args.tape.now)
    (marks c.loop-frame.left.items.now) (g.W.TokenWriter.written c.args.out.now) (g.W.TokenWriter.written c.loop-frame.out)
    c.loop-frame.invariant kept at c.loop-frame.frames.items c.pop.new.self.items c.in-Some.frame
    refl c.in-Some.ensures.items (c.in_err-left.ensures.none (same_error c.from_residual-in_err-left.result _ _ c.from_residual-in_err-left.ensures.1 is))

pub loop-frame-preserved : goal.loop-frame-preserved
loop-frame-preserved g c =
    goes_step (given_types c.args.types) (awaited.Value (Some c.args.of) ∷ []) c.loop-frame.frames.items
    c.pop.new.self.items c.step.new.frames.items c.in-Some.frame (marks c.args.tape.now) (marks c.loop-frame.left.items.now)
    _ (g.W.TokenWriter.written c.args.out.now) (g.W.TokenWriter.written c.loop-frame.out)
    (g.W.TokenWriter.written c.step.new.out) c.in-Some.ensures.items c.loop-frame.invariant c.in_ok-left.ensures.ok

pub returns-then-not-is_empty-clause-none : goal.returns-then-not-is_empty-clause-none
returns-then-not-is_empty-clause-none g c = λ _ kept at.
    let none = whole_left (given_types c.args.types) (Some c.args.of) (reverse c.loop-frame.frames.items) (marks c.args.tape.now)
    (marks c.loop-frame.left.items.now) (g.W.TokenWriter.written c.args.out.now) (g.W.TokenWriter.written c.loop-frame.out)
    c.loop-frame.invariant kept at (no_frames c.loop-frame.frames.items (omega (arith, none_left c.pop.result _ _ c.in_default.not-Some c.pop.ensures.cases, c.loop-frame.frames.ok.0))) in
    let marked = length-map c.loop-frame.left.items.now mark in
    let all = ap (λ (ms : List Mark). length ms) none in
    let empty : length c.loop-frame.left.items.now ≡ 0 = omega (arith, marked, all) in
    absurd (grind (arith, nat_tests))

pub returns-clause-tokens : goal.returns-clause-tokens
returns-clause-tokens g c = λ kept at.
    whole_goes (given_types c.args.types) (Some c.args.of) (reverse c.loop-frame.frames.items) (marks c.args.tape.now)
    (marks c.loop-frame.left.items.now) (g.W.TokenWriter.written c.args.out.now) (g.W.TokenWriter.written c.loop-frame.out)
    c.loop-frame.invariant kept at (no_frames c.loop-frame.frames.items (omega (arith, none_left c.pop.result _ _ c.in_default.not-Some c.pop.ensures.cases, c.loop-frame.frames.ok.0)))
