use Rattle.std.proofs.Common.{[], ◌∷◌, reverse, length, Some}
use Rattle.asn1_schema.specs.Tape.{marks}
use Rattle.asn1_json.specs.declared.walk.Frame.TheVariants as awaited
use Rattle.asn1_json.specs.Tokens.{given_types}
use Rattle.asn1_json.specs.Walk.{Advances, steps_to_come}
use Rattle.asn1_json.proofs.shown.write_value.Given as goal

abbrev pub invariant-loop-frame : goal.invariant-loop-frame
invariant-loop-frame g l =
    Advances (given_types l.types) (awaited.Value (Some l.of) ∷ []) (marks l.tape) (reverse l.frames.items)
    (marks l.left.items.now) (g.W.TokenWriter.written l.initial.out) (g.W.TokenWriter.written l.out)

abbrev pub decreases-loop-frame : goal.decreases-loop-frame
decreases-loop-frame g l = steps_to_come (reverse l.frames.items) (length l.left.items.now)
