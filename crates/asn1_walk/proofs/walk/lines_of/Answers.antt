use Rattle.std.proofs.Common.{◌≡◌, length, arith, ℕ, List, [], false, subst, sym}
use Rattle.std.proofs.lemmas.List.{append-nil}
use Rattle.asn1_walk.specs.declared.line.Line.{Line}
use Rattle.asn1_walk.specs.Rows.{Row, ended, refused}
use Rattle.asn1_walk.specs.Walks.{Moves}
use Rattle.asn1_walk.specs.declared.walk.Step.{Step}
use Rattle.asn1_walk.proofs.Coming.{begun}
use Rattle.asn1_walk.proofs.Steps.{comes_out}
use Rattle.asn1_walk.proofs.walk.lines_of.Goals as goal

pub loop-walk-init : goal.loop-walk-init
loop-walk-init c = λ lines outcome g. rw (c.new-lines.ensures.items) (begun _ _ _ _ c.new-walk.ensures.frames
    c.new-walk.ensures.offset c.new-walk.ensures.view lines outcome g)

pub returns-in-Refused : goal.returns-in-Refused
returns-in-Refused c =
    let m = subst (λ (s : Step). Moves s c.loop-walk.walk c.step.new.self) c.in-Refused.is c.in_ok-line.ensures.moves in (
      m.0,
      m.1,
      omega (
        arith,
        m.3,
        comes_out false 0 0 c.args.octets.now c.loop-walk.lines.items (refused c.loop-walk.walk.offset m.0)
            (subst (λ (ls : List Line). Row false 0 0 c.args.octets.now ls (refused c.loop-walk.walk.offset m.0))
            (append-nil c.loop-walk.lines.items) (c.loop-walk.invariant [] (refused c.loop-walk.walk.offset m.0) m.2)),
      ),
      subst (λ (n : ℕ). Row false 0 0 c.args.octets.now c.loop-walk.lines.items (refused n m.0)) (sym m.3)
          (subst (λ (ls : List Line). Row false 0 0 c.args.octets.now ls (refused c.loop-walk.walk.offset m.0))
          (append-nil c.loop-walk.lines.items) (c.loop-walk.invariant [] (refused c.loop-walk.walk.offset m.0) m.2)),
    )

pub returns-in-End : goal.returns-in-End
returns-in-End c =
    let at = c.loop-walk.walk.offset in
    let octets = c.args.octets.now in
    let items = c.loop-walk.lines.items in
    let m = subst (λ (s : Step). Moves s c.loop-walk.walk c.step.new.self) c.in-End.is c.in_ok-line.ensures.moves in
    let row = subst (λ (ls : List Line). Row false 0 0 octets ls (ended at [])) (append-nil items)
    (c.loop-walk.invariant [] (ended at []) m) in
    let n : at ≡ length octets = omega (arith, comes_out false 0 0 octets items (ended at []) row) in
    subst (λ (k : ℕ). Row false 0 0 octets items (ended k [])) n row
