use Rattle.std.proofs.Common.{◌++◌, ◌≡◌, ◌-◌, ℕ, List, length, min, sym, subst, arith}
use Rattle.asn1vec_engine.specs.Engine.{GainsAnswers}
use Rattle.asn1vec_engine.proofs.Moved.{moves_kept}
use Rattle.asn1vec_engine.proofs.engine.keep.Goals as goal

pub returns-clause-moves : goal.returns-clause-moves
returns-clause-moves c = λ told.
    let line = c.args.line.now.items in
    let octets = c.args.octets.now in
    let size = c.args.line.now.ok.0 in
    let most : c.min-kept.result ≡ min (length octets) (65537 - length line) = omega (arith, size) in
    subst (λ (l : List ℕ). GainsAnswers told told (line ++ octets) l) (sym c.in_ok-extend_from_slice.ensures.items)
    (moves_kept told line octets c.min-kept.result c.requires.«open» c.requires.octets most)
