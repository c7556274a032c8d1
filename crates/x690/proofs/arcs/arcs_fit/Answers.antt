use Rattle.std.proofs.Common.{◌^◌, ◌<◌, length, arith}
use Rattle.std.specs.List.{All}
use Rattle.x690.specs.Arcs.{arcs_of}
use Rattle.x690.specs.Laws.StrictIdentifiers.{power_le}
use Rattle.x690.specs.Laws.Arcs.Beginnings.{arcs_fit}
use Rattle.x690.specs.Laws.Arcs.Runs.{short_pieces_fit}
use Rattle.x690.proofs.arcs.arcs_fit.Goals as goal
use Rattle.x690.proofs.arcs.arcs_fit.Goals.{then-octets-lt10, else-octets-lt10}

pub returns-then-has_short_pieces : goal.returns-then-has_short_pieces
returns-then-has_short_pieces c =
    let relative = c.args.relative in
    let octets = c.args.octets.now in
    let fit : All (λ arc. arc < 2 ^ 64) (arcs_of relative octets) = elim c.if-octets-lt10.branch [
      | then-octets-lt10 w ↦ λ k d within. omega (
        arith,
        arcs_fit relative octets k d within,
        power_le 9 (length octets) (omega (arith, w.if-octets-lt10.true)),
      )
      | else-octets-lt10 w ↦ short_pieces_fit relative octets (w.has_short_pieces.ensures cc)
    ] in
    (λ e. fit, λ a. c.if-has_short_pieces.true)
