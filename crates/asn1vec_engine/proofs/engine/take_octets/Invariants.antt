use Rattle.std.proofs.Common.{◌≡◌, ◌≢◌, ◌++◌, ℕ, List, length}
use Rattle.std.specs.List.{All}
use Rattle.asn1vec_engine.specs.Engine.{GainsAnswers}
use Rattle.asn1vec_engine.proofs.engine.take_octets.Given as goal

abbrev pub invariant-lines : goal.invariant-lines
invariant-lines g l = record {
  open_line : All (λ x. x ≢ 10) l.line.items;
  mark : (g.W.DerWrite.state l.output).failed ≡ (g.W.DerWrite.state l.initial.output).failed;
  moved : (done : List ℕ) × (l.octets ≡ done ++ l.rest) × GainsAnswers (g.W.DerWrite.state l.initial.output).told
      (g.W.DerWrite.state l.output).told (l.initial.line.items ++ done) l.line.items;
}

abbrev pub decreases-lines : goal.decreases-lines
decreases-lines g l = length l.rest
