use Rattle.std.proofs.Common.{◌≡◌, ◌≢◌, List, ℕ}
use Rattle.std.specs.List.{All}
use Rattle.std.specs.Io.KnownBytes.{Consumes}
use Rattle.asn1vec_engine.specs.Engine.{GainsAnswers}
use Rattle.asn1vec_engine.proofs.engine.run.Given as goal

abbrev pub invariant-loop : goal.invariant-loop
invariant-loop g l = record {
  open_line : All (λ x. x ≢ 10) l.line.items;
  mark : (g.W.DerWrite.state l.output).failed ≡ (g.W.DerWrite.state l.initial.output).failed;
  so_far : (read : List ℕ) × Consumes (g.R.Read.remaining l.initial.input) (g.R.Read.remaining l.input) read
      × GainsAnswers (g.W.DerWrite.state l.initial.output).told (g.W.DerWrite.state l.output).told read l.line.items;
}
