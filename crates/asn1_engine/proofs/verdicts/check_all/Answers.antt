use Rattle.std.proofs.Common.{ℕ, List, ◌++◌, inl, inr, refl, subst}
use Rattle.std.specs.Io.KnownBytes.{Appends}
use Rattle.asn1_engine.specs.Verdicts.{IsLineOf}
use Rattle.asn1_engine.proofs.Told.{told_twice}
use Rattle.asn1_engine.proofs.verdicts.check_all.Goals as goal

pub returns-in_ok-write_others-in-Some-clause-prints :
    goal.returns-in_ok-write_others-in-Some-clause-prints
returns-in_ok-write_others-in-Some-clause-prints g c =
    let name = c.args.name.now in
    let octets = c.args.octets.now in
    let start = g.W.Write.contents c.args.out.now in
    let between = g.W.Write.contents c.write_first.new.out in
    let line = subst (λ found. (shown : List ℕ) × IsLineOf name octets found shown × Appends start between shown)
    c.in-Some.is c.in_ok-write_first.ensures.prints in
    let more = c.in_ok-write_others-in-Some.ensures in (
      line.0 ++ more.0,
      inr (c.in-Some.first, line.0, more.0, line.1.0, line.1.1, more.1, refl),
      told_twice start between (g.W.Write.contents c.write_others.new.out) line.0 more.0 line.2 more.2,
    )
