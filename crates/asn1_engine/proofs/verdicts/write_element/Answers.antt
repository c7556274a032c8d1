use Rattle.std.proofs.Common.{ℕ, List, [], inl, inr, refl, subst}
use Rattle.asn1_engine.specs.Verdicts.{ElementHolds, ElementLacks}
use Rattle.asn1_engine.proofs.Told.{nothing_told}
use Rattle.asn1_engine.proofs.verdicts.write_element.Goals as goal

pub returns-in_default : goal.returns-in_default
returns-in_default g c =
    let line = c.args.line.now in (
      [],
      inl (subst (λ (octets : List ℕ). ElementHolds octets line) c.behind.ensures c.in_default.ensures, refl),
      nothing_told (g.W.Write.contents c.args.out.now),
    )

pub returns : goal.returns
returns g c =
    let line = c.args.line.now in
    let requirement = c.in-Some.requirement in
    let e = c.in_ok-write_further.ensures in (
      e.0,
      inr (
        requirement,
        subst (λ (octets : List ℕ). ElementLacks octets line requirement) c.behind.ensures c.in-Some.ensures,
        e.1,
      ),
      e.2,
    )
