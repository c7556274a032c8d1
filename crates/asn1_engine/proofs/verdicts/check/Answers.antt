use Rattle.asn1_engine.proofs.OneLine.{verdict_of}
use Rattle.asn1_engine.proofs.verdicts.check.Goals as goal

pub returns-clause-prints : goal.returns-clause-prints
returns-clause-prints g c =
    let e = c.in_ok-found.ensures.prints in
    (e.0, verdict_of c.args.name.now c.args.octets.now _ e.0 e.1, e.2)
