use Rattle.x509_name.proofs.Writing.{memory_alone}
use Rattle.x509_name.proofs.name.write_name.Goals as goal

pub returns-clause-strict : goal.returns-clause-strict
returns-clause-strict g c = λ d l f.
    let h = c.write_strict.ensures.headline d l f in
    (h.0, memory_alone _ _ c.write_strict.result h.1)
