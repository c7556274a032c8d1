use Rattle.std.proofs.Common.{ap, ◌∙◌}
use Rattle.asn1_strict.specs.Requirements.{requirement_of_refusal}
use Rattle.asn1_strict.proofs.Requiring.{told}
use Rattle.asn1_engine.proofs.verdicts.departure_of_header.Goals as goal

pub returns : goal.returns
returns c =
    let why = c.in-Err.ensures in
    (why.0, why.1, c.requirement_of.ensures ∙ ap requirement_of_refusal why.2 ∙ told why.0)
