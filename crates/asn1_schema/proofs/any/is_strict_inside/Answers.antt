use Rattle.std.proofs.Common.{ap}
use Rattle.std.specs.Prelude.{Err}
use Rattle.asn1_schema.specs.declared.fault.Fault.{Fault}
use Rattle.asn1_schema.specs.Reading.{head_parts}
use Rattle.asn1_schema.specs.Rules.{IsStrictInside}
use Rattle.asn1_schema.proofs.Depths.{fault_here, told}
use Rattle.asn1_schema.proofs.any.is_strict_inside.Goals as goal

pub returns-in-Err-clause-no : goal.returns-in-Err-clause-no
returns-in-Err-clause-no c = λ p.
    let fault = c.in-Err.field-0 in
    let inside : Type 0 = IsStrictInside c.args.depth (head_parts c.args.head c.args.content.now) in
    absurd (told fault (λ is. c.in-Err.ensures.no_memory (ap (λ (z : Fault). Err z) is)) (inside → ⊥)
    (c.in-Err.ensures.judges c.args.depth (fault_here c.args.depth fault)) p)
