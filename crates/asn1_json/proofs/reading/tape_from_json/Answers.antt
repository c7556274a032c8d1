use Rattle.std.proofs.Common.{List, ℕ, length, subst}
use Rattle.std.specs.Prelude.{IfOk, IfErr}
use Rattle.asn1_json.specs.MadeFrom.{IsMadeFrom, IsWithin}
use Rattle.asn1_json.proofs.reading.tape_from_json.Goals as goal

pub returns-in-Ok-clause-ok : goal.returns-in-Ok-clause-ok
returns-in-Ok-clause-ok c =
    subst (λ (o : List ℕ). IfOk c.made_from_text.result (IsMadeFrom c.args.schema.now c.args.depth c.args.of o)) c.in-Ok.ensures.cases.0 c.made_from_text.ensures.ok

pub returns-in-Ok-clause-refused : goal.returns-in-Ok-clause-refused
returns-in-Ok-clause-refused c =
    subst (λ (o : List ℕ). IfErr c.made_from_text.result (IsWithin (length o))) c.in-Ok.ensures.cases.0 c.made_from_text.ensures.refused
