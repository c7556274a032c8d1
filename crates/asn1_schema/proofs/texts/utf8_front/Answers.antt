use Rattle.std.proofs.Common.{sym, subst, ℕ}
use Rattle.std.specs.Prelude.{IsUtf8}
use Rattle.asn1_schema.specs.Joined.{AreWholeCharacters}
use Rattle.asn1_schema.proofs.TextFronts.{utf8_whole, utf8_part}
use Rattle.asn1_schema.proofs.texts.utf8_front.Goals as goal

pub returns-in-Ok : goal.returns-in-Ok
returns-in-Ok c = utf8_whole c.args.octets.now c.in-Ok.ensures.cases.1 c.requires

pub returns-in-Err : goal.returns-in-Err
returns-in-Err c = subst (λ (n : ℕ). AreWholeCharacters IsUtf8 c.args.octets.now n) (sym c.valid_up_to.ensures)
    (utf8_part c.args.octets.now c.in-Err.error.valid_up_to c.in-Err.ensures.cases.1 c.requires)
