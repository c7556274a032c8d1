use Rattle.std.proofs.Common.{sym, subst}
use Rattle.asn1_schema.specs.declared.schema.TextKind.{TextKind}
use Rattle.asn1_schema.specs.Grammar.{IsText}
use Rattle.asn1_schema.specs.Joined.{AreWholeCharacters}
use Rattle.asn1_schema.proofs.texts.text_front.Goals as goal

pub returns-in-Utf8 : goal.returns-in-Utf8
returns-in-Utf8 c = subst (λ (k : TextKind). AreWholeCharacters (IsText k) c.args.octets.now c.utf8_front.result) (sym c.in-Utf8.is)
    c.utf8_front.ensures

pub returns-in-Universal : goal.returns-in-Universal
returns-in-Universal c = subst (λ (k : TextKind). AreWholeCharacters (IsText k) c.args.octets.now c.code_front.result) (sym c.in-Universal.is)
    c.code_front.ensures

pub returns-in-Bmp : goal.returns-in-Bmp
returns-in-Bmp c = subst (λ (k : TextKind). AreWholeCharacters (IsText k) c.args.octets.now c.code_front-in-Bmp.result) (sym c.in-Bmp.is)
    c.code_front-in-Bmp.ensures
