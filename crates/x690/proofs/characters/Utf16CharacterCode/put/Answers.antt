use Rattle.std.proofs.Common.{◌+◌, ◌∙◌, arith}
use Rattle.x690.proofs.CodedTexts.{same_behind}
use Rattle.x690.proofs.characters.Utf16CharacterCode.put.Goals as goal

pub returns-clause-kept : goal.returns-clause-kept
returns-clause-kept c =
    let at = c.args.at in
    same_behind _ _ (at + 2 + 2) 0 (at + 4) (omega arith) c.put_unit-3.ensures.kept
    ∙ same_behind _ _ (at + 2) 2 (at + 4) (omega arith) c.put_unit-2.ensures.kept
