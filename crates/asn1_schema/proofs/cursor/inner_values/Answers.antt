use Rattle.std.proofs.Common.{refl, [], length}
use Rattle.asn1_schema.specs.Tape.{begin_mark, end_mark, arm_mark, arm_end_mark, tape_of, tapes_of}
use Rattle.asn1_schema.proofs.cursor.inner_values.Goals as goal

pub returns-clause-row : goal.returns-clause-row
returns-clause-row c = λ kept e. c.inner_items.ensures [] (tapes_of kept) (begin_mark (length (tapes_of kept)))
    (end_mark (length (tapes_of kept))) e refl

pub returns-clause-arm : goal.returns-clause-arm
returns-clause-arm c = λ arm kept e. c.inner_items.ensures [] (tape_of kept) (arm_mark arm) (arm_end_mark arm) e refl
