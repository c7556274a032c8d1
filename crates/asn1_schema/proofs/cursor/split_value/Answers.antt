use Rattle.std.proofs.Common.{◌∙◌, ap, arith}
use Rattle.asn1_schema.specs.Tape.{marks}
use Rattle.asn1_schema.proofs.Cursors.{value_truncated, absent_truncated, none_taken}
use Rattle.asn1_schema.proofs.cursor.split_value.Goals as goal

pub returns-clause-value : goal.returns-clause-value
returns-clause-value c = λ kept rest e.
    let first = c.first_len.ensures in
    let least = c.min-len.ensures in
    ap marks c.split_at.ensures.front ∙ (value_truncated c.args.items.now kept rest e _ (grind (arith, first, least))).0

pub returns-clause-rest : goal.returns-clause-rest
returns-clause-rest c = λ kept rest e.
    let first = c.first_len.ensures in
    let least = c.min-len.ensures in
    ap marks c.split_at.ensures.back ∙ (value_truncated c.args.items.now kept rest e _ (grind (arith, first, least))).1

pub returns-clause-absent : goal.returns-clause-absent
returns-clause-absent c = λ rest e.
    let first = c.first_len.ensures in
    let least = c.min-len.ensures in
    let truncated = absent_truncated c.args.items.now rest e _ (grind (arith, first, least)) in
    (ap marks c.split_at.ensures.front ∙ truncated.0, ap marks c.split_at.ensures.back ∙ truncated.1)

pub returns-clause-none : goal.returns-clause-none
returns-clause-none c = λ e.
    let truncated = none_taken c.args.items.now _ e in
    (ap marks c.split_at.ensures.front ∙ truncated.0, ap marks c.split_at.ensures.back ∙ truncated.1)
