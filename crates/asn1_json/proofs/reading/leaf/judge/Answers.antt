use Rattle.std.proofs.Common.{◌≡◌, ◌∙◌, ap, sym, subst, Err, List, [], ◌++◌, append-nil}
use Rattle.asn1_schema.specs.Grammar.{Word}
use Rattle.asn1_schema.specs.Rules.{strict}
use Rattle.asn1_schema.specs.Tape.{Kept, tape_of, value_of}
use Rattle.asn1_schema.specs.Values.{Value}
use Rattle.asn1_json.specs.Made.{whole}
use Rattle.asn1_json.proofs.Wholes.{value_whole}
use Rattle.asn1_json.proofs.reading.leaf.judge.Goals as goal

pub returns-in-Ok : goal.returns-in-Ok
returns-in-Ok c = λ v is.
    let e = c.in-Ok.ensures.ok in
    let tapes : tape_of e.kept ++ [] ≡ tape_of (whole v) ++ [] =
    append-nil (tape_of e.kept) ∙ sym e.is ∙ is ∙ sym (append-nil (tape_of (whole v))) in
    let same : e.kept ≡ whole v = (c.tapes_begin_with_one_value.ensures e.kept (whole v) [] [] tapes).0 in (
      e.word,
      subst (λ (w : Value). Word strict c.args.by.types.table.now c.args.by.depth c.args.of e.word w)
          (ap value_of same ∙ value_whole v) e.holds,
    )

pub returns : goal.returns
returns c = λ v is refused has.
    c.in-Err-Refused.ensures.refused (ap Err c.in-Err-Refused.field-0-is) has.0 (whole v)
    (subst (λ (w : Value). Word strict c.args.by.types.table.now c.args.by.depth c.args.of has.0 w)
    (sym (value_whole v)) has.1) is
