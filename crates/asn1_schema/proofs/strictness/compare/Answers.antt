use Rattle.std.proofs.Common.{subst, ℕ, List}
use Rattle.std.specs.Prelude.{Some, Err}
use Rattle.asn1_schema.specs.declared.strictness.NotStrict.TheVariants as errors
use Rattle.asn1_schema.specs.Differing.{FirstDiffer, IsDerOf, HasOther}
use Rattle.asn1_schema.proofs.SameErrors.{error_is}
use Rattle.asn1_schema.proofs.StrictWords.{none_differs, has_other, none_written, has_none}
use Rattle.asn1_schema.proofs.strictness.compare.Goals as goal

pub returns-in-Ok-clause-not_strict : goal.returns-in-Ok-clause-not_strict
returns-in-Ok-clause-not_strict c some =
    none_differs c.args.table.now c.requires.sound c.args.depth c.args.of c.args.octets.now c.args.tape.now c.requires.read
    c.in-Ok.encoding.items c.in-Ok.ensures.ok c.in-Some.place
    (subst (λ (o : List ℕ). FirstDiffer c.args.octets.now o (Some c.in-Some.place)) c.deref.ensures.value c.in-Some.ensures)

pub returns-in-Ok-clause-differs : goal.returns-in-Ok-clause-differs
returns-in-Ok-clause-differs c n is =
    let e = error_is {T = Unit {0}} (errors.Differs c.in-Some.place) (errors.Differs n) is in
    subst (λ (m : ℕ). IsDerOf c.args.table.now c.args.depth c.args.of c.args.octets.now c.args.tape.now
    (HasOther c.args.table.now c.args.depth c.args.of c.args.octets.now m)) (cc (e))
    (has_other c.args.table.now c.requires.sound c.args.depth c.args.of c.args.octets.now c.args.tape.now c.requires.read
    c.in-Ok.encoding.items c.in-Ok.ensures.ok c.in-Some.place
    (subst (λ (o : List ℕ). FirstDiffer c.args.octets.now o (Some c.in-Some.place)) c.deref.ensures.value
    c.in-Some.ensures))

pub returns-clause-not_strict : goal.returns-clause-not_strict
returns-clause-not_strict c some =
    none_written c.args.table.now c.requires.sound c.args.depth c.args.of c.args.octets.now c.args.tape.now c.requires.read
    (c.in-Err-Refused.ensures.refused (λ i. Err (c.in-Err-Refused.field-0-is i)))

pub returns-clause-none : goal.returns-clause-none
returns-clause-none c is =
    has_none c.args.table.now c.requires.sound c.args.depth c.args.of c.args.octets.now c.args.tape.now c.requires.read
    (c.in-Err-Refused.ensures.refused (λ i. Err (c.in-Err-Refused.field-0-is i)))
