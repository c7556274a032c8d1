use Rattle.std.proofs.Common.{◌≡◌, sym, refl, subst, ap}
use Rattle.std.specs.Prelude.{OnOk}
use Rattle.asn1_schema.specs.declared.schema.Presence.{Presence}
use Rattle.asn1_schema.specs.Grammar.{Body, LeftOut, Word}
use Rattle.asn1_schema.specs.Rules.{der}
use Rattle.asn1_schema.specs.Values.{Values, none, absent, more}
use Rattle.asn1_json.specs.Outcomes.{LeftOutOnce, Makes, MakesRow}
use Rattle.asn1_json.proofs.ByKind.{on_ok}
use Rattle.asn1_json.proofs.Rows.{row_of_absent, row_of_one}
use Rattle.asn1_json.proofs.reading.values.leave_out.Goals as goal

pub returns-in_ok-push-in-Optional : goal.returns-in_ok-push-in-Optional
returns-in_ok-push-in-Optional c =
    let B = Body der c.args.by.types.table.now c.args.by.depth c.args.field.now.of in
    row_of_absent (LeftOutOnce c.args.by.types.table.now c.args.by.depth c.args.field.now) c.args.made.now c.push.new.self c.in_ok-push-in-Optional.ensures
    (subst (λ (p : Presence). LeftOut der B p (absent none) (λ rest. rest ≡ none)) (sym c.in-Optional.is) refl)

pub returns-in-Default : goal.returns-in-Default
returns-in-Default c =
    let B = Body der c.args.by.types.table.now c.args.by.depth c.args.field.now.of in
    on_ok c.put_default.result _ _ (λ m. row_of_one (Word der c.args.by.types.table.now c.args.by.depth c.args.field.now.of c.deref.result.now)
    (LeftOutOnce c.args.by.types.table.now c.args.by.depth c.args.field.now) c.args.made.now c.put_default.new.made m
    (λ v w. subst (λ (p : Presence). LeftOut der B p (more v none) (λ rest. rest ≡ none)) (sym c.in-Default.is)
    (subst (λ o. Word der c.args.by.types.table.now c.args.by.depth c.args.field.now.of o v) c.deref.ensures.value w, refl))) c.put_default.ensures
