use Rattle.std.proofs.Common.{◌∙◌, ap, sym, inl, inr, List, [], ◌∷◌, ◌++◌, reverse}
use Rattle.asn1_schema.specs.Tape.{marks}
use Rattle.asn1_json.specs.declared.walk.Frame.{Frame}
use Rattle.asn1_json.specs.declared.walk.Frame.TheVariants as frames
use Rattle.asn1_json.proofs.Steps.{no_items}
use Rattle.asn1_json.proofs.Walks.{marks_behind, item_step, items_end_step, item_gone_step}
use Rattle.asn1_json.proofs.walk.step_items.Goals as goal

pub returns-in_ok-push-in-Value-2-clause-ok : goal.returns-in_ok-push-in-Value-2-clause-ok
returns-in_ok-push-in-Value-2-clause-ok g c = λ types. item_step types c.args.frames.now.items
    c.push-in-Value.new.self.items (marks c.args.items.now) c.in-Value.field-0 (g.W.TokenWriter.written c.args.out.now)
    c.args.of c.args.are_unknown (sym c.in-Value.ensures)
    (c.in_ok-push-in-Value-2.ensures.items
    ∙ ap (λ (fs : List Frame). fs ++ frames.Value c.args.of ∷ []) c.in_ok-push-in-Value.ensures.items)

pub returns-in_ok-end_items-in-Close-clause-ok : goal.returns-in_ok-end_items-in-Close-clause-ok
returns-in_ok-end_items-in-Close-clause-ok g c = λ types. items_end_step types c.args.frames.now.items
    (marks c.args.items.now) (marks c.behind_first.result.now) (g.W.TokenWriter.written c.args.out.now)
    (g.W.TokenWriter.written c.end_items.new.out) c.args.of c.args.are_unknown (sym c.in-Close.ensures)
    (marks_behind c.args.items.now c.behind_first.result.now c.behind_first.ensures) c.in_ok-end_items-in-Close.ensures

pub returns-in_ok-push-in-Gone-clause-ok : goal.returns-in_ok-push-in-Gone-clause-ok
returns-in_ok-push-in-Gone-clause-ok g c = λ types. item_gone_step types c.args.frames.now.items
    c.push-in-Gone.new.self.items (marks c.args.items.now) (marks c.behind_first-in-Gone.result.now)
    (g.W.TokenWriter.written c.args.out.now) c.args.of c.args.are_unknown (sym c.in-Gone.ensures)
    (marks_behind c.args.items.now c.behind_first-in-Gone.result.now c.behind_first-in-Gone.ensures)
    c.in_ok-push-in-Gone.ensures.items

pub returns-in-ArmEnd-clause-none : goal.returns-in-ArmEnd-clause-none
returns-in-ArmEnd-clause-none g c = λ types _. no_items types c.args.of c.args.are_unknown
    (reverse c.args.frames.now.items) (marks c.args.items.now) (inl (sym c.in-ArmEnd.ensures))

pub returns-in-Nothing-clause-none : goal.returns-in-Nothing-clause-none
returns-in-Nothing-clause-none g c = λ types _. no_items types c.args.of c.args.are_unknown
    (reverse c.args.frames.now.items) (marks c.args.items.now) (inr (sym c.in-Nothing.ensures))
