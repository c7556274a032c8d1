use Rattle.std.proofs.Common.{◌∷◌, sym, subst, reverse, IfOk}
use Rattle.asn1_schema.specs.Tape.{marks}
use Rattle.asn1_json.specs.declared.walk.Frame.{Frame}
use Rattle.asn1_json.specs.Tokens.{given_types}
use Rattle.asn1_json.specs.Walk.{Steps, AwaitNot}
use Rattle.asn1_json.proofs.walk.step_frame.Goals as goal

pub returns-in-Value-clause-none : goal.returns-in-Value-clause-none
returns-in-Value-clause-none g c = λ is.
    subst (λ (f : Frame). AwaitNot (given_types c.args.types) (f ∷ reverse c.args.frames.now.items)
    (marks c.args.items.now))
    (sym c.in-Value.is) (c.begin_value.ensures.none is)

pub returns-in-Items-clause-ok : goal.returns-in-Items-clause-ok
returns-in-Items-clause-ok g c =
    subst (λ (f : Frame). IfOk c.step_items.result (λ behind. Steps (given_types c.args.types) (f ∷ reverse c.args.frames.now.items)
    (marks c.args.items.now) (reverse c.step_items.new.frames.items) (marks behind.now) (g.W.TokenWriter.written c.args.out.now)
    (g.W.TokenWriter.written c.step_items.new.out))) (sym c.in-Items.is)
    (c.step_items.ensures.ok (given_types c.args.types))

pub returns-in-Items-clause-none : goal.returns-in-Items-clause-none
returns-in-Items-clause-none g c = λ is.
    subst (λ (f : Frame). AwaitNot (given_types c.args.types) (f ∷ reverse c.args.frames.now.items)
    (marks c.args.items.now))
    (sym c.in-Items.is) (c.step_items.ensures.none (given_types c.args.types) is)

pub returns-in-Fields-clause-none : goal.returns-in-Fields-clause-none
returns-in-Fields-clause-none g c = λ is.
    subst (λ (f : Frame). AwaitNot (given_types c.args.types) (f ∷ reverse c.args.frames.now.items)
    (marks c.args.items.now))
    (sym c.in-Fields.is) (c.step_fields.ensures.none is)

pub returns-in-ArmEnd-clause-ok : goal.returns-in-ArmEnd-clause-ok
returns-in-ArmEnd-clause-ok g c =
    subst (λ (f : Frame). IfOk c.step_arm_end.result (λ behind. Steps (given_types c.args.types) (f ∷ reverse c.args.frames.now.items)
    (marks c.args.items.now) (reverse c.args.frames.now.items) (marks behind.now) (g.W.TokenWriter.written c.args.out.now)
    (g.W.TokenWriter.written c.step_arm_end.new.out))) (sym c.in-ArmEnd.is) (c.step_arm_end.ensures.ok (given_types c.args.types) (reverse c.args.frames.now.items))

pub returns-in-ArmEnd-clause-none : goal.returns-in-ArmEnd-clause-none
returns-in-ArmEnd-clause-none g c = λ is.
    subst (λ (f : Frame). AwaitNot (given_types c.args.types) (f ∷ reverse c.args.frames.now.items)
    (marks c.args.items.now))
    (sym c.in-ArmEnd.is) (c.step_arm_end.ensures.none (given_types c.args.types) (reverse c.args.frames.now.items) is)
