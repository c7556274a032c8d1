use Rattle.std.proofs.Common.{sym, inl, inr, reverse}
use Rattle.asn1_schema.specs.Tape.{marks}
use Rattle.asn1_json.specs.Tokens.{given_types}
use Rattle.asn1_json.proofs.Steps.{no_fields}
use Rattle.asn1_json.proofs.Walks.{marks_behind, field_step, fields_end_step, field_gone_step}
use Rattle.asn1_json.proofs.walk.step_fields.Goals as goal

pub returns-in_ok-begin_field-in-Value-clause-ok :
    goal.returns-in_ok-begin_field-in-Value-clause-ok
returns-in_ok-begin_field-in-Value-clause-ok g c = field_step (given_types c.args.types) c.args.frames.now.items
    c.begin_field.new.frames.items (marks c.args.items.now) c.in-Value.field-0 (g.W.TokenWriter.written c.args.out.now)
    c.args.at c.args.place (g.W.TokenWriter.written c.begin_field.new.out) (sym c.in-Value.ensures)
    c.in_ok-begin_field-in-Value.ensures

pub returns-in_ok-put-in-Close-clause-ok : goal.returns-in_ok-put-in-Close-clause-ok
returns-in_ok-put-in-Close-clause-ok g c = fields_end_step (given_types c.args.types) c.args.frames.now.items
    (marks c.args.items.now) (marks c.behind_first.result.now) (g.W.TokenWriter.written c.args.out.now)
    (g.W.TokenWriter.written c.put.new.self) c.args.at c.args.place (sym c.in-Close.ensures)
    (marks_behind c.args.items.now c.behind_first.result.now c.behind_first.ensures) c.in_ok-put-in-Close.ensures

pub returns-in_ok-push-in-Gone-clause-ok : goal.returns-in_ok-push-in-Gone-clause-ok
returns-in_ok-push-in-Gone-clause-ok g c = field_gone_step (given_types c.args.types) c.args.frames.now.items
    c.push.new.self.items (marks c.args.items.now) (marks c.behind_first-in-Gone.result.now)
    (g.W.TokenWriter.written c.args.out.now) c.args.at c.args.place c.next_place.result (sym c.in-Gone.ensures)
    (marks_behind c.args.items.now c.behind_first-in-Gone.result.now c.behind_first-in-Gone.ensures)
    c.in_ok-push-in-Gone.ensures.items c.next_place.ensures

pub returns-in-ArmEnd-clause-none : goal.returns-in-ArmEnd-clause-none
returns-in-ArmEnd-clause-none g c = λ _. no_fields (given_types c.args.types) c.args.at c.args.place
    (reverse c.args.frames.now.items) (marks c.args.items.now) (inl (sym c.in-ArmEnd.ensures))

pub returns-in-Nothing-clause-none : goal.returns-in-Nothing-clause-none
returns-in-Nothing-clause-none g c = λ _. no_fields (given_types c.args.types) c.args.at c.args.place
    (reverse c.args.frames.now.items) (marks c.args.items.now) (inr (sym c.in-Nothing.ensures))
