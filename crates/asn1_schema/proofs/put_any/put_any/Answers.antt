use Rattle.std.proofs.Common.{rules, refl, ℕ, List}
use Rattle.x690.specs.Identifiers.{Identifier}
use Rattle.asn1_schema.specs.Values.{any}
use Rattle.asn1_schema.specs.Writing.{IsAny, id_with}
use Rattle.asn1_schema.proofs.WrittenLeaves.{no_leaf, refused}
use Rattle.asn1_schema.proofs.WrittenAny.{not_any, any_written}
use Rattle.asn1_schema.proofs.put_any.put_any.Goals as goal

pub returns-in_default : goal.returns-in_default
returns-in_default c = no_leaf (IsAny c.args.tags.now c.args.depth) c.args.tape.now c.args.at
    (λ (y : Identifier × List ℕ). any y.0 y.1) (λ y. refl) (λ o v h. ((h.parts.id, h.parts.content), h.value))
    c.in_default.ensures c.args.buf.now

pub returns-then-not-may_be_any : goal.returns-then-not-may_be_any
returns-then-not-may_be_any c =
    let id = id_with c.in-Some.class c.in-Some.constructed c.in-Some.number in
    refused (IsAny c.args.tags.now c.args.depth) c.args.tape.now c.args.at c.args.buf.now
    (not_any c.args.tags.now c.args.depth c.args.tape.now c.args.at id c.in-Some.content.now c.in-Some.ensures
    (λ may. let told = c.may_be_any.ensures.1 may in absurd (search rules)))

pub returns-in-Ok-put_header : goal.returns-in-Ok-put_header
returns-in-Ok-put_header c =
    let id = id_with c.in-Some.class c.in-Some.constructed c.in-Some.number in
    any_written c.args.tags.now c.args.depth c.args.tape.now c.args.at id c.in-Some.content.now c.in-Some.ensures
    (c.may_be_any.ensures.0 (search rules)) c.args.buf.now c.put.new.buf c.put_header.new.buf c.len-held.result
    c.put.ensures.octets c.in-Ok.ensures.ok c.len-held.ensures c.in-Ok-put_header.ensures.ok
