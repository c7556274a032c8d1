use Rattle.std.proofs.Common.{rules, sym, subst}
use Rattle.asn1_schema.specs.declared.schema.Kind.TheVariants as kinds
use Rattle.asn1_schema.specs.Rules.{IsStrictTime}
use Rattle.asn1_schema.specs.Tape.{of_time}
use Rattle.asn1_schema.specs.Writing.{IsContentOfKind}
use Rattle.asn1_schema.proofs.WrittenStrings.{string_not_asked, time_said}
use Rattle.asn1_schema.proofs.put_strings.put_time.Goals as goal

pub returns-then-not-is_time : goal.returns-then-not-is_time
returns-then-not-is_time c nodes depth =
    string_not_asked (of_time c.args.kind) (IsContentOfKind nodes depth (kinds.Time c.args.kind))
    (IsStrictTime c.args.kind)
    (time_said nodes depth c.args.kind) c.args.tape.now c.args.at c.args.buf.now c.put_string.new.buf c.in-Ok.rest
    c.in-Ok.ensures (λ word put said.
    let front = c.in_front.ensures word c.args.buf.now put c.len-held.ensures in
    let yes = c.is_time.ensures.1 (subst (IsStrictTime c.args.kind) (sym front) said) in
    absurd (search rules))
