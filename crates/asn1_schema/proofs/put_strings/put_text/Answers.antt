use Rattle.std.proofs.Common.{rules, sym, subst}
use Rattle.asn1_schema.specs.declared.schema.Kind.TheVariants as kinds
use Rattle.asn1_schema.specs.Grammar.{IsText}
use Rattle.asn1_schema.specs.Tape.{of_text}
use Rattle.asn1_schema.specs.Writing.{IsContentOfKind}
use Rattle.asn1_schema.proofs.WrittenStrings.{string_not_asked, text_said}
use Rattle.asn1_schema.proofs.put_strings.put_text.Goals as goal

pub returns-then-not-is_text : goal.returns-then-not-is_text
returns-then-not-is_text c nodes depth =
    string_not_asked (of_text c.args.kind) (IsContentOfKind nodes depth (kinds.Text c.args.kind)) (IsText c.args.kind)
    (text_said nodes depth c.args.kind) c.args.tape.now c.args.at c.args.buf.now c.put_string.new.buf c.in-Ok.rest
    c.in-Ok.ensures (λ word put said.
    let front = c.in_front.ensures word c.args.buf.now put c.len-held.ensures in
    let yes = c.is_text.ensures.1 (subst (IsText c.args.kind) (sym front) said) in
    absurd (search rules))
