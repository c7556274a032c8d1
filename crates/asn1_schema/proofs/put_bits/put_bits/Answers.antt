use Rattle.std.proofs.Common.{rules, sym, subst, ℕ, List}
use Rattle.asn1_schema.specs.Grammar.{IsBitContent}
use Rattle.asn1_schema.specs.Rules.{strict}
use Rattle.asn1_schema.proofs.WrittenBits.{not_trimmed, bits_stopped}
use Rattle.asn1_schema.proofs.put_bits.put_bits.Goals as goal

pub returns-then-not-is_trimmed : goal.returns-then-not-is_trimmed
returns-then-not-is_trimmed c nodes depth =
    not_trimmed nodes depth c.args.named c.args.tape.now c.args.at c.args.buf.now c.put_plain_bits.new.buf c.in-Ok.rest
    (search rules) c.in-Ok.ensures (λ word bs put said t.
    let front = c.in_front.ensures word c.args.buf.now put c.len-held.ensures in
    let told = (c.is_trimmed.ensures bs (subst (λ (z : List ℕ). IsBitContent strict z bs) (sym front) said)).1 t in
    absurd (search rules))

pub returns-in-Err : goal.returns-in-Err
returns-in-Err c nodes depth = bits_stopped nodes depth c.args.named c.args.tape.now c.args.at c.args.buf.now
    c.put_plain_bits.new.buf c.in-Err.e c.in-Err.ensures
