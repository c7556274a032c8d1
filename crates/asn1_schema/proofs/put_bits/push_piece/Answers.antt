use Rattle.std.proofs.Common.{◌≡◌, ◌∙◌, ap, sym, subst, ℕ, Bool, List, ◌++◌}
use Rattle.asn1_schema.specs.Grammar.{bits_in}
use Rattle.asn1_schema.specs.Bits.{used_bits, first_bits}
use Rattle.asn1_schema.specs.Writing.{Pushes}
use Rattle.asn1_schema.proofs.DigitsJoined.{used_split}
use Rattle.asn1_schema.proofs.WrittenBits.{pushed_more}
use Rattle.asn1_schema.proofs.put_bits.push_piece.Goals as goal

pub returns-in-Ok : goal.returns-in-Ok
returns-in-Ok c =
    let last = c.in-Some.last.now in
    let front = c.in-Some.front.now in
    let skip = c.used_part-skip.result.0 in
    let split : bits_in front ++ first_bits skip last ≡ used_bits c.args.unused c.args.octets.now =
    sym (ap (λ (z : List ℕ). used_bits skip z) c.in-Some.ensures.cases.0 ∙ used_split skip last front c.used_part-skip.ensures.few)
    ∙ c.used_part-skip.ensures.same in
    subst (λ (z : List Bool). Pushes z c.args.pending c.args.buf.now c.push_octets.new.buf c.push_octets.result) split
    (pushed_more (first_bits skip last) (bits_in front) c.args.pending c.in-Ok.next c.args.buf.now c.push_octet.new.buf
    c.push_octets.new.buf c.push_octets.result c.in-Ok.ensures c.push_octets.ensures)
