use Rattle.std.proofs.Common.{◌∙◌, sym, subst, ap, ◌*◌, ◌-◌, length, take, arith}
use Rattle.asn1_schema.specs.Values.{characters}
use Rattle.asn1_schema.specs.Grammar.{bits_in}
use Rattle.asn1_schema.specs.Tape.{Mark, mark}
use Rattle.asn1_schema.specs.Reading.{JudgesItem}
use Rattle.asn1_schema.specs.Sizes.{size_of_text}
use Rattle.asn1_schema.proofs.BitsTaken.{bits_taken}
use Rattle.asn1_schema.proofs.PieceSizes.{characters_are}
use Rattle.asn1_schema.proofs.bounds.item_within.Goals as goal

pub returns-in-Bits : goal.returns-in-Bits
returns-in-Bits c =
    let octets = c.in-Bits.octets.now in
    let size = bits_taken octets c.in-Bits.unused in
    subst (λ (m : Mark). JudgesItem c.args.lower c.args.upper m c.size_within.result) (sym (ap mark c.in-Bits.is))
    (c.size_within.ensures (length (take (8 * length octets - c.in-Bits.unused) (bits_in octets))) (omega (arith, size)))

pub returns-in-Text : goal.returns-in-Text
returns-in-Text c =
    let octets = c.in-Text.octets.now in
    let size = c.text_size.ensures ∙ ap (size_of_text c.in-Text.kind) c.units_of_text.ensures ∙ characters_are c.in-Text.kind octets in
    subst (λ (m : Mark). JudgesItem c.args.lower c.args.upper m c.size_within-in-Text.result) (sym (ap mark c.in-Text.is))
    (c.size_within-in-Text.ensures (characters c.in-Text.kind octets) (omega (arith, size)))

pub returns-in-Octets : goal.returns-in-Octets
returns-in-Octets c =
    subst (λ (m : Mark). JudgesItem c.args.lower c.args.upper m c.size_within-in-Octets.result) (sym (ap mark c.in-Octets.is))
    (c.size_within-in-Octets.ensures (length c.in-Octets.octets.now) (omega arith))
