use Rattle.std.proofs.Common.{◌∙◌, sym, ap}
use Rattle.asn1_schema.specs.Tape.{mark}
use Rattle.asn1_schema.specs.Sizes.{bit_count}
use Rattle.asn1_schema.proofs.BitsTaken.{bits_taken}
use Rattle.asn1_schema.proofs.sizes.bits_of.Goals as goal

pub returns-in-Bits : goal.returns-in-Bits
returns-in-Bits c = c.bit_len.ensures ∙ sym (ap (λ i. bit_count (mark i)) c.in-Bits.is ∙ bits_taken c.in-Bits.octets.now c.in-Bits.unused)
