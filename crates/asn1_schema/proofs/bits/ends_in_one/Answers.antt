use Rattle.std.proofs.Common.{◌≡◌, ◌↔◌, sym, subst, Bool, IsTrue}
use Rattle.asn1_schema.specs.Grammar.{trimmed}
use Rattle.asn1_schema.specs.Bits.{used_bits}
use Rattle.asn1_schema.proofs.NamedBits.{last_told}
use Rattle.asn1_schema.proofs.bits.ends_in_one.Goals as goal

pub returns-in-Some : goal.returns-in-Some
returns-in-Some c =
    let used = used_bits c.args.unused c.args.octets.now in
    subst (λ (z : Bool). IsTrue z ↔ (trimmed used ≡ used)) (sym c.is_bit_set.ensures)
    (last_told c.args.octets.now c.in-Some.field-0-1.now c.in-Some.last.now c.args.unused c.in-Some.ensures.cases.0
    c.requires.few)
