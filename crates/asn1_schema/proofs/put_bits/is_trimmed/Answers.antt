use Rattle.std.proofs.Common.{◌≡◌, subst, sym, Bool, List}
use Rattle.asn1_schema.specs.Grammar.{trimmed}
use Rattle.asn1_schema.specs.Rules.{der}
use Rattle.asn1_schema.specs.Bits.{used_bits}
use Rattle.asn1_schema.proofs.Strings.{one_bits}
use Rattle.asn1_schema.proofs.WrittenBits.{der_bits}
use Rattle.asn1_schema.proofs.put_bits.is_trimmed.Goals as goal

pub returns-in-Some : goal.returns-in-Some
returns-in-Some c bs h =
    let same = one_bits der c.args.content.now (used_bits c.in-Some.unused c.in-Some.octets.now) bs c.in-Some.ensures.some
    (der_bits c.args.content.now bs h) in
    let told = c.ends_in_one.ensures in (
      λ y. subst (λ (z : List Bool). trimmed z ≡ z) same (told.0 y),
      λ t. told.1 (subst (λ (z : List Bool). trimmed z ≡ z) (sym same) t),
    )

pub returns-in-None : goal.returns-in-None
returns-in-None c bs h = absurd (c.in-None.ensures.none bs (der_bits c.args.content.now bs h))
