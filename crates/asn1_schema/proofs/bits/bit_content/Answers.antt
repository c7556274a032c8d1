use Rattle.std.proofs.Common.{sym, subst, refl, List, ℕ}
use Rattle.asn1_schema.specs.Bits.{used_bits}
use Rattle.asn1_schema.specs.Grammar.{IsBitContent}
use Rattle.asn1_schema.specs.Reading.{rules_of}
use Rattle.asn1_schema.proofs.UnusedBits.{bits_made, bits_of}
use Rattle.asn1_schema.proofs.bits.bit_content.Goals as goal

pub returns-then-not-may_be_unused-clause-none : goal.returns-then-not-may_be_unused-clause-none
returns-then-not-may_be_unused-clause-none c = λ bs a.
    let y = c.if-not-may_be_unused.ensures.no (bits_of c.args.coding c.in-Some.unused.now c.in-Some.octets.now bs
    (subst (λ (z : List ℕ). IsBitContent (rules_of c.args.coding) z bs) c.in-Some.ensures.cases.0 a)) in absurd (cc)

pub returns-clause-some : goal.returns-clause-some
returns-clause-some c =
    subst (λ (z : List ℕ). IsBitContent (rules_of c.args.coding) z (used_bits c.in-Some.unused.now c.in-Some.octets.now))
    (sym c.in-Some.ensures.cases.0) (bits_made c.args.coding c.in-Some.unused.now c.in-Some.octets.now
    c.may_be_unused.ensures.octets (c.if-not-may_be_unused.ensures.yes refl))
