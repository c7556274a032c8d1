use Rattle.std.proofs.Common.{rules, ◌≡◌, sym, refl, inl, inr}
use Rattle.x690.specs.Digits.{twos_complement_value}
use Rattle.asn1_schema.specs.Values.{enumerated}
use Rattle.asn1_schema.proofs.numbers.enumerated_item.Goals as goal

pub returns-then-extensible : goal.returns-then-extensible
returns-then-extensible c = (
  enumerated (twos_complement_value c.args.content.now),
  refl,
  (twos_complement_value c.args.content.now, refl, c.if-head.false, c.if-not-is_integer.ensures.yes refl, inl c.if-extensible.true),
)

pub returns-else-not-is_listed_number : goal.returns-else-not-is_listed_number
returns-else-not-is_listed_number c =
    let e : twos_complement_value c.args.content.now ≡ c.in-Some.n = sym c.in-Some.ensures.value in
    let listed = c.if-not-is_listed_number.ensures.yes (twos_complement_value c.args.content.now) (search rules) refl in (
      enumerated (twos_complement_value c.args.content.now),
      refl,
      (
        twos_complement_value c.args.content.now,
        refl,
        c.if-head.false,
        c.if-not-is_integer.ensures.yes refl,
        inr listed,
      ),
    )
