use Rattle.std.proofs.Common.{rules, ◌≡◌, sym}
use Rattle.x690.specs.Digits.{twos_complement_value}
use Rattle.asn1_schema.proofs.bounds.integer_within.Goals as goal

pub returns-in-Some : goal.returns-in-Some
returns-in-Some c = let e : twos_complement_value c.args.octets.now ≡ c.in-Some.n = sym c.in-Some.ensures.value in
    c.number_within.ensures (twos_complement_value c.args.octets.now) (search rules)
