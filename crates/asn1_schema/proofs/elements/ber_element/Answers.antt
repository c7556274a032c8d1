use Rattle.std.proofs.Common.{rules, ◌≡◌, subst, ℕ, arith}
use Rattle.x690.specs.Laws.Nested.Faults.{element_or_fault}
use Rattle.x690.specs.Nested.{IsElement}
use Rattle.x690.specs.Joined.{NoPrefix}
use Rattle.asn1_schema.proofs.ElementParts.{ber_front, no_depth}
use Rattle.asn1_schema.proofs.elements.ber_element.Goals as goal

pub returns-then-max-eq0-clause-none : goal.returns-then-max-eq0-clause-none
returns-then-max-eq0-clause-none c = let z : 0 ≡ c.args.max = omega (arith, c.if-max-eq0.true) in
    subst (λ (m : ℕ). NoPrefix (IsElement m) c.args.octets.now) z (no_depth c.args.octets.now)

pub returns-in-Ok-clause-some : goal.returns-in-Ok-clause-some
returns-in-Ok-clause-some c = ber_front c.args.max c.args.octets.now c.in-Ok.rest.now c.in-Ok.content.now c.in-Ok.header
    (record { class = c.number-class.result; constructed = c.constructed-constructed.result; number = c.tag-number.result.0 }) c.is_indefinite-indefinite.result
    c.in-Ok.ensures.gives.front (search rules) (search rules) (search rules)

pub returns-clause-none : goal.returns-clause-none
returns-clause-none c = λ word rest p is a.
    element_or_fault c.args.max c.args.octets.now word rest p a.0 c.in-Err.ensures.gives.0 c.in-Err.ensures.gives.1 a.1 is
