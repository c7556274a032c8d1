use Rattle.std.proofs.Common.{◌≡◌, ℕ, List, Option, Some, None, MatchOption, inr, subst}
use Rattle.x690.specs.Rules.{der_rule}
use Rattle.x690.specs.Elements.{BeginsWithHeader}
use Rattle.asn1_headers.specs.Class.{class_number}
use Rattle.asn1_walk.specs.declared.line.Line.{Line}
use Rattle.asn1_strict.specs.declared.requirement.Requirement.{Requirement}
use Rattle.asn1_strict.specs.Requirements.{Misses}
use Rattle.asn1_strict.specs.Universal.{IsProperOf}
use Rattle.asn1_engine.specs.Verdicts.{ElementHolds, ElementLacks}
use Rattle.asn1_engine.proofs.verdicts.departure_of_element.Goals as goal

by_tag : (octets : List ℕ) (line : Line) (found : Option Requirement) (class : ℕ) → class ≡ class_number line.class →
    BeginsWithHeader der_rule octets →
    MatchOption found (IsProperOf class line.number line.constructed line.content.now)
    (λ requirement. Misses requirement class line.number line.constructed line.content.now) →
    MatchOption found (ElementHolds octets line) (ElementLacks octets line)
by_tag octets line None class e begins h =
    (begins, subst (λ (n : ℕ). IsProperOf n line.number line.constructed line.content.now) e h)
by_tag octets line (Some requirement) class e begins h =
    inr (begins, subst (λ (n : ℕ). Misses requirement n line.number line.constructed line.content.now) e h)

pub returns : goal.returns
returns c = by_tag c.args.octets.now c.args.line.now c.departure_of.result c.number.result c.number.ensures c.in_default.ensures
    c.departure_of.ensures
