use Rattle.std.proofs.Common.{suc, ◌<◌, length, subst, arith, refl}
use Rattle.asn1_schema.specs.Names.{IsPlaceOf}
use Rattle.asn1_schema.proofs.NamedParts.{found_here, found_later, lacking_later}
use Rattle.asn1_schema.proofs.names.place_of.Goals as goal

pub returns-then-is_named-clause-some : goal.returns-then-is_named-clause-some
returns-then-is_named-clause-some c =
    let labels = c.args.labels.now in
    let i = c.loop-place.place in
    let within : i < length labels = grind (arith, c.loop-place-test.true, c.loop-place.auto.place-end) in
    subst (IsPlaceOf labels c.args.name.now) (omega arith)
    (c.loop-place.invariant.found 0 (found_here labels i _ c.args.name.now within (c.if-is_named.ensures.yes refl)))

pub loop-place-preserved : goal.loop-place-preserved
loop-place-preserved c =
    let labels = c.args.labels.now in
    let i = c.loop-place.place in
    let name = c.args.name.now in
    let within : i < length labels = grind (arith, c.loop-place-test.true, c.loop-place.auto.place-end) in
    record {
      found = λ k found. subst (IsPlaceOf labels name) (omega arith)
          (c.loop-place.invariant.found (suc k) (found_later labels i _ name within (c.if-is_named.ensures.no refl) k found));
      lacking = λ lacking. c.loop-place.invariant.lacking (lacking_later labels i _ name within (c.if-is_named.ensures.no refl) lacking);
    }
