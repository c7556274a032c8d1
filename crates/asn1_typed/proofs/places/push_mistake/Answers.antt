use Rattle.std.proofs.Common.{refl, codes, ◌++◌}
use Rattle.asn1_typed.specs.Places.{place_text}
use Rattle.asn1_typed.proofs.Appended.{four}
use Rattle.asn1_typed.proofs.places.push_mistake.Goals as goal

pub returns : goal.returns
returns c = (
  place_text c.args.sources.now c.args.mistake.place ++ codes ": " ++ c.as_str.result.now ++ codes "\n",
  (c.as_str.result.now, refl),
  four _ _ _ _ _ _ _ _ _ c.in_ok-push_place.ensures c.in_ok-push_str.ensures c.in_ok-push_str-2.ensures c.in_ok-push_str-3.ensures,
)
