use Rattle.std.proofs.Common.{◌≡◌, drop}
use Rattle.asn1_schema.specs.Sound.{are_among}
use Rattle.asn1_schema.proofs.sound.first_left.Given as goal

abbrev pub invariant-loop-tag : goal.invariant-loop-tag
invariant-loop-tag l = are_among l.tags l.others ≡ are_among (drop l.tag-index l.tags) l.others
