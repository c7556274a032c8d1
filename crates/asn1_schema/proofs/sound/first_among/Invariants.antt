use Rattle.std.proofs.Common.{◌≡◌, drop}
use Rattle.asn1_schema.specs.Sound.{none_among}
use Rattle.asn1_schema.proofs.sound.first_among.Given as goal

abbrev pub invariant-loop-tag : goal.invariant-loop-tag
invariant-loop-tag l = none_among l.tags l.others ≡ none_among (drop l.tag-index l.tags) l.others
