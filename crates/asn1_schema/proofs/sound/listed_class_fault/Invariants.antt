use Rattle.std.proofs.Common.{◌≡◌, drop}
use Rattle.asn1_schema.specs.Sound.{are_listed_classes}
use Rattle.asn1_schema.proofs.sound.listed_class_fault.Given as goal

abbrev pub invariant-loop-tag : goal.invariant-loop-tag
invariant-loop-tag l = are_listed_classes l.tags ≡ are_listed_classes (drop l.tag-index l.tags)
