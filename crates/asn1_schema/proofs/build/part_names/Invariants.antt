use Rattle.std.proofs.Common.{◌≡◌, ◌++◌, drop}
use Rattle.std.specs.Prelude.{map}
use Rattle.asn1_schema.specs.BuildNames.{label_of, placed_from}
use Rattle.asn1_schema.proofs.build.part_names.Given as goal

-- with the labels of those that are left, the labels are those of all
abbrev pub invariant-loop-place : goal.invariant-loop-place
invariant-loop-place l =
    map label_of l.names.items ++ placed_from l.place (map (λ p. p.name.now) (drop l.place l.parts)) ≡
    placed_from 0 (map (λ p. p.name.now) l.parts)
