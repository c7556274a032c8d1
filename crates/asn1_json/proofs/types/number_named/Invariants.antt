use Rattle.std.proofs.Common.{◌≡◌, drop}
use Rattle.asn1_json.specs.DenotedLeaves.{number_named}
use Rattle.asn1_json.proofs.types.number_named.Given as goal

-- no label before this one has the name
abbrev pub invariant-loop-label : goal.invariant-loop-label
invariant-loop-label l = number_named l.labels l.name ≡ number_named (drop l.label-index l.labels) l.name
