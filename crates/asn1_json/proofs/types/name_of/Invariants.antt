use Rattle.std.proofs.Common.{◌≡◌, ℤ, drop}
use Rattle.asn1_schema.specs.Cursor.{IsNumber}
use Rattle.asn1_json.specs.Leaves.{name_of}
use Rattle.asn1_json.proofs.types.name_of.Given as goal

-- no label before this one stands for the number
abbrev pub invariant-loop-label : goal.invariant-loop-label
invariant-loop-label l = (n : ℤ) → IsNumber n l.number → name_of l.labels n ≡ name_of (drop l.label-index l.labels) n
