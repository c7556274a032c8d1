use Rattle.std.proofs.Common.{◌≡◌, drop, Some}
use Rattle.asn1_json.specs.Denotes.{arm_from}
use Rattle.asn1_json.specs.Tokens.{given_types}
use Rattle.asn1_json.specs.Types.{arms_of, kind_at}
use Rattle.asn1_json.proofs.reading.names.arm_named.Given as goal

-- no arm so far has the name
abbrev pub invariant-loop-arm : goal.invariant-loop-arm
invariant-loop-arm l = arm_from (given_types l.types) l.choice l.name (drop l.arm (arms_of (kind_at l.types.table.now (Some l.choice)))) l.arm ≡
    arm_from (given_types l.types) l.choice l.name (arms_of (kind_at l.types.table.now (Some l.choice))) 0
