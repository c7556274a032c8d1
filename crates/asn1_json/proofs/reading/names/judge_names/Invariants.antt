use Rattle.std.proofs.Common.{length, Some}
use Rattle.json.specs.Value.{members_view}
use Rattle.asn1_json.specs.Denotes.{AreNamed}
use Rattle.asn1_json.specs.Tokens.{given_types, type_of_unknown}
use Rattle.asn1_json.proofs.reading.names.judge_names.Given as goal

-- the members so far have names
abbrev pub invariant-loop-rest : goal.invariant-loop-rest
invariant-loop-rest l =
    AreNamed (given_types l.types) l.row (type_of_unknown (given_types l.types) (Some l.row)) (members_view l.rest) →
    AreNamed (given_types l.types) l.row (type_of_unknown (given_types l.types) (Some l.row)) (members_view l.members)

abbrev pub decreases-loop-rest : goal.decreases-loop-rest
decreases-loop-rest l = length l.rest
