use Rattle.std.proofs.Common.{◌≡◌, ◌-◌, length}
use Rattle.asn1_json.specs.Types.{innermost}
use Rattle.asn1_json.proofs.types.innermost.Given as goal

abbrev pub invariant-loop : goal.invariant-loop
invariant-loop l = innermost l.table (length l.table) l.of ≡ innermost l.table (length l.table - l.counter) l.place
