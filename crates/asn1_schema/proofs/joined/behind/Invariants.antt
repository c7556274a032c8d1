use Rattle.std.proofs.Common.{◌≡◌, drop}
use Rattle.asn1_schema.specs.Joined.{said}
use Rattle.asn1_schema.proofs.joined.behind.Given as goal

abbrev pub invariant-loop : goal.invariant-loop
invariant-loop l = said l.source ≡ drop l.counter (said l.fn.source)
