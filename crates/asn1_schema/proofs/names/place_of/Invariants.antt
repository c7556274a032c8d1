use Rattle.std.proofs.Common.{ℕ, ◌+◌, drop}
use Rattle.asn1_schema.specs.Names.{IsPlaceOf, LacksName}
use Rattle.asn1_schema.proofs.names.place_of.Given as goal

-- no part before this place has the name
abbrev pub invariant-loop-place : goal.invariant-loop-place
invariant-loop-place l = record {
  found : (k : ℕ) → IsPlaceOf (drop l.place l.labels) l.name k → IsPlaceOf l.labels l.name (l.place + k);
  lacking : LacksName (drop l.place l.labels) l.name → LacksName l.labels l.name;
}
