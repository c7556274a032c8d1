use Rattle.std.proofs.Common.{◌≡◌, drop}
use Rattle.asn1_names.specs.Names.{name_in, plain_table}
use Rattle.asn1_names.proofs.name_below.Given as goal

-- the tables so far have not the arc
abbrev pub invariant-loop-arc : goal.invariant-loop-arc
invariant-loop-arc l =
    name_in (plain_table l.tables) l.front l.last ≡ name_in (plain_table (drop l.arc-index l.tables)) l.front l.last
