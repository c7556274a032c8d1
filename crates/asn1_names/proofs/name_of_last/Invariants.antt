use Rattle.std.proofs.Common.{◌≡◌, drop}
use Rattle.asn1_names.specs.Names.{named, plain_rows}
use Rattle.asn1_names.proofs.name_of_last.Given as goal

-- the rows so far have not the number
abbrev pub invariant-loop-number : goal.invariant-loop-number
invariant-loop-number l =
    named (plain_rows l.table) l.last ≡ named (plain_rows (drop l.number-index l.table)) l.last
