use Rattle.std.proofs.Common.{[], ◌∷◌, List, length, length-append, ap, arith}
use Rattle.std.proofs.lemmas.List.{length-map}
use Rattle.asn1_schema.specs.Tape.{Mark, mark}
use Rattle.asn1_schema.proofs.Counts.{inner_marks}
use Rattle.asn1_json.proofs.leaves.inside.Goals as goal

pub returns : goal.returns
returns c = λ first last inner e.
    let behind = length-append inner (last ∷ []) in
    let all = ap (λ (ms : List Mark). length ms) e in
    let same = length-map c.args.items.now mark in
    let least = c.min-first.ensures in
    inner_marks c.args.items.now [] inner first last c.min-first.result e (grind (arith, least, behind, all, same))
