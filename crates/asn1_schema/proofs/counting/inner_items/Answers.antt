use Rattle.std.proofs.Common.{length, ap, arith}
use Rattle.std.specs.Prelude.{◌++◌, ◌∷◌, [], List}
use Rattle.std.proofs.lemmas.List.{length-map}
use Rattle.std.proofs.Common.{length-append}
use Rattle.asn1_schema.specs.Tape.{Mark, mark}
use Rattle.asn1_schema.proofs.Counts.{inner_marks}
use Rattle.asn1_schema.proofs.counting.inner_items.Goals as goal

pub returns : goal.returns
returns c = λ front inner first last e p.
    let whole = length-append front (first ∷ (inner ++ last ∷ [])) in
    let behind = length-append inner (last ∷ []) in
    let all = ap (λ (ms : List Mark). length ms) e in
    let same = length-map c.args.tape.now mark in
    let least = c.min-first.ensures in
    inner_marks c.args.tape.now front inner first last c.min-first.result e
    (grind (arith, least, whole, behind, all, same, p))
