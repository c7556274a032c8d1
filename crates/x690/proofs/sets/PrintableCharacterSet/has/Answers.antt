use Rattle.std.proofs.Common.{◌≡◌, ◌<◌, ◌∙◌, false, map, get_or, ap, arith, refl}
use Rattle.std.specs.List.{range_with_len}
use Rattle.std.proofs.lemmas.List.FromFn.{get_or-map-range_with_len}
use Rattle.x690.specs.declared.sets.TheConstants.{PRINTABLE}
use Rattle.x690.specs.Sets.{is_printable}
use Rattle.x690.proofs.sets.PrintableCharacterSet.has.Goals as goal

pub returns : goal.returns
returns c =
    let octet = c.args.octet in
    let table : PRINTABLE ≡ map is_printable (range_with_len 0 256) = refl in
    let within : octet < 256 = omega arith in
    ap (λ row. get_or row octet false) table
    ∙ get_or-map-range_with_len is_printable 0 256 octet octet false within (omega arith)
