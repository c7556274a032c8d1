use Rattle.std.proofs.Common.{length, arith, ap, refl}
use Rattle.std.proofs.lemmas.List.{take_rest}
use Rattle.x690.specs.Faults.{missing, tag_fault}
use Rattle.x690.specs.Laws.Identifiers.{no_identifier}
use Rattle.asn1_headers.proofs.Reading.{nothing}
use Rattle.asn1_headers.proofs.header.reading.read_identifier.Goals as goal

pub returns-in_default-clause-err : goal.returns-in_default-clause-err
returns-in_default-clause-err c = λ at. (missing 1, (nothing c.args.bytes.now (omega arith), refl), refl)

pub returns-in-None-clause-err : goal.returns-in-None-clause-err
returns-in-None-clause-err c =
    let bytes = c.args.bytes.now in
    λ at. (
      tag_fault,
      (
        λ e. let l = ap length e in omega arith,
        no_identifier bytes _ _ _ _ c.first_octet-class.ensures.low c.if-low-lt31.false c.first_octet-class.ensures.sum
            (take_rest bytes 1) c.in-None.ensures.none,
      ),
      refl,
    )
