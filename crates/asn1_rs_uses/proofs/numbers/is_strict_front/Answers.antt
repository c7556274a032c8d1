use Rattle.std.proofs.Common.{◌∙◌, sym, refl, arith}
use Rattle.std.proofs.lemmas.Slice.Eq.{bytes_eq-Decides}
use Rattle.asn1_rs_uses.proofs.numbers.is_strict_front.Goals as goal

pub returns-clause-strict : goal.returns-clause-strict
returns-clause-strict c =
    let law = c.strict_fronts_are_written_again.ensures.again c.args.x c.args.front.now (c.args.x, refl, omega arith)
    (omega arith) in
    let same = bytes_eq-Decides c.as_slice.result.now c.args.front.now in (
      λ h. law.1 (sym (same.0 (sym c.eq.ensures ∙ h)) ∙ c.as_slice.ensures.value ∙ c.in_ok-written.ensures.plain),
      λ s. c.eq.ensures ∙ same.1 (c.as_slice.ensures.value ∙ c.in_ok-written.ensures.plain ∙ sym (law.0 s)),
    )

pub returns-clause-of_parts : goal.returns-clause-of_parts
returns-clause-of_parts c = λ id content f.
    let law = c.strict_fronts_are_written_again.ensures.of_parts c.args.x id content c.args.front.now f (omega arith) in
    let same = bytes_eq-Decides c.as_slice.result.now c.args.front.now in (
      λ h. law.1 (sym (same.0 (sym c.eq.ensures ∙ h)) ∙ c.as_slice.ensures.value ∙ c.in_ok-written.ensures.plain),
      λ s. c.eq.ensures ∙ same.1 (c.as_slice.ensures.value ∙ c.in_ok-written.ensures.plain ∙ sym (law.0 s)),
    )
