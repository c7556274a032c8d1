use Rattle.std.proofs.Common.{◌≡◌, true, inl, inr}
use Rattle.asn1_schema.specs.Joined.{said}
use Rattle.asn1_schema.specs.Moments.{IsEnd}
use Rattle.asn1_schema.proofs.MomentTexts.{then_rest}
use Rattle.asn1_schema.proofs.moments.is_minutes.Goals.{else-short-via-then-short+else-is_end, else-short-via-else-short}
use Rattle.asn1_schema.proofs.moments.is_minutes.Goals as goal

pub returns-in-None : goal.returns-in-None
returns-in-None c =
    let none : c.args.short ≡ true → IsEnd (said c.args.text) → ⊥ = elim c.else-short.branch [
      | else-short-via-then-short+else-is_end w ↦ λ s e. let y = w.is_end.ensures.1 e in let n = w.if-is_end.false in absurd (cc)
      | else-short-via-else-short w ↦ λ s e. let n = w.if-short.false in absurd (cc)
    ] in (
      λ f. absurd (cc (f)),
      λ a. elim a [
        | inl x ↦ absurd (none x.0 x.1)
        | inr t ↦ let r = then_rest 99 IsEnd (said c.args.text) t in absurd (c.in-None.ensures.only r.0 r.1)
      ],
    )
