use Rattle.std.proofs.Common.{refl}
use Rattle.asn1_headers.specs.Error.{written_refusal}
use Rattle.asn1_rs_uses.proofs.Unwritten.{empty_part, name_unwritten}
use Rattle.asn1_rs_uses.proofs.refusals.write_name.Goals as goal

pub returns-clause-why : goal.returns-clause-why
returns-clause-why g c = λ a.
    let some = empty_part c.args.parts.now.items a in
    (name_unwritten _ _ c.args.parts.now.items _ _ c.write_der.result
    (c.write_der.ensures.at_once (written_refusal some.0) (λ k d h. tt) (some.0, some.1, refl))).0

pub returns-clause-nothing : goal.returns-clause-nothing
returns-clause-nothing g c = λ a.
    let some = empty_part c.args.parts.now.items a in
    (name_unwritten _ _ c.args.parts.now.items _ _ c.write_der.result
    (c.write_der.ensures.at_once (written_refusal some.0) (λ k d h. tt) (some.0, some.1, refl))).1
