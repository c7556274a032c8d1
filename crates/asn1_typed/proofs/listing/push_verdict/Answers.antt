use Rattle.std.proofs.Common.{refl, inr, sym, ap, ◌∙◌}
use Rattle.asn1_schema.specs.Sound.{is_sound}
use Rattle.asn1_typed.specs.Listing.{unsound_text}
use Rattle.asn1_typed.proofs.listing.push_verdict.Goals as goal

pub returns-in_ok-push_unsound-in-Some-clause-prints : goal.returns-in_ok-push_unsound-in-Some-clause-prints
returns-in_ok-push_unsound-in-Some-clause-prints c =
    let e = c.in_ok-push_unsound-in-Some.ensures in
    (unsound_text e.0, inr (ap is_sound (sym c.deref.ensures.value) ∙ sym c.in-Some.ensures, e.0, refl), e.1)
