use Rattle.std.proofs.Common.{◌≡◌, ◌∙◌, ◌<◌, ◌^◌, subst, List, ℕ, length}
use Rattle.asn1_rs.specs.ToDer.{whole_octets}
use Rattle.asn1_rs_profiles.proofs.Comparing.{differs, unwritten}
use Rattle.asn1_rs_profiles.proofs.strict.compare.Goals as goal
use Rattle.asn1_rs_profiles.specs.Strict.{DifferAt}

pub returns-in-Err : goal.returns-in-Err
returns-in-Err g c = unwritten c.in-Err.e c.refusal_of_writing.result c.args.octets.now _ c.refusal_of_writing.ensures
    c.length_fits.ensures (λ s. c.in-Err.ensures.strict c.args.octets.now s)

pub returns : goal.returns
returns g c =
    let at = c.in-Some.at in
    let octets = c.args.octets.now in
    let written = c.in-Ok.written.items in
    let whole = whole_octets g.T.ToDer.writing c.args.value.now in
    let held : c.as_slice-again.result.now ≡ written = c.as_slice-again.ensures.value in
    let d = subst (λ (xs : List ℕ). DifferAt at octets xs) held c.in-Some.ensures in
    let e = differs at octets written whole _ c.in-Ok.ensures.plain (λ s. c.in-Ok.ensures.strict octets s) d in
    (e.0, e.1, subst (λ (xs : List ℕ). length xs < 2 ^ 64) (held ∙ c.in-Ok.ensures.plain) c.length_fits-2.ensures)
