use Rattle.std.proofs.Common.{Option, MatchOption, rules, ◌≡◌, ◌≢◌, ◌∙◌, ℕ, List, [], refl, sym, subst, ap, length, inl, inr}
use Rattle.asn1_headers.specs.Elements.{element_parts}
use Rattle.asn1_strict.specs.declared.requirement.Departure.{Departure}
use Rattle.asn1_strict.specs.Strict.{StrictRow}
use Rattle.asn1_strict.specs.Departures.{Departs}
use Rattle.asn1_strict.specs.Requirements.{requirement_of_refusal}
use Rattle.asn1_strict.proofs.Orders.{front_of}
use Rattle.asn1_strict.proofs.Requiring.{told}
use Rattle.asn1_strict.proofs.Rows.{nothing_behind, no_element, one_element, whole_of, empty_of}
use Rattle.asn1_strict.proofs.walk.departure_of_der.Goals as goal

pub returns-in-Err : goal.returns-in-Err
returns-in-Err c =
    let f = c.in-Err.ensures in (
      no_element c.args.octets.now f.0 f.1,
      inl (refl, (f.0, f.1, c.requirement_of-requirement.ensures ∙ ap requirement_of_refusal f.2 ∙ told f.0)),
    )

pub returns-in-Some : goal.returns-in-Some
returns-in-Some c =
    let octets = c.args.octets.now in
    let b = c.in-Ok.ensures.front in
    let rest = c.in-Ok.rest.now in
    let p = element_parts c.in-Ok._element.0 c.in-Ok._element.1.now in
    let w : c.split_at.result.0.now ≡ b.word = c.split_at.ensures.front ∙ front_of octets b.word rest b.is in
    let x = subst (λ (o : Option Departure). MatchOption o (StrictRow c.split_at.result.0.now)
    (λ departure. (StrictRow c.split_at.result.0.now → ⊥) × Departs 0 c.split_at.result.0.now departure))
    c.in-Some.is c.in_ok-departure.ensures in (
      λ s. x.0 (subst StrictRow (whole_of octets b.word rest b.is (nothing_behind octets b.word rest p b.is b.fits s) ∙ sym w) s.2),
      inr (b.word, rest, p, b.is, b.fits, inl (subst (λ (v : List ℕ). Departs 0 v c.in-Some.departure) w x.1)),
    )

pub returns-then-is_empty : goal.returns-then-is_empty
returns-then-is_empty c =
    let octets = c.args.octets.now in
    let b = c.in-Ok.ensures.front in
    let rest = c.in-Ok.rest.now in
    let p = element_parts c.in-Ok._element.0 c.in-Ok._element.1.now in
    let w : c.split_at.result.0.now ≡ b.word = c.split_at.ensures.front ∙ front_of octets b.word rest b.is in
    let none : rest ≡ [] = empty_of rest (search rules) in
    let row : StrictRow c.split_at.result.0.now = search rules in
    one_element octets b.word rest p b.is b.fits none (subst StrictRow (w ∙ sym (whole_of octets b.word rest b.is none)) row)

pub returns : goal.returns
returns c =
    let octets = c.args.octets.now in
    let b = c.in-Ok.ensures.front in
    let rest = c.in-Ok.rest.now in
    let p = element_parts c.in-Ok._element.0 c.in-Ok._element.1.now in
    let w : c.split_at.result.0.now ≡ b.word = c.split_at.ensures.front ∙ front_of octets b.word rest b.is in
    let some : rest ≢ [] = search rules in
    let row : StrictRow c.split_at.result.0.now = search rules in (
      λ s. some (nothing_behind octets b.word rest p b.is b.fits s),
      inr (b.word, rest, p, b.is, b.fits, inr (subst StrictRow w row, some, ap length w, refl)),
    )
