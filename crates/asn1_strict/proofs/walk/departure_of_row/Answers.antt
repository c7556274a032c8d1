use Rattle.std.proofs.Common.{Option, MatchOption, subst, rules, ◌≡◌, ◌≢◌, [], true, false, length, reverse, arith, ap, sym, refl, inl, inr, ◌∙◌, length-append}
use Rattle.x690.specs.Rules.{der_rule}
use Rattle.x690.specs.Laws.Elements.{definite_element_two}
use Rattle.asn1_headers.specs.Elements.{element_parts}
use Rattle.asn1_strict.specs.declared.requirement.Departure.{Departure}
use Rattle.asn1_strict.specs.declared.requirement.Requirement.{Requirement}
use Rattle.asn1_strict.specs.Requirements.{requirement_of_fault, requirement_of_refusal, MissesOf}
use Rattle.asn1_strict.specs.Universal.{IsProper}
use Rattle.asn1_strict.specs.Strict.{StrictRow, element}
use Rattle.asn1_strict.specs.Departures.{here}
use Rattle.asn1_strict.proofs.Departing.{left_breaks, element_in_front, opened_breaks, popped_breaks}
use Rattle.asn1_strict.proofs.Rows.{all_nothing, popped, pushed, passed, behind_more, and_then, all_row, strict_back, strict_no_fault, empty_of}
use Rattle.asn1_strict.proofs.Requiring.{told, misses_not_proper}
use Rattle.asn1_strict.proofs.walk.departure_of_row.Goals as goal

pub returns-in-None : goal.returns-in-None
returns-in-None c =
    c.loop-view.invariant.same.1 (all_nothing c.loop-view.tails.items c.loop-view.view.now (search rules)
    (empty_of c.loop-view.view.now (search rules)))

pub loop-view-preserved-in-Some : goal.loop-view-preserved-in-Some
loop-view-preserved-in-Some c =
    let i = c.loop-view in
    let v : i.view.now ≡ [] = empty_of i.view.now (search rules) in
    record {
      place = omega (
        arith,
        i.invariant.place,
        ap length v,
        behind_more c.pop.new.self.items i.tails.items c.in-Some.tail c.in-Some.ensures.items,
      );
      same = and_then i.invariant.same
          (popped i.tails.items c.pop.new.self.items c.in-Some.tail i.view.now c.in-Some.ensures.items v);
      departs = λ departure b. i.invariant.departs departure (popped_breaks i.tails.items c.pop.new.self.items c.in-Some.tail i.offset
          i.view.now departure c.in-Some.ensures.items v b);
    }

pub returns-in-Err : goal.returns-in-Err
returns-in-Err c =
    let i = c.loop-view in
    let some : i.view.now ≢ [] = search rules in
    let f = c.in-Err.ensures in
    let r : c.requirement_of-requirement.result ≡ requirement_of_fault f.0 =
    c.requirement_of-requirement.ensures ∙ ap requirement_of_refusal f.2 ∙ told f.0 in
    let departure : Departure = record { offset = i.offset; requirement = c.requirement_of-requirement.result } in (
      λ row. strict_no_fault i.view.now f.0 some f.1 (all_row (reverse i.tails.items) i.view.now (i.invariant.same.0 row)),
      i.invariant.departs departure (left_breaks (reverse i.tails.items) i.offset i.view.now departure
          (here i.offset i.view.now departure refl (inl (some, (f.0, f.1, r))))),
    )

pub returns-in-Some-departure_of_element : goal.returns-in-Some-departure_of_element
returns-in-Some-departure_of_element c =
    let i = c.loop-view in
    let b = c.in-Ok.ensures.front in
    let p = element_parts c.in-Ok.element.1.0 c.in-Ok.element.1.1.now in
    let misses = subst (λ (o : Option Requirement). MatchOption o (IsProper p) (λ requirement. MissesOf requirement p))
    c.in-Some-departure_of_element.is c.departure_of_element.ensures in
    let departure : Departure = record { offset = i.offset; requirement = c.in-Some-departure_of_element.requirement } in (
      λ row. misses_not_proper c.in-Some-departure_of_element.requirement p misses (strict_back i.view.now b.word c.in-Ok.element.0.now p b.is
          b.fits (all_row (reverse i.tails.items) i.view.now (i.invariant.same.0 row))).0,
      i.invariant.departs departure (left_breaks (reverse i.tails.items) i.offset i.view.now departure
          (here i.offset i.view.now departure refl (inr (b.word, c.in-Ok.element.0.now, p, b.is, b.fits, misses)))),
    )

pub loop-view-preserved-then-constructed : goal.loop-view-preserved-then-constructed
loop-view-preserved-then-constructed c =
    let i = c.loop-view in
    let b = c.in-Ok.ensures.front in
    let p = element_parts c.in-Ok.element.1.0 c.in-Ok.element.1.1.now in
    let proper : IsProper p = search rules in
    let constructed : p.id.constructed ≡ true = search rules in
    record {
      place = omega (
        arith,
        i.invariant.place,
        ap length b.is,
        length-append b.word c.in-Ok.element.0.now,
        definite_element_two der_rule b.word p b.fits,
        behind_more i.tails.items c.push.new.self.items c.in-Ok.element.0 c.in_ok-push.ensures.items,
      );
      same = and_then i.invariant.same
          (pushed i.tails.items c.push.new.self.items c.in-Ok.element.0 i.view.now b.word p c.in_ok-push.ensures.items b.is
          b.fits constructed proper);
      departs = λ departure h. i.invariant.departs departure (opened_breaks i.tails.items c.push.new.self.items c.in-Ok.element.0 i.offset _
          i.view.now b.word p departure c.in_ok-push.ensures.items b.is b.fits proper constructed
          (omega (arith, ap length b.is, length-append b.word c.in-Ok.element.0.now)) refl
          (omega (
            arith,
            ap length b.is,
            length-append b.word c.in-Ok.element.0.now,
            definite_element_two der_rule b.word p b.fits,
          ))
          (λ s t. element i.view.now b.word c.in-Ok.element.0.now p b.is b.fits proper (λ k. s) t) h);
    }

pub loop-view-preserved-else-constructed-2 : goal.loop-view-preserved-else-constructed-2
loop-view-preserved-else-constructed-2 c =
    let i = c.loop-view in
    let b = c.in-Ok.ensures.front in
    let p = element_parts c.in-Ok.element.1.0 c.in-Ok.element.1.1.now in
    let proper : IsProper p = search rules in
    let primitive : p.id.constructed ≡ false = search rules in
    record {
      place = omega (arith, i.invariant.place, ap length b.is, length-append b.word c.in-Ok.element.0.now);
      same = and_then i.invariant.same
          (passed (reverse i.tails.items) i.view.now b.word c.in-Ok.element.0.now p b.is b.fits primitive proper);
      departs = λ departure h.
          let below : p.id.constructed ≡ true → StrictRow p.content = λ k. absurd (let e = sym primitive ∙ k in cc) in
          i.invariant.departs departure (element_in_front (reverse i.tails.items) i.offset _ i.view.now b.word c.in-Ok.element.0.now
          p departure b.is b.fits proper below (omega (arith, ap length b.is, length-append b.word c.in-Ok.element.0.now)) h
          (λ t. element i.view.now b.word c.in-Ok.element.0.now p b.is b.fits proper below t));
    }
