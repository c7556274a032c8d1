use Rattle.std.proofs.Common.{◌≡◌, ◌∙◌, ℕ, true, List, refl, sym, ap, subst, inl, inr}
use Rattle.std.proofs.lemmas.Result.{err_from_is_err_and}
use Rattle.x690.specs.Identifiers.{Identifier}
use Rattle.x690.specs.Lengths.{definite, indefinite}
use Rattle.x690.specs.Faults.{rule_fault, identifier_violation}
use Rattle.x690.specs.Rules.{der_rule, are_shortest_length, allows_form}
use Rattle.asn1_headers.specs.declared.length.Length.{Length}
use Rattle.asn1_headers.specs.declared.length.Length.TheVariants.{Definite}
use Rattle.asn1_headers.specs.Length.{form_of}
use Rattle.asn1_headers.specs.Header.Reading.{id_read, der_violation}
use Rattle.asn1_headers.proofs.Reading.{begins_made, fault_behind, form_refused}
use Rattle.asn1_headers.proofs.header.reading.header_by_der.Goals as goal

pub returns-in_err-after : goal.returns-in_err-after
returns-in_err-after c =
    let p = err_from_is_err_and c.from_residual.result c.from_residual.ensures.1 in
    let f = c.in_err-after.ensures.err der_violation in
    rw (p.1, p.2) (f.0, inl f.1, f.2)

pub returns-then-not-are_shortest : goal.returns-then-not-are_shortest
returns-then-not-are_shortest c =
    rw c.broken.ensures (
      rule_fault identifier_violation,
      fault_behind der_rule c.args.bytes.now c.in_ok-after.after.now c.in_ok-after.identifier c.in_ok-after.ensures.ok
          (rule_fault identifier_violation) (inl (sym c.if-not-are_shortest.ensures, refl)),
      refl,
    )

pub returns-in_err-rest : goal.returns-in_err-rest
returns-in_err-rest c =
    let p = err_from_is_err_and c.from_residual-in_err-rest.result c.from_residual-in_err-rest.ensures.1 in
    let f = c.in_err-rest.ensures.err der_violation in
    rw (p.1, p.2) (
      f.0,
      fault_behind der_rule c.args.bytes.now c.in_ok-after.after.now c.in_ok-after.identifier c.in_ok-after.ensures.ok
          f.0 (inr (sym c.if-not-are_shortest.ensures, inl f.1)),
      f.2,
    )

-- of length octets that count the contents octets, the shortest are allowed
counting_allowed : (id : Identifier) (length : Length) (n : ℕ) (count : List ℕ) → length ≡ Definite n →
    are_shortest_length count ≡ true → allows_form der_rule id count (form_of length) ≡ true
counting_allowed id length n count e shortest =
    subst (λ (f : Length). allows_form der_rule id count (form_of f) ≡ true) (sym e) shortest

pub returns-in-Definite : goal.returns-in-Definite
returns-in-Definite c =
    let x = c.in_ok-after.identifier in
    let l = c.in_ok-rest.ensures.ok in
    begins_made der_rule c.args.bytes.now c.in_ok-after.after.now x c.in_ok-after.ensures.ok c.in_ok-rest.rest.now
    c.in_ok-rest.length c.with_length.result l.0 c.with_length.ensures.parts c.with_length.ensures.lent
    (sym c.if-not-are_shortest.ensures)
    (counting_allowed (id_read x) c.in_ok-rest.length _ l.0.0 c.in-Definite.is (sym l.1 ∙ c.if-shortest.true))

pub returns-in-Definite-2 : goal.returns-in-Definite-2
returns-in-Definite-2 c =
    let l = c.in_ok-rest.ensures.ok in
    rw c.broken-in-Definite-2.ensures
    (form_refused der_rule c.args.bytes.now c.in_ok-after.after.now c.in_ok-after.identifier c.in_ok-after.ensures.ok
    der_violation c.in_ok-rest.rest.now c.in_ok-rest.length (definite c.in-Definite.field-0) l.0
    (ap form_of c.in-Definite.is) (sym c.if-not-are_shortest.ensures) (sym l.1 ∙ c.if-shortest.false))

pub returns-in-Indefinite : goal.returns-in-Indefinite
returns-in-Indefinite c =
    rw c.indefinite_length.ensures
    (form_refused der_rule c.args.bytes.now c.in_ok-after.after.now c.in_ok-after.identifier c.in_ok-after.ensures.ok
    der_violation c.in_ok-rest.rest.now c.in_ok-rest.length indefinite c.in_ok-rest.ensures.ok.0
    (ap form_of c.in-Indefinite.is) (sym c.if-not-are_shortest.ensures) refl)
