use Rattle.std.proofs.Common.{◌+◌, ◌-◌, ◌≡◌, ◌++◌, ℕ, List, suc, arith, refl, subst}
use Rattle.std.proofs.lemmas.Result.{err_from_is_err_and}
use Rattle.x690.specs.Nested.{IsNestedElement}
use Rattle.x690.specs.Nested.Contents.{IsContent, ContentFault}
use Rattle.x690.specs.Nested.FaultHeaders.{ContentFaultHeaders}
use Rattle.x690.specs.Laws.Nested.{nested_element_half}
use Rattle.x690.specs.Laws.Nested.Contents.{header_fault_first, content_fault_behind}
use Rattle.x690.specs.Laws.Nested.FaultHeaders.{no_header_first, content_headers_behind}
use Rattle.asn1_headers.specs.declared.length.Length.{Length}
use Rattle.asn1_headers.specs.Header.{identifier_of}
use Rattle.asn1_headers.specs.Length.{form_of}
use Rattle.asn1_headers.specs.Elements.{element_parts}
use Rattle.asn1_headers.specs.Ber.{count_of}
use Rattle.x690.specs.Rules.{ber_rule}
use Rattle.asn1_headers.proofs.HeadersAndContents.{nested_read, identifier_kept}
use Rattle.asn1_headers.proofs.ber.element_to_depth.Goals as goal
use Rattle.asn1_headers.proofs.ber.element_to_depth.Goals.{In_ok-rest}

pub returns-in_err-after-clause-gives : goal.returns-in_err-after-clause-gives
returns-in_err-after-clause-gives c =
    let p = err_from_is_err_and c.from_residual.result c.from_residual.ensures.1 in
    let f = c.in_err-after.ensures in
    rw (p.1, p.2) (f.0, header_fault_first c.args.max_depth c.args.bytes.now f.0 f.1, f.2)

pub returns-in_err-rest-clause-gives : goal.returns-in_err-rest-clause-gives
returns-in_err-rest-clause-gives c =
    let p = err_from_is_err_and c.from_residual-in_err-rest.result c.from_residual-in_err-rest.ensures.1 in
    let h = c.in_ok-after.header in
    let b = c.in_ok-after.ensures in
    let f = c.in_err-rest.ensures.err in
    rw (p.1, p.2) (
      f.0,
      content_fault_behind c.args.max_depth c.args.bytes.now b.octets c.in_ok-after.after.now (identifier_of h)
          (form_of h.length) f.0 c.requires.deep b.header b.is
          (subst (λ (l : Length). ContentFault (form_of l) (c.args.max_depth - 1) c.in_ok-after.after.now f.0)
          c.length.ensures f.1),
      f.2,
    )

pub returns-in_err-after-clause-stops : goal.returns-in_err-after-clause-stops
returns-in_err-after-clause-stops c =
    let p = err_from_is_err_and c.from_residual.result c.from_residual.ensures.1 in
    let f = c.in_err-after.ensures in
    rw p.1 (0, no_header_first c.args.max_depth c.args.bytes.now f.0 f.1, omega arith)

pub returns-in_err-rest-clause-stops : goal.returns-in_err-rest-clause-stops
returns-in_err-rest-clause-stops c =
    let p = err_from_is_err_and c.from_residual-in_err-rest.result c.from_residual-in_err-rest.ensures.1 in
    let h = c.in_ok-after.header in
    let b = c.in_ok-after.ensures in
    let s = c.in_err-rest.ensures.stops in
    let stops =
    subst (λ (l : Length). ContentFaultHeaders (form_of l) (c.args.max_depth - 1) c.in_ok-after.after.now s.0)
    c.length.ensures s.1 in
    rw p.1 (
      suc s.0,
      content_headers_behind c.args.max_depth c.args.bytes.now b.octets c.in_ok-after.after.now (identifier_of h)
          (form_of h.length) s.0 c.requires.deep b.header b.is stops,
      omega (arith, s.2),
    )

-- the element that was read
element_read : (c : In_ok-rest) → (word : List ℕ) × IsNestedElement c.args.max_depth word
    (element_parts c.in_ok-after.header c.in_ok-rest.contents.now) (suc c.in_ok-rest.ensures.ok.0) ×
    (c.args.bytes.now ≡ word ++ c.in_ok-rest.rest.now)
element_read c =
    let h = c.in_ok-after.header in
    let s = c.in_ok-rest.ensures.ok in
    nested_read c.args.max_depth c.args.bytes.now c.in_ok-after.after.now c.in_ok-rest.contents.now
    c.in_ok-rest.rest.now h s.0 (element_parts h c.in_ok-rest.contents.now) c.requires.deep
    (λ k. omega (arith, c.type_inv.bytes k)) c.in_ok-after.ensures
    (subst (λ (l : Length). IsContent (form_of l) (c.args.max_depth - 1) c.in_ok-after.after.now
    c.in_ok-rest.contents.now c.in_ok-rest.rest.now s.0) c.length.ensures s.1)
    refl refl refl

pub returns-clause-ticks : goal.returns-clause-ticks
returns-clause-ticks c =
    let s = c.in_ok-rest.ensures.ok in
    let m = element_read (goal.at.returns-clause-ticks c).In_ok-rest in
    let n : count_of c.content_by_ber.new.steps ≡ count_of c.args.steps.now + suc s.0 = omega (arith, s.2) in
    record {
      word = m.0;
      headers = suc s.0;
      element = m.1;
      is = m.2;
      counted = n;
      half = nested_element_half c.args.max_depth m.0 (element_parts c.in_ok-after.header c.in_ok-rest.contents.now)
          (suc s.0) m.1;
    }

pub returns-clause-gives : goal.returns-clause-gives
returns-clause-gives c =
    let m = element_read (goal.at.returns-clause-gives c).In_ok-rest in
    record {
      front = record { word = m.0; fits = (suc c.in_ok-rest.ensures.ok.0, m.1); is = m.2 };
      kept = identifier_kept ber_rule c.args.bytes.now c.in_ok-after.after.now c.in_ok-after.header c.in_ok-after.header
          c.in_ok-after.ensures refl;
    }
