use Rattle.std.proofs.Common.{◌≡◌, ◌+◌, ◌-◌, ◌≤◌, length, ap, subst, arith, refl, Ok, suc, length-append}
use Rattle.std.proofs.lemmas.Result.{err_from_is_err_and}
use Rattle.x690.specs.Octets.{IsOctets}
use Rattle.x690.specs.Lengths.{definite, indefinite}
use Rattle.x690.specs.Rules.{ber_rule}
use Rattle.x690.specs.Elements.{IsHeader}
use Rattle.x690.specs.Faults.{missing, depth_fault}
use Rattle.x690.specs.Nested.{end_of_contents}
use Rattle.x690.specs.Nested.Contents.{EndFault}
use Rattle.x690.specs.Nested.FaultHeaders.{EndFaultHeaders}
use Rattle.x690.specs.Laws.Octets.{octets_back}
use Rattle.x690.specs.Laws.Headers.{header_two}
use Rattle.x690.specs.Laws.Nested.Contents.{header_fault_first, too_deep, content_fault_behind}
use Rattle.x690.specs.Laws.Nested.FaultHeaders.{no_header_first, one_header_too_deep, content_headers_behind}
use Rattle.asn1_headers.specs.declared.length.Length.{Length}
use Rattle.asn1_headers.specs.Length.{form_of}
use Rattle.asn1_headers.proofs.OpenContents.{all_closed, next_is_end, next_is_definite, next_is_opened, one_ends}
use Rattle.asn1_headers.proofs.OpenContents.{next_fails, one_header_more}
use Rattle.asn1_headers.proofs.ber.skip_content.Goals as goal
use Rattle.asn1_headers.proofs.ber.skip_content.Goals.{In_ok-after, In_err-after, Then-depth-eq0}
use Rattle.asn1_headers.proofs.ber.skip_content.Goals.{In_err-tail-in-Definite}

-- the header that was read has two octets at least, and the rest is octets
header_passed : (c : In_ok-after) → length c.in_ok-after.after.now + 2 ≤ length c.loop-opened.rest.now
header_passed c =
    let b = c.in_ok-after.ensures.ok in
    omega (
      arith,
      header_two ber_rule b.0 b.1 (form_of c.in_ok-after.length) b.2,
      ap length b.3,
      length-append b.0 c.in_ok-after.after.now,
    )

after_octets : (c : In_ok-after) → IsOctets c.in_ok-after.after.now
after_octets c =
    let b = c.in_ok-after.ensures.ok in
    octets_back b.0 c.in_ok-after.after.now (subst IsOctets b.3 c.loop-opened.invariant.octets)

-- the fault of the next header is that of the whole, and no header more is read
header_fails : (c : In_err-after) → EndFault (c.args.max_depth - 1) c.args.bytes.now c.in_err-after.ensures.err.0 ×
    EndFaultHeaders (c.args.max_depth - 1) c.args.bytes.now ((c.loop-opened.steps.count - c.args.steps.now.count) + 0)
header_fails c =
    let i = c.loop-opened in
    let f = c.in_err-after.ensures.err in
    next_fails i.opened i.depth _ i.rest.now _ f.0 _ 0 c.loop-opened-test.true
    (header_fault_first i.depth i.rest.now f.0 f.1) (no_header_first i.depth i.rest.now f.0 f.1) i.invariant.opened

pub returns-in_err-after-clause-err : goal.returns-in_err-after-clause-err
returns-in_err-after-clause-err c =
    let p = err_from_is_err_and c.from_residual.result c.from_residual.ensures.1 in
    let f = c.in_err-after.ensures.err in
    rw (p.1, p.2) (f.0, (header_fails (goal.at.returns-in_err-after-clause-err c).In_err-after).0, f.2)

pub returns-in_err-after-clause-stops : goal.returns-in_err-after-clause-stops
returns-in_err-after-clause-stops c =
    let p = err_from_is_err_and c.from_residual.result c.from_residual.ensures.1 in
    rw p.1 (
      _,
      (header_fails (goal.at.returns-in_err-after-clause-stops c).In_err-after).1,
      omega (arith, c.loop-opened.invariant.grows),
    )

-- the depth is spent at the next header, the last that is read
depth_fails : (c : Then-depth-eq0) → EndFault (c.args.max_depth - 1) c.args.bytes.now depth_fault ×
    EndFaultHeaders (c.args.max_depth - 1) c.args.bytes.now ((c.loop-opened.steps.count - c.args.steps.now.count) + 1)
depth_fails c =
    let i = c.loop-opened in
    let b = c.in_ok-after.ensures.ok in
    let why = too_deep i.depth i.rest.now b.0 c.in_ok-after.after.now b.1
    (form_of c.in_ok-after.length) c.if-depth-eq0.true b.2 b.3 in
    let stops = one_header_too_deep i.depth i.rest.now b.0 c.in_ok-after.after.now b.1
    (form_of c.in_ok-after.length) c.if-depth-eq0.true b.2 b.3 in
    next_fails i.opened i.depth _ i.rest.now _ depth_fault _ 1 c.loop-opened-test.true why stops i.invariant.opened

pub returns-then-depth-eq0-clause-err : goal.returns-then-depth-eq0-clause-err
returns-then-depth-eq0-clause-err c =
    (depth_fault, (depth_fails (goal.at.returns-then-depth-eq0-clause-err c).Then-depth-eq0).0, refl)

pub returns-then-depth-eq0-clause-stops : goal.returns-then-depth-eq0-clause-stops
returns-then-depth-eq0-clause-stops c = (
  _,
  (depth_fails (goal.at.returns-then-depth-eq0-clause-stops c).Then-depth-eq0).1,
  omega (arith, c.loop-opened.invariant.grows),
)

pub loop-opened-preserved-in-Some : goal.loop-opened-preserved-in-Some
loop-opened-preserved-in-Some c =
    let i = c.loop-opened in
    record {
      depths = omega arith;
      few = omega (arith, ap length c.in-Some.ensures.some);
      grows = omega arith;
      octets =
          octets_back end_of_contents c.in-Some.tail.now (subst IsOctets c.in-Some.ensures.some i.invariant.octets);
      opened = λ outcome headers r.
          one_header_more _ _ outcome c.args.steps.now.count i.steps.count headers i.invariant.grows
          (i.invariant.opened outcome (suc headers) (next_is_end i.opened i.depth i.rest.now c.in-Some.tail.now outcome
          headers c.loop-opened-test.true (omega arith) c.in-Some.ensures.some r));
    }

-- octets are missing behind the next header, the last that is read
content_fails : (c : In_err-tail-in-Definite) →
    EndFault (c.args.max_depth - 1) c.args.bytes.now (missing c.in_err-tail-in-Definite.ensures.0) ×
    EndFaultHeaders (c.args.max_depth - 1) c.args.bytes.now ((c.loop-opened.steps.count - c.args.steps.now.count) + 1)
content_fails c =
    let i = c.loop-opened in
    let b = c.in_ok-after.ensures.ok in
    let f = c.in_err-tail-in-Definite.ensures in
    let h : IsHeader ber_rule b.0 b.1 (definite c.in-Definite.len) =
    subst (λ (l : Length). IsHeader ber_rule b.0 b.1 (form_of l)) c.in-Definite.is b.2 in
    let why = content_fault_behind i.depth i.rest.now b.0 c.in_ok-after.after.now b.1 (definite c.in-Definite.len)
    (missing f.0) (omega arith) h b.3 (f.0, f.1, f.2, refl) in
    let stops = content_headers_behind i.depth i.rest.now b.0 c.in_ok-after.after.now b.1 (definite c.in-Definite.len) 0
    (omega arith) h b.3 (omega (arith, f.1, f.2), refl) in
    next_fails i.opened i.depth _ i.rest.now _ (missing f.0) _ 1 c.loop-opened-test.true why stops i.invariant.opened

pub returns-in_err-tail-in-Definite-clause-err : goal.returns-in_err-tail-in-Definite-clause-err
returns-in_err-tail-in-Definite-clause-err c =
    let r = c.from_residual-in_err-tail-in-Definite in
    let p = err_from_is_err_and r.result r.ensures.1 in
    let f = c.in_err-tail-in-Definite.ensures in
    rw (p.1, p.2) (
      missing f.0,
      (content_fails (goal.at.returns-in_err-tail-in-Definite-clause-err c).In_err-tail-in-Definite).0,
      f.3,
    )

pub returns-in_err-tail-in-Definite-clause-stops : goal.returns-in_err-tail-in-Definite-clause-stops
returns-in_err-tail-in-Definite-clause-stops c =
    let r = c.from_residual-in_err-tail-in-Definite in
    let p = err_from_is_err_and r.result r.ensures.1 in
    rw p.1 (
      _,
      (content_fails (goal.at.returns-in_err-tail-in-Definite-clause-stops c).In_err-tail-in-Definite).1,
      omega (arith, c.loop-opened.invariant.grows),
    )

pub loop-opened-preserved-in-Definite : goal.loop-opened-preserved-in-Definite
loop-opened-preserved-in-Definite c =
    let i = c.loop-opened in
    let b = c.in_ok-after.ensures.ok in
    let s = c.in_ok-tail-in-Definite.ensures in
    let tail = c.in_ok-tail-in-Definite.tail.now in
    let content = c.in_ok-tail-in-Definite._content.now in
    let m = (goal.at.loop-opened-preserved-in-Definite c).In_ok-after in
    let whole = after_octets m in
    let passed = header_passed m in
    let h : IsHeader ber_rule b.0 b.1 (definite c.in-Definite.len) =
    subst (λ (l : Length). IsHeader ber_rule b.0 b.1 (form_of l)) c.in-Definite.is b.2 in
    record {
      depths = omega arith;
      few = omega (arith, passed, ap length s.1, length-append content tail);
      grows = omega arith;
      octets = octets_back content tail (subst IsOctets s.1 whole);
      opened = λ outcome headers r.
          one_header_more _ _ outcome c.args.steps.now.count i.steps.count headers i.invariant.grows
          (i.invariant.opened outcome (suc headers) (next_is_definite i.opened i.depth i.rest.now b.0
          c.in_ok-after.after.now content tail b.1 c.in-Definite.len outcome headers c.loop-opened-test.true
          (omega arith) whole h b.3 s.1 s.0 c.in_default.ensures.none r));
    }

pub loop-opened-preserved : goal.loop-opened-preserved
loop-opened-preserved c =
    let i = c.loop-opened in
    let b = c.in_ok-after.ensures.ok in
    let m = (goal.at.loop-opened-preserved c).In_ok-after in
    let passed = header_passed m in
    let h : IsHeader ber_rule b.0 b.1 indefinite =
    subst (λ (l : Length). IsHeader ber_rule b.0 b.1 (form_of l)) c.in-Indefinite.is b.2 in
    record {
      depths = omega arith;
      few = omega (arith, passed);
      grows = omega arith;
      octets = after_octets m;
      opened = λ outcome headers r.
          one_header_more _ _ outcome c.args.steps.now.count i.steps.count headers i.invariant.grows
          (i.invariant.opened outcome (suc headers) (next_is_opened i.opened i.depth i.rest.now b.0
          c.in_ok-after.after.now b.1 outcome headers c.loop-opened-test.true (omega arith) h b.3 r));
    }

pub returns-clause-ok : goal.returns-clause-ok
returns-clause-ok c =
    let i = c.loop-opened in
    let e : i.opened ≡ 0 = omega arith in
    let r = one_ends (c.args.max_depth - 1) c.args.bytes.now i.rest.now _
    (i.invariant.opened (Ok i.rest.now) 0 (all_closed i.opened i.depth i.rest.now e)) in
    let n : i.steps.count ≡ c.args.steps.now.count + (r.1 + 1) = omega (arith, r.3) in
    (r.0, r.1, r.2, n)
