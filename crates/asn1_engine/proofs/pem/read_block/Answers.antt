use Rattle.std.proofs.Common.{◌≡◌, suc, List, ℕ, inr, sym, ◌∙◌, subst, arith}
use Rattle.std.proofs.lemmas.Bool.{false≢true}
use Rattle.std.proofs.lemmas.Result.{err_from_is_err_and}
use Rattle.std.proofs.lemmas.Slice.Eq.{bytes_eq-Decides}
use Rattle.asn1_engine.specs.Pem.{Encloses, IsBoundary, IsEnclosed, IsInner, end_front, no_line}
use Rattle.asn1_engine.proofs.Enclosed.{encloses_more, not_decoded}
use Rattle.asn1_engine.proofs.pem.read_block.Goals as goal

pub loop-line-init : goal.loop-line-init
loop-line-init c =
    let text = c.args.lines.now.rest.now in (
      0,
      subst (λ (base64 : List ℕ). Encloses 0 text base64 text) (sym c.new-base64.ensures.items) (no_line text),
      omega arith,
      omega arith,
      omega arith,
    )

pub loop-line-preserved : goal.loop-line-preserved
loop-line-preserved c =
    let text = c.args.lines.now.rest.now in
    let so_far = c.loop-line.invariant in
    let more = c.next_line.new.self.rest.now in
    let inner : IsInner c.in-Some.line.now =
    (c.in-None.ensures, λ e. false≢true (sym c.if-is_encrypting.false ∙ c.is_encrypting.ensures.1 e)) in
    let encloses = encloses_more so_far.0 text c.loop-line.base64.items c.loop-line.lines.rest.now c.in-Some.line.now more
    so_far.1 c.in-Some.ensures.some inner in (
      suc so_far.0,
      subst (λ (base64 : List ℕ). Encloses (suc so_far.0) text base64 more) (sym c.in_ok-push_base64-in-None.ensures) encloses,
      omega (arith, so_far.2, c.in-Some.ensures.counted),
      omega (arith, so_far.3, c.in-Some.ensures.counted, c.in-Some.ensures.fewer),
      omega (arith, so_far.4, c.in-Some.ensures.fewer),
    )

pub returns-in_err-octets_of-in-Some-end_label-clause-err :
    goal.returns-in_err-octets_of-in-Some-end_label-clause-err
returns-in_err-octets_of-in-Some-end_label-clause-err c =
    let same : c.in-Some-end_label.other.now ≡ c.args.label.now =
    (bytes_eq-Decides c.in-Some-end_label.other.now c.args.label.now).0 (sym c.eq.ensures ∙ c.if-eq.true) in
    let enclosed : IsEnclosed c.args.lines.now.rest.now c.args.label.now c.loop-line.base64.items
    c.next_line.new.self.rest.now c.loop-line.invariant.0 = record {
      last = c.loop-line.lines.rest.now;
      line = c.in-Some.line.now;
      encloses = c.loop-line.invariant.1;
      is_line = c.in-Some.ensures.some;
      ends = subst (λ (label : List ℕ). IsBoundary end_front label c.in-Some.line.now) same c.in-Some-end_label.ensures;
    } in
    let p = err_from_is_err_and c.from_residual-in_err-octets_of-in-Some-end_label.result
    c.from_residual-in_err-octets_of-in-Some-end_label.ensures.1 in
    rw (p.1, p.2) (not_decoded c.args.lines.now.taken c.loop-line.invariant.0 c.args.label.now c.args.lines.now.rest.now
    c.loop-line.base64.items c.as_slice.result.now c.next_line.new.self.rest.now
    c.in_err-octets_of-in-Some-end_label.field-0.0 enclosed c.as_slice.ensures.value
    c.in_err-octets_of-in-Some-end_label.ensures.err)

pub returns-in-Some-2-clause-err : goal.returns-in-Some-2-clause-err
returns-in-Some-2-clause-err c =
    let other = c.in-Some-end_label.other.now in
    inr (
      other,
      c.loop-line.base64.items,
      c.next_line.new.self.rest.now,
      c.loop-line.invariant.0,
      record {
        last = c.loop-line.lines.rest.now;
        line = c.in-Some.line.now;
        encloses = c.loop-line.invariant.1;
        is_line = c.in-Some.ensures.some;
        ends = c.in-Some-end_label.ensures;
      },
      λ e. false≢true (sym c.if-eq.false ∙ c.eq.ensures ∙ (bytes_eq-Decides other c.args.label.now).1 e),
      omega (arith, c.loop-line.invariant.2, c.in-Some.ensures.counted),
    )
