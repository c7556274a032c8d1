use Rattle.std.proofs.Common.{◌≡◌, ℕ, List, ◌++◌, take, chars, Ok, Err, sym, ap, subst, ◌∙◌}
use Rattle.std.proofs.Common.{append_assoc, append-nil, rules}
use Rattle.std.proofs.lemmas.Bool.{eqb-true}
use Rattle.std.proofs.lemmas.Result.{err_from_is_err_and}
use Rattle.x690.specs.Characters.{code_of}
use Rattle.asn1_headers.specs.declared.error.SerializeError.{SerializeError}
use Rattle.asn1_headers.specs.Writer.{WriterState, Wrote, SumsWritten}
use Rattle.asn1_headers.specs.Laws.Writing.{Wrote_front, Wrote_then_err, Wrote_sum}
use Rattle.asn1_rs.proofs.CodedTexts.{no_text_left}
use Rattle.asn1_rs.proofs.asn1_types.strings.writing.put_text.Goals as goal

-- octets of which a front was written; what is left begins with a piece
longer : (all front left piece more : List ℕ) → all ≡ front ++ left → left ≡ piece ++ more →
    all ≡ (front ++ piece) ++ more
longer all front left piece more begun goes =
    begun ∙ ap (λ (xs : List ℕ). front ++ xs) goes ∙ sym (append_assoc front piece more)

module _ (all front left piece more : List ℕ) (begun : all ≡ front ++ left) (goes : left ≡ piece ++ more)
    {a b c : WriterState} {n : ℕ} (written : Wrote front a b (Ok n)) where
  piece_err : {e : SerializeError} → Wrote piece b c (Err e) → Wrote all a c (Err e)
  piece_err {e} q = subst (λ (xs : List ℕ). Wrote xs a c (Err e)) (sym (longer all front left piece more begun goes))
      (Wrote_front more (Wrote_then_err written q))

  sum_err : {m : ℕ} {e : SerializeError} → Wrote piece b c (Ok m) → SumsWritten n m (Err e) → Wrote all a c (Err e)
  sum_err {m} {e} q s = subst (λ (xs : List ℕ). Wrote xs a c (Err e))
      (sym (longer all front left piece more begun goes)) (Wrote_front more (Wrote_sum (Err e) written q s))

pub returns-in_err-count-clause-wrote : goal.returns-in_err-count-clause-wrote
returns-in_err-count-clause-wrote g c =
    let octets_of = g.C.CharacterCode.octets_of in
    let inv = c.loop-rest.invariant.1 in
    let p = err_from_is_err_and c.from_residual.result c.from_residual.ensures.1 in
    rw (p.1, p.2) (piece_err _ inv.0 _ _ (code_of octets_of (chars c.fill-len.result.1.now)) inv.1
    c.fill-len.ensures.octets inv.2 c.in_err-count.ensures.wrote)

pub returns-in_err-written-clause-wrote : goal.returns-in_err-written-clause-wrote
returns-in_err-written-clause-wrote g c =
    let octets_of = g.C.CharacterCode.octets_of in
    let inv = c.loop-rest.invariant.1 in
    let p = err_from_is_err_and c.from_residual-in_err-written.result c.from_residual-in_err-written.ensures.1 in
    rw (p.1, p.2) (sum_err _ inv.0 _ _ (code_of octets_of (chars c.fill-len.result.1.now)) inv.1
    c.fill-len.ensures.octets inv.2 c.in_ok-count.ensures.wrote c.in_err-written.ensures)

pub loop-rest-preserved : goal.loop-rest-preserved
loop-rest-preserved g c =
    let octets_of = g.C.CharacterCode.octets_of in
    let inv = c.loop-rest.invariant.1 in
    let piece = take c.fill-len.result.0 c.fill-len.new.buffer in (
      search rules,
      (
        inv.0 ++ piece,
        longer _ inv.0 _ piece (code_of octets_of (chars c.fill-len.result.1.now)) inv.1 c.fill-len.ensures.octets,
        Wrote_sum (Ok c.in_ok-written.written) inv.2 c.in_ok-count.ensures.wrote c.in_ok-written.ensures,
      ),
    )

pub returns-clause-wrote : goal.returns-clause-wrote
returns-clause-wrote g c =
    let octets_of = g.C.CharacterCode.octets_of in
    let inv = c.loop-rest.invariant.1 in
    let none =
    no_text_left octets_of c.loop-rest.rest.now (eqb-true _ _ (sym c.is_empty.ensures ∙ c.loop-rest-test.false)) in
    subst (λ (xs : List ℕ). Wrote xs (g.W.DerWrite.state c.args.w.now) (g.W.DerWrite.state c.loop-rest.w)
    (Ok c.loop-rest.written)) (sym (inv.1 ∙ ap (λ (xs : List ℕ). inv.0 ++ xs) none ∙ append-nil inv.0)) inv.2
