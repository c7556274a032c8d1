use Rattle.std.proofs.Common.{◌≡◌, ℕ, ◌+◌, ◌-◌, true, List, ◌++◌, length, take, drop, chars, Ok, Err, sym, ap, subst}
use Rattle.std.proofs.Common.{◌∙◌, append_assoc, length-append, arith, rules}
use Rattle.std.proofs.lemmas.Bool.{eqb-true}
use Rattle.x690.specs.Characters.{code_of}
use Rattle.asn1_headers.specs.declared.error.SerializeError.{SerializeError}
use Rattle.asn1_headers.specs.Prepended.{Prepended}
use Rattle.asn1_headers.specs.Writer.{MayRefuse}
use Rattle.asn1_headers.specs.Laws.Prepending.{Prepended_last, Prepended_all}
use Rattle.asn1_headers.specs.Laws.Writing.{MayRefuse_more}
use Rattle.asn1_rs.proofs.CodedTexts.{no_text_left}
use Rattle.asn1_rs.proofs.asn1_types.strings.writing.prepend_text.Goals as goal

-- octets of which a back was put; what is left ends with a piece
module _ (all left back more piece : List ℕ) (ends : all ≡ left ++ back) (goes : left ≡ more ++ piece) where
  longer : all ≡ more ++ (piece ++ back)
  longer = ends ∙ ap (λ (xs : List ℕ). xs ++ back) goes ∙ append_assoc more piece back

  piece_err : {e : SerializeError} {old new : List ℕ} → Prepended (piece ++ back) old new (Err e) →
      Prepended all old new (Err e)
  piece_err {e} {old} {new} p =
      subst (λ (xs : List ℕ). Prepended xs old new (Err e)) (sym longer) (Prepended_last more p)

  piece_may : (e : SerializeError) (n : ℕ) → MayRefuse true (length (piece ++ back) + n) e →
      MayRefuse true (length all + n) e
  piece_may e n m =
      MayRefuse_more e true (length (piece ++ back) + n) (length all + n)
      (omega (arith, ap length longer, length-append more (piece ++ back))) m

pub returns-in-Err-clause-prepended : goal.returns-in-Err-clause-prepended
returns-in-Err-clause-prepended g c =
    let inv = c.loop-rest.invariant.1 in
    let at = c.fill_back-at.result.0 in
    let piece = take (256 - at) (drop at c.fill_back-at.new.buffer) in
    let others = code_of g.C.CharacterCode.octets_of (chars c.fill_back-at.result.1.now) in
    piece_err _ _ inv.0 others piece inv.1 c.fill_back-at.ensures.octets
    (c.in-Err.ensures.prepended inv.0 c.args.buf.now inv.2 inv.3)

pub returns-in-Err-clause-refused : goal.returns-in-Err-clause-refused
returns-in-Err-clause-refused g c =
    let inv = c.loop-rest.invariant.1 in
    let at = c.fill_back-at.result.0 in
    let piece = take (256 - at) (drop at c.fill_back-at.new.buffer) in
    let others = code_of g.C.CharacterCode.octets_of (chars c.fill_back-at.result.1.now) in
    piece_may _ _ inv.0 others piece inv.1 c.fill_back-at.ensures.octets c.in-Err.e (length c.args.buf.now)
    (c.in-Err.ensures.refused inv.0 c.args.buf.now inv.2 inv.3)

pub loop-rest-preserved : goal.loop-rest-preserved
loop-rest-preserved g c =
    let octets_of = g.C.CharacterCode.octets_of in
    let inv = c.loop-rest.invariant.1 in
    let at = c.fill_back-at.result.0 in
    let piece = take (256 - at) (drop at c.fill_back-at.new.buffer) in
    let put = c.in-Ok.ensures.prepended inv.0 c.args.buf.now inv.2 inv.3 in (
      search rules,
      (
        piece ++ inv.0,
        longer _ _ inv.0 (code_of octets_of (chars c.fill_back-at.result.1.now)) piece inv.1
            c.fill_back-at.ensures.octets,
        put.ok.0,
        put.ok.1,
      ),
    )

pub returns-clause-prepended : goal.returns-clause-prepended
returns-clause-prepended g c =
    let octets_of = g.C.CharacterCode.octets_of in
    let inv = c.loop-rest.invariant.1 in
    let none =
    no_text_left octets_of c.loop-rest.rest.now (eqb-true _ _ (sym c.is_empty.ensures ∙ c.loop-rest-test.false)) in
    subst (λ (xs : List ℕ). Prepended xs c.args.buf.now c.loop-rest.buf (Ok c.loop-rest.count))
    (sym (inv.1 ∙ ap (λ (xs : List ℕ). xs ++ inv.0) none)) (Prepended_all inv.3 inv.2)
