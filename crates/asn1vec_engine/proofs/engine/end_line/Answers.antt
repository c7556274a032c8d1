use Rattle.std.proofs.Common.{◌≡◌, ℕ, List, ◌++◌, ◌∷◌, [], ◌⊎◌, length, sym, subst, arith}
use Rattle.std.proofs.lemmas.Bool.{eqb-true}
use Rattle.std.proofs.lemmas.List.Elements.{recursion_from_All}
use Rattle.std.proofs.lemmas.Result.{on_ok_weaker, on_err_weaker}
use Rattle.asn1vec_engine.specs.Engine.{GainsAnswers}
use Rattle.asn1vec_answers.specs.Answer.{IsAnswerLine}
use Rattle.asn1vec_engine.specs.Outputs.{BeginsAnswer}
use Rattle.asn1vec_engine.proofs.Appended.{on_err}
use Rattle.asn1vec_engine.proofs.Moved.{moves_both, moves_more, moves_begins, begins_none, moves_ended, begins_ended}
use Rattle.asn1vec_engine.proofs.Moved.{moves_first, begins_first}
use Rattle.asn1vec_engine.proofs.engine.end_line.Goals as goal

pub returns-then-is_empty-clause-ok : goal.returns-then-is_empty-clause-ok
returns-then-is_empty-clause-ok g c =
    let none : length c.args.line.now.items ≡ 0 =
    omega (arith, c.args.line.now.ok.0, eqb-true _ _ (sym c.if-is_empty.ensures)) in
    on_ok_weaker c.write_answer.result
    (λ h. moves_first c.args.line.now.items c.args.last.now h.0 none c.requires.last h.1 h.2)
    c.write_answer.ensures.ok

pub returns-then-is_empty-clause-err : goal.returns-then-is_empty-clause-err
returns-then-is_empty-clause-err g c =
    let none : length c.args.line.now.items ≡ 0 =
    omega (arith, c.args.line.now.ok.0, eqb-true _ _ (sym c.if-is_empty.ensures)) in
    on_err_weaker c.write_answer.result
    (λ h. begins_first c.args.line.now.items c.args.last.now h.0 none c.requires.last h.1 h.2)
    c.write_answer.ensures.err

pub returns-in_err-keep-clause-err : goal.returns-in_err-keep-clause-err
returns-in_err-keep-clause-err g c = on_err c.from_residual.result (begins_none _ _)

pub returns-in_err-write_answer-clause-err : goal.returns-in_err-write_answer-clause-err
returns-in_err-write_answer-clause-err g c =
    let kept = c.keep.new.line.items in
    let h = c.in_err-write_answer.ensures.err in
    let a = subst (λ (l : List ℕ). (h.0 ≡ []) ⊎ BeginsAnswer l h.0) c.as_slice.ensures.value h.1 in
    on_err c.from_residual-in_err-write_answer.result
    (moves_begins (moves_more (10 ∷ []) (c.in_ok-keep.ensures.moves _))
    (begins_ended kept h.0 (recursion_from_All _ _ c.in_ok-keep.ensures.«open») a h.2))

pub returns-clause-ok : goal.returns-clause-ok
returns-clause-ok g c =
    let kept = c.keep.new.line.items in
    let h = c.in_ok-write_answer.ensures.ok in
    let a = subst (λ (l : List ℕ). IsAnswerLine l h.0) c.as_slice.ensures.value h.1 in
    let told = λ (w : _). (g.W.DerWrite.state w).told in
    subst (λ (l : List ℕ). GainsAnswers (told c.args.output.now) (told c.write_answer-2.new.output)
    ((c.args.line.now.items ++ c.args.last.now) ++ 10 ∷ []) l) (sym c.clear.ensures.items)
    (moves_both (moves_more (10 ∷ []) (c.in_ok-keep.ensures.moves _))
    (moves_ended kept h.0 (recursion_from_All _ _ c.in_ok-keep.ensures.«open») a h.2))
