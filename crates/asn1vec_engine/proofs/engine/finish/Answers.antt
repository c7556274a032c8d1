use Rattle.std.proofs.Common.{◌≡◌, ℕ, List, [], ◌∷◌, false, length, ◌==◌}
use Rattle.std.proofs.lemmas.Result.{on_ok_weaker, on_err_weaker}
use Rattle.std.proofs.lemmas.List.Elements.{recursion_from_All}
use Rattle.asn1vec_engine.proofs.Moved.{last_answers, last_begun}
use Rattle.asn1vec_engine.proofs.engine.finish.Goals as goal

not_empty : (line : List ℕ) → false ≡ (length line == 0) → line ≡ [] → ⊥
not_empty [] h e = absurd (cc)
not_empty (x ∷ line) h e = cc

pub returns-clause-ok : goal.returns-clause-ok
returns-clause-ok g c =
    let n : c.args.line.now ≡ [] → ⊥ = λ e. not_empty c.args.line.now c.if-is_empty.ensures e in
    on_ok_weaker c.write_answer.result
    (λ h. (h.0, last_answers _ h.0 (recursion_from_All _ _ c.requires) n h.1, h.2)) c.write_answer.ensures.ok

pub returns-clause-err : goal.returns-clause-err
returns-clause-err g c =
    let n : c.args.line.now ≡ [] → ⊥ = λ e. not_empty c.args.line.now c.if-is_empty.ensures e in
    on_err_weaker c.write_answer.result
    (λ h. (h.0, last_begun _ h.0 (recursion_from_All _ _ c.requires) n h.1, h.2)) c.write_answer.ensures.err
