-- An input has one output, except when out of memory.
use Rattle.std.proofs.Common.{◌≡◌, ◌∙◌, sym, ap, subst, List, [], ◌∷◌, ◌++◌, ℕ, inl, inr, append_assoc}
use Rattle.std.specs.List.{All, AllByRecursion}
use Rattle.std.proofs.lemmas.List.Elements.{recursion_from_All}
use Rattle.asn1vec_answers.specs.Answer.{IsAnswer, IsAnswerLine}
use Rattle.asn1vec_answers.specs.Memory.{AreAlike, TakesNoMemory}
use Rattle.asn1vec_engine.specs.Outputs.{AllAlike, AreAnswers, BeginAnswers}

-- a line has one answer, except when out of memory
abbrev AreAnswersAlike : Type 0
AreAnswersAlike = (line text other : List ℕ) → IsAnswer line text → IsAnswer line other → AreAlike line text other

-- and one where nothing that it asks for allocates
abbrev AreAnswersOne : Type 0
AreAnswersOne =
    (line text other : List ℕ) → TakesNoMemory line → IsAnswer line text → IsAnswer line other → text ≡ other

ended_by : (text rest texts ended : List ℕ) → ended ≡ text ++ 10 ∷ [] → texts ≡ ended ++ rest →
    texts ≡ text ++ 10 ∷ rest
ended_by text rest texts ended e is = is ∙ ap (λ (l : List ℕ). l ++ rest) e ∙ append_assoc text (10 ∷ []) rest

pub lines_alike : AreAnswersAlike → (lines : List (List ℕ)) (texts others : List ℕ) → AreAnswers lines texts →
    AreAnswers lines others → AllAlike lines texts others
lines_alike alike [] texts others a b = (a, b)
lines_alike alike (line ∷ lines) texts others (ended, rest, (text, a, e), more, is)
    (again, tail, (other, b, f), after, too) = (
      text,
      other,
      alike line text other a b,
      (
        rest,
        tail,
        ended_by text rest texts ended e is,
        ended_by other tail others again f too,
        lines_alike alike lines rest tail more after,
      ),
    )

-- a beginning of answers, completed
pub begun_alike : AreAnswersAlike → (lines : List (List ℕ)) (front texts : List ℕ) → BeginAnswers lines front →
    AreAnswers lines texts → (lost : List ℕ) × AllAlike lines (front ++ lost) texts
begun_alike alike [] front texts e b = ([], (ap (λ (x : List ℕ). x ++ []) e, b))
begun_alike alike (line ∷ lines) front texts (inl e) b = (
  texts,
  subst (λ (x : List ℕ). AllAlike (line ∷ lines) (x ++ texts) texts) (sym e)
      (lines_alike alike (line ∷ lines) texts texts b b),
)
begun_alike alike (line ∷ lines) front texts (inr (inl (lost, (text, a, e)))) (ended, rest, (other, b, f), more, is) = (
  lost ++ rest,
  (
    text,
    other,
    alike line text other a b,
    (
      rest,
      rest,
      ended_by text rest (front ++ (lost ++ rest)) (front ++ lost) e (sym (append_assoc front lost rest)),
      ended_by other rest texts ended f is,
      lines_alike alike lines rest rest more more,
    ),
  ),
)
begun_alike alike (line ∷ lines) front texts (inr (inr (ended, rest, (text, a, e), more, is)))
    (again, tail, (other, b, f), after, too) =
    let begun = begun_alike alike lines rest tail more after in
    let front_lost = ap (λ (x : List ℕ). x ++ begun.0) is ∙ append_assoc ended rest begun.0 in (
      begun.0,
      (
        text,
        other,
        alike line text other a b,
        (
          rest ++ begun.0,
          tail,
          ended_by text (rest ++ begun.0) (front ++ begun.0) ended e front_lost,
          ended_by other tail texts again f too,
          begun.1,
        ),
      ),
    )

line_once : AreAnswersOne → (line ended other : List ℕ) → TakesNoMemory line → IsAnswerLine line ended →
    IsAnswerLine line other → ended ≡ other
line_once once line ended other none (text, a, e) (again, b, f) =
    e ∙ ap (λ (x : List ℕ). x ++ 10 ∷ []) (once line text again none a b) ∙ sym f

lines_once_each : AreAnswersOne → (lines : List (List ℕ)) (texts others : List ℕ) → AllByRecursion TakesNoMemory lines →
    AreAnswers lines texts → AreAnswers lines others → texts ≡ others
lines_once_each once [] texts others n a b = a ∙ sym b
lines_once_each once (line ∷ lines) texts others (none, n) (ended, rest, a, more, e) (other, tail, b, after, f) =
    e ∙ ap (λ (x : List ℕ). x ++ rest) (line_once once line ended other none a b)
    ∙ ap (λ (x : List ℕ). other ++ x) (lines_once_each once lines rest tail n more after) ∙ sym f

-- a beginning of the answers begins them
lines_begun_each : AreAnswersOne → (lines : List (List ℕ)) (front texts : List ℕ) → AllByRecursion TakesNoMemory lines →
    BeginAnswers lines front → AreAnswers lines texts → (lost : List ℕ) × (texts ≡ front ++ lost)
lines_begun_each once [] front texts n e f = ([], f ∙ sym (ap (λ (x : List ℕ). x ++ []) e))
lines_begun_each once (line ∷ lines) front texts n (inl e) b = (texts, sym (ap (λ (x : List ℕ). x ++ texts) e))
lines_begun_each once (line ∷ lines) front texts (none, n) (inr (inl (lost, a))) (ended, rest, b, more, e) = (
  lost ++ rest,
  e ∙ ap (λ (x : List ℕ). x ++ rest) (line_once once line ended (front ++ lost) none b a)
      ∙ append_assoc front lost rest,
)
lines_begun_each once (line ∷ lines) front texts (none, n) (inr (inr (ended, rest, a, more, e)))
    (other, tail, b, after, f) =
    let begun = lines_begun_each once lines rest tail n more after in (
      begun.0,
      f ∙ ap (λ (x : List ℕ). x ++ tail) (line_once once line other ended none b a)
          ∙ ap (λ (x : List ℕ). ended ++ x) begun.1 ∙ sym (append_assoc ended rest begun.0)
          ∙ ap (λ (x : List ℕ). x ++ begun.0) (sym e),
    )

pub lines_once : AreAnswersOne → (lines : List (List ℕ)) (texts others : List ℕ) → All TakesNoMemory lines →
    AreAnswers lines texts → AreAnswers lines others → texts ≡ others
lines_once once lines texts others n = lines_once_each once lines texts others (recursion_from_All _ _ n)

pub lines_begun : AreAnswersOne → (lines : List (List ℕ)) (front texts : List ℕ) → All TakesNoMemory lines →
    BeginAnswers lines front → AreAnswers lines texts → (lost : List ℕ) × (texts ≡ front ++ lost)
lines_begun once lines front texts n = lines_begun_each once lines front texts (recursion_from_All _ _ n)
