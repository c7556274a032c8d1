-- The answers to the lines of an input.
use Rattle.std.specs.Prelude.{◌≡◌, ℕ, List, [], ◌∷◌, ◌++◌, ◌⊎◌}
use Rattle.asn1vec_answers.specs.Answer.{IsAnswerLine}
use Rattle.asn1vec_answers.specs.Memory.{AreAlike}

-- the answers to the lines, in order, each with its end
abbrev pub AreAnswers : List (List ℕ) → List ℕ → Type 0
AreAnswers [] texts = texts ≡ []
AreAnswers (line ∷ lines) texts =
    (ended rest : List ℕ) × IsAnswerLine line ended × AreAnswers lines rest × (texts ≡ ended ++ rest)

-- a beginning of an answer with its end
abbrev pub BeginsAnswer : List ℕ → List ℕ → Type 0
BeginsAnswer line front = (lost : List ℕ) × IsAnswerLine line (front ++ lost)

-- the answers to the first lines, and then nothing or a beginning of the next line's answer
abbrev pub BeginAnswers : List (List ℕ) → List ℕ → Type 0
BeginAnswers [] texts = texts ≡ []
BeginAnswers (line ∷ lines) texts = (texts ≡ []) ⊎ (BeginsAnswer line texts ⊎
    ((ended rest : List ℕ) × IsAnswerLine line ended × BeginAnswers lines rest × (texts ≡ ended ++ rest)))

-- the answers to each line are alike, each with its end
abbrev pub AllAlike : List (List ℕ) → List ℕ → List ℕ → Type 0
AllAlike [] texts others = (texts ≡ []) × (others ≡ [])
AllAlike (line ∷ lines) texts others =
    (text other : List ℕ) × AreAlike line text other ×
    ((rest tail : List ℕ) × (texts ≡ text ++ 10 ∷ rest) × (others ≡ other ++ 10 ∷ tail) × AllAlike lines rest tail)
