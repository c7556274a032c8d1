-- Laws of the lines of an input.
use Rattle.std.proofs.Common.{◌≡◌, ◌≢◌, ℕ, ◌<◌, ◌==◌, cond, List, [], ◌∷◌, ◌++◌, refl, sym, ap, ◌∙◌, append-nil, length}
use Rattle.std.proofs.Common.{Bool, true, false, arith, rules, inl, inr, subst, length-append}
use Rattle.std.specs.List.{AllByRecursion}
use Rattle.asn1vec_engine.specs.Lines.{lines_of, before_first}
use Rattle.asn1vec_answers.specs.Answer.{IsAnswer, IsAnswerLine}
use Rattle.asn1vec_engine.specs.Outputs.{BeginAnswers}
use Rattle.asn1vec_engine.specs.Engine.{Answers}

-- octets before the first line
abbrev pub front_of : List ℕ → List (List ℕ) → List (List ℕ)
front_of [] lines = lines
front_of (x ∷ xs) lines = before_first x (front_of xs lines)

abbrev pub IsOpen : List ℕ → Type 0
IsOpen line = AllByRecursion (λ x. x ≢ 10) line

not_end : (x : ℕ) → x ≢ 10 → (x == 10) ≡ false
not_end x h = search rules

-- octets with no end are the front of the first line
lines_of_open : (line rest : List ℕ) → IsOpen line → lines_of (line ++ rest) ≡ front_of line (lines_of rest)
lines_of_open [] rest h = refl
lines_of_open (x ∷ xs) rest (h, hs) =
    ap (λ b. cond b ([] ∷ lines_of (xs ++ rest)) (before_first x (lines_of (xs ++ rest)))) (not_end x h)
    ∙ ap (before_first x) (lines_of_open xs rest hs)

front_of_cons : (line first : List ℕ) (lines : List (List ℕ)) → front_of line (first ∷ lines) ≡ (line ++ first) ∷ lines
front_of_cons [] first lines = refl
front_of_cons (x ∷ xs) first lines = ap (before_first x) (front_of_cons xs first lines)

-- the end ends a line
pub lines_of_ended : (line rest : List ℕ) → IsOpen line → lines_of (line ++ 10 ∷ rest) ≡ line ∷ lines_of rest
lines_of_ended line rest h = lines_of_open line (10 ∷ rest) h ∙ front_of_cons line [] (lines_of rest)
    ∙ ap (λ l. l ∷ lines_of rest) (append-nil line)

front_last : (x : ℕ) (xs : List ℕ) → front_of (x ∷ xs) [] ≡ (x ∷ xs) ∷ []
front_last x [] = refl
front_last x (y ∷ ys) = ap (before_first x) (front_last y ys)

-- the end of input ends a line that has an octet
pub lines_of_last : (x : ℕ) (line : List ℕ) → IsOpen (x ∷ line) → lines_of (x ∷ line) ≡ (x ∷ line) ∷ []
lines_of_last x line h = ap lines_of (sym (append-nil (x ∷ line))) ∙ lines_of_open (x ∷ line) [] h ∙ front_last x line

-- long lines have the same answers
long_answer : (a b text : List ℕ) → 65536 < length a → 65536 < length b → IsAnswer a text → IsAnswer b text
long_answer a b text long longer (inl h) = inl (inl longer, h.1)
long_answer a b text long longer (inr h) = absurd (omega (arith, h.short))

long_first : (all : Bool) (a b : List ℕ) (lines : List (List ℕ)) (texts : List ℕ) → 65536 < length a →
    65536 < length b → Answers all (a ∷ lines) texts → Answers all (b ∷ lines) texts
long_first true a b lines texts long longer (ended, rest, (text, answer, e), after, whole) =
    (ended, rest, (text, long_answer a b text long longer answer, e), after, whole)
long_first false a b lines texts long longer (inl none) = inl none
long_first false a b lines texts long longer (inr (inl (lost, (text, answer, e)))) =
    inr (inl (lost, (text, long_answer a b text long longer answer, e)))
long_first false a b lines texts long longer (inr (inr (ended, rest, (text, answer, e), after, whole))) =
    inr (inr (ended, rest, (text, long_answer a b text long longer answer, e), after, whole))

more_long : (line more : List ℕ) → 65536 < length line → 65536 < length (line ++ more)
more_long line more h = simp length-append (omega arith)

-- one more octet in a long line changes no answer
long_front : (all : Bool) (x : ℕ) (line : List ℕ) (lines : List (List ℕ)) (texts : List ℕ) → 65536 < length line →
    Answers all (front_of line lines) texts → Answers all (front_of line (before_first x lines)) texts
long_front all x [] [] texts h a = absurd (omega arith)
long_front all x (y ∷ line) [] texts h a =
    subst (λ l. Answers all l texts) (sym (front_of_cons (y ∷ line) (x ∷ []) []))
    (long_first all (y ∷ line) ((y ∷ line) ++ x ∷ []) [] texts h (more_long (y ∷ line) (x ∷ []) h)
    (subst (λ l. Answers all l texts) (front_last y line) a))
long_front all x line (first ∷ lines) texts h a =
    subst (λ l. Answers all l texts) (sym (front_of_cons line (x ∷ first) lines))
    (long_first all (line ++ first) (line ++ x ∷ first) lines texts (more_long line first h)
    (more_long line (x ∷ first) h) (subst (λ l. Answers all l texts) (front_of_cons line first lines) a))

pub long_dropped : (all : Bool) (x : ℕ) (line rest texts : List ℕ) → IsOpen line → x ≢ 10 → 65536 < length line →
    Answers all (lines_of (line ++ rest)) texts → Answers all (lines_of (line ++ x ∷ rest)) texts
long_dropped all x line rest texts o n h a =
    let next : lines_of (x ∷ rest) ≡ before_first x (lines_of rest) = lines_of_open (x ∷ []) rest (n, tt) in
    subst (λ l. Answers all l texts) (sym (lines_of_open line (x ∷ rest) o ∙ ap (front_of line) next))
    (long_front all x line (lines_of rest) texts h (subst (λ l. Answers all l texts) (lines_of_open line rest o) a))

-- nothing begins all answers
pub none_begun : (lines : List (List ℕ)) → BeginAnswers lines []
none_begun [] = refl
none_begun (line ∷ lines) = inl refl

-- an answer goes before those to what follows
pub answered_first : (all : Bool) (line ended : List ℕ) (lines : List (List ℕ)) (texts : List ℕ) →
    IsAnswerLine line ended → Answers all lines texts → Answers all (line ∷ lines) (ended ++ texts)
answered_first true line ended lines texts a h = (ended, texts, a, h, refl)
answered_first false line ended lines texts a h = inr (inr (ended, texts, a, h, refl))
