-- What the engine has written on its way.
use Rattle.std.specs.Prelude.{◌≡◌, ℕ, List, ◌++◌, Option, Bool, true, false, IsTrue, Result, Ok, Err, codes}
use Rattle.std.specs.Io.KnownBytes.{Appends}
use Rattle.asn1vec_engine.specs.declared.engine.RunError.{RunError}
use Rattle.asn1vec_engine.specs.declared.engine.RunError.TheVariants.{Input, Output, OutOfMemory}
use Rattle.asn1vec_engine.specs.Lines.{lines_of}
use Rattle.asn1vec_engine.specs.Outputs.{AreAnswers, BeginAnswers}

-- all answers to the lines, or a beginning of them
abbrev pub Answers : Bool → List (List ℕ) → List ℕ → Type 0
Answers true lines texts = AreAnswers lines texts
Answers false lines texts = BeginAnswers lines texts

-- the answers to an input
abbrev pub AnswersTo : List ℕ → List ℕ → Type 0
AnswersTo octets texts = Answers true (lines_of octets) texts

-- a beginning of the answers to an input
abbrev pub BeginsAnswersTo : List ℕ → List ℕ → Type 0
BeginsAnswersTo octets texts = Answers false (lines_of octets) texts

-- the writer gained answers, and those to `after` complete them to those to `before`, whatever follows
pub record GainsAnswers (old new : Option (List ℕ)) (before after : List ℕ) : Type 0 where
  pub gained : List ℕ
  pub told : Appends old new gained
  pub joins : (all : Bool) (rest texts : List ℕ) → Answers all (lines_of (after ++ rest)) texts →
      Answers all (lines_of (before ++ rest)) (gained ++ texts)

-- the writer gained a beginning of the answers, whatever follows
pub record GainsBeginning (old new : Option (List ℕ)) (before : List ℕ) : Type 0 where
  pub gained : List ℕ
  pub told : Appends old new gained
  pub front : (rest : List ℕ) → BeginsAnswersTo (before ++ rest) gained

-- the writer is marked where the answer is `Output`, and else its mark is as it was
abbrev pub TellsMark : Bool → Bool → Result (Unit {0}) RunError → Type 0
TellsMark was is (Ok x) = is ≡ was
TellsMark was is (Err Input) = is ≡ was
TellsMark was is (Err Output) = IsTrue is
TellsMark was is (Err OutOfMemory) = is ≡ was

-- the line by which the program says why it ended
abbrev pub last_line : RunError → List ℕ
last_line Input = codes "asn1vec: input failed"
last_line Output = codes "asn1vec: output failed"
last_line OutOfMemory = codes "asn1vec: out of memory"
