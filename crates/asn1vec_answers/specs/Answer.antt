-- The answers to lines.
use Rattle.std.specs.Prelude.{◌≡◌, ℕ, ◌<◌, ◌≤◌, List, [], ◌∷◌, ◌++◌, length, codes, ◌⊎◌}
use Rattle.asn1vec_answers.specs.declared.request.Rule.{Rule}
use Rattle.asn1vec_answers.specs.declared.types.TypeName.{TypeName}
use Rattle.asn1vec_answers.specs.Request.{IsRequest, IsOtherForm}
use Rattle.asn1vec_answers.specs.Types.{Names, NamesNone, IsTypeAnswer}

-- The answer to a request. The type that has the name by the rule gives it, or it says that no type has the name.
abbrev pub IsRequestAnswer : Rule → List ℕ → List ℕ → List ℕ → Type 0
IsRequestAnswer rule name octets text =
    (NamesNone rule name × (text ≡ codes "err Type")) ⊎
    ((t : TypeName) × Names rule name t × IsTypeAnswer rule t octets text)

-- the line is too long or has another form
abbrev pub IsRefusedLine : List ℕ → Type 0
IsRefusedLine line = (65536 < length line) ⊎ IsOtherForm line

-- the line is not too long, it asks for something, and the text is the answer to that
pub record IsAnswered (line text : List ℕ) : Type 0 where
  pub short : length line ≤ 65536
  pub rule : Rule
  pub name : List ℕ
  pub octets : List ℕ
  pub request : IsRequest line rule name octets
  pub answer : IsRequestAnswer rule name octets text

-- the text is the answer to the line
abbrev pub IsAnswer : List ℕ → List ℕ → Type 0
IsAnswer line text = (IsRefusedLine line × (text ≡ codes "err Line")) ⊎ IsAnswered line text

-- an answer with its end
abbrev pub IsAnswerLine : List ℕ → List ℕ → Type 0
IsAnswerLine line ended = (text : List ℕ) × IsAnswer line text × (ended ≡ text ++ 10 ∷ [])
