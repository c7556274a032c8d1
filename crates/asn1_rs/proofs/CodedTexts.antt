-- Texts in a code of characters, as they are written by pieces.
use Rattle.std.proofs.Common.{◌≡◌, ℕ, List, [], ◌∷◌, length, chars, ap, arith}
use Rattle.std.proofs.lemmas.Str.{chars-nil}
use Rattle.x690.specs.Characters.{code_of}

pub no_text_left : (octets_of : ℕ → List ℕ) (rest : List ℕ) → length rest ≡ 0 → code_of octets_of (chars rest) ≡ []
no_text_left octets_of [] e = ap (code_of octets_of) chars-nil
no_text_left octets_of (b ∷ rest) e = absurd (omega arith)
