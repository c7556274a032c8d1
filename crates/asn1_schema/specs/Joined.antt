-- The octets that pieces join to.
use Rattle.std.specs.Prelude.{ℕ, ◌<◌, ◌≤◌, ◌≡◌, ◌⊎◌, List, [], ◌∷◌, ◌++◌, length, drop}
use Rattle.asn1_schema.specs.declared.joined.Joined.{Joined}
use Rattle.asn1_schema.specs.Values.{octets, text, time}
use Rattle.asn1_schema.specs.Tape.{Mark, marks, leaf_mark}

-- the octets of a piece
abbrev pub octets_of : Mark → List ℕ
octets_of (leaf_mark (octets o)) = o
octets_of (leaf_mark (text kind o)) = o
octets_of (leaf_mark (time kind o)) = o
octets_of _ = []

abbrev pub all_octets : List Mark → List ℕ
all_octets [] = []
all_octets (m ∷ ms) = octets_of m ++ all_octets ms

-- what is left of a piece, and the pieces behind it
abbrev pub said : Joined → List ℕ
said j = j.front.now ++ all_octets (marks j.others.now)

-- So many octets at the front of some are whole characters. Where there are none, none stand there, whatever follows,
-- if the octets are four or nothing follows.
pub record AreWholeCharacters (P : List ℕ → Type 0) (octets : List ℕ) (count : ℕ) : Type 0 where
  pub within : count ≤ length octets
  pub less : 0 < count → (rest : List ℕ) → P (octets ++ rest) → P (drop count octets ++ rest)
  pub more : 0 < count → (rest : List ℕ) → P (drop count octets ++ rest) → P (octets ++ rest)
  pub none : count ≡ 0 → (rest : List ℕ) → (4 ≤ length octets) ⊎ (rest ≡ []) → P (octets ++ rest) → ⊥
