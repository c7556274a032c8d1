-- Words of a grammar, joined. A grammar is a relation between words, which are octets, and their values.
use Rattle.std.specs.Prelude.{◌≡◌, ℕ, List, [], ◌∷◌, ◌++◌}
use Rattle.std.specs.List.{AllZip, concat}
use Rattle.x690.specs.Octets.{BeginsWith}

-- no word is empty, and two words that begin one input are the same and have one value
pub record IsPrefixFree {V : Type 0} (G : List ℕ → V → Type 0) : Type 0 where
  pub one : (x y r s : List ℕ) (v w : V) → G x v → G y w → x ++ r ≡ y ++ s → (x ≡ y) × (v ≡ w)
  pub some : (v : V) → G [] v → ⊥

-- no word of the grammar begins the input
abbrev pub NoPrefix : {V : Type 0} → (List ℕ → V → Type 0) → List ℕ → Type 0
NoPrefix {V} G input = (word rest : List ℕ) (v : V) → input ≡ word ++ rest → G word v → ⊥

-- The octets are words of the grammar with these values, joined in their order.
abbrev pub IsConcatenation : {V : Type 0} → (List ℕ → V → Type 0) → List ℕ → List V → Type 0
IsConcatenation G octets [] = octets ≡ []
IsConcatenation G octets (v ∷ vs) = (word : List ℕ) × (rest : List ℕ) × G word v × (octets ≡ word ++ rest) × IsConcatenation G rest vs

-- Words of the grammar with these values begin the input, joined in their order, and then the rest follows.
pub record BeginsWithWords {V : Type 0} (G : List ℕ → V → Type 0) (input : List ℕ) (words : List (List ℕ))
    (values : List V) (rest : List ℕ) : Type 0 where
  pub each : AllZip G words values
  pub is : BeginsWith input (concat words) rest

-- each of them is a word of the grammar
abbrev pub AreWords : {V : Type 0} → (List ℕ → V → Type 0) → List (List ℕ) → Type 0
AreWords G [] = Unit {0}
AreWords {V} G (word ∷ words) = ((v : V) × G word v) × AreWords G words

-- the octets are a joining of words of the grammar
abbrev pub AreConcatenatedWords : {V : Type 0} → (List ℕ → V → Type 0) → List ℕ → Type 0
AreConcatenatedWords G octets = (words : List (List ℕ)) × AreWords G words × (octets ≡ concat words)
