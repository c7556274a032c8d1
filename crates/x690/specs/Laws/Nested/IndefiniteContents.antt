-- What the contents octets of an indefinite length are made of (X.690 8.1.3.6).
use Rattle.std.proofs.Common.{◌≡◌, ℕ, zero, suc, ◌≤◌, arith, List, inl, inr}
use Rattle.std.specs.List.{concat}
use Rattle.x690.specs.Lengths.{indefinite}
use Rattle.x690.specs.Elements.{Parts}
use Rattle.x690.specs.Nested.{IsRow, IsWord, IsNestedElement}

-- They are the joining of whole elements of a lesser depth.
pub indefinite_is_row : (depth : ℕ) (o : List ℕ) (p : Parts) (h : ℕ) → p.form ≡ indefinite →
    IsNestedElement depth o p h → (within : ℕ) × (words : List (List ℕ)) × (inner : ℕ) × (within ≤ depth) ×
    IsRow (IsWord within) words inner × (p.content ≡ concat words)
unfolding IsNestedElement
indefinite_is_row zero o p h f n = absurd n
indefinite_is_row (suc depth) o p h f (inl (d, c)) = cc
indefinite_is_row (suc depth) o p h f (inr (some, i)) = (depth, i.words, i.inner, omega arith, i.row, i.content)
