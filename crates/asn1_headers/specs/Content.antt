-- Contents octets at the front of octets.
use Rattle.std.specs.Prelude.{◌≡◌, ◌+◌, ◌≤◌, ℕ, List, ◌++◌, length, Result, Ok, Err}
use Rattle.std.specs.Borrow.{Bor}
use Rattle.asn1_headers.specs.declared.error.Error.{Error}
use Rattle.asn1_headers.specs.declared.error.Err.{Err as Refusal}
use Rattle.asn1_headers.specs.declared.error.Err.TheVariants.{Incomplete as truncated}
use Rattle.asn1_headers.specs.declared.error.Needed.TheVariants.{Size}

-- so many octets of the input, and the rest, or how many are missing
abbrev pub Splits : ℕ → List ℕ → Result (Bor (List ℕ) × Bor (List ℕ)) (Refusal Error) → Type 0
Splits n input (Ok x) = (length x.1.now ≡ n) × (input ≡ x.1.now ++ x.0.now)
Splits n input (Err r) = (lacking : ℕ) × (1 ≤ lacking) × (length input + lacking ≡ n) × (r ≡ truncated (Size lacking))

-- with more octets behind them the contents octets are answered too, and the rest with these
abbrev pub ContentStays : Bor (List ℕ) × Bor (List ℕ) → List ℕ →
    Result (Bor (List ℕ) × Bor (List ℕ)) (Refusal Error) → Type 0
ContentStays x more (Ok y) = (y.1.now ≡ x.1.now) × (y.0.now ≡ x.0.now ++ more)
ContentStays x more (Err r) = ⊥
