-- Octet strings in pieces, and what joining them may answer (X.690 8.7.3).
use Rattle.std.specs.Prelude.{◌≡◌, ◌⊎◌, ℕ, zero, suc, Bool, true, false, List, ◌++◌, Result, Ok, Err}
use Rattle.std.specs.List.{concat}
use Rattle.std.specs.Cow.{cow_slice_items, IsBorrowedSlice}
use Rattle.std.specs.declared.alloc.Global.{Global}
use Rattle.std.specs.declared.borrow.CowSlice.{CowSlice}
use Rattle.x690.specs.Identifiers.{Identifier}
use Rattle.x690.specs.Elements.{Parts}
use Rattle.x690.specs.Joined.{IsConcatenation}
use Rattle.x690.specs.Nested.{IsElement}
use Rattle.asn1_headers.specs.Answers.{HasPrefix}
use Rattle.asn1_headers.specs.Ber.{max_depth}
use Rattle.asn1_headers.specs.declared.error.Error.{Error}
use Rattle.asn1_headers.specs.declared.error.Error.TheVariants.{BerValueError, OutOfMemory}
use Rattle.asn1_rs.specs.Grammar.{BerWord}

-- the universal tag of octet strings, which pieces have (8.7.3.2); those of character strings too (8.23.3)
abbrev pub IsPieceTag : Identifier → Type 0
IsPieceTag id = (id.class ≡ 0) × (id.number ≡ 4)

-- contents octets are words of pieces, one behind another, and these octets are what the pieces say, joined
abbrev pub AreJoined : (List ℕ → List ℕ → Type 0) → List ℕ → List ℕ → Type 0
AreJoined Piece content octets =
    (pieces : List (List ℕ)) × IsConcatenation Piece content pieces × (octets ≡ concat pieces)

-- What an octet string says, which nests so deep: a primitive one its contents octets (8.7.2), a constructed one what
-- its pieces say, joined (8.7.3).
unfoldable pub SaysOctets : ℕ → Parts → List ℕ → Type 0
SaysOctets zero p octets = ⊥
SaysOctets (suc depth) p octets =
    ((p.id.constructed ≡ false) × (p.content ≡ octets)) ⊎
    ((p.id.constructed ≡ true) ×
    AreJoined (BerWord (λ (q : Parts) (o : List ℕ). IsPieceTag q.id × SaysOctets depth q o)) p.content octets)

-- a piece, and what it says
abbrev pub IsStringPiece : ℕ → Parts → List ℕ → Type 0
IsStringPiece depth p octets = IsPieceTag p.id × SaysOctets depth p octets

-- contents octets are pieces, and what these say
abbrev pub AreStringPieces : ℕ → List ℕ → List ℕ → Type 0
AreStringPieces depth = AreJoined (BerWord (IsStringPiece depth))

-- a piece begins the octets, with this bit and these contents octets, and the rest follows
pub record BeginsWithPiece (octets : List ℕ) (constructed : Bool) (content rest : List ℕ) : Type 0 where
  pub parts : Parts
  pub front : HasPrefix (IsElement max_depth) octets parts rest
  pub tag : IsPieceTag parts.id
  pub bit : parts.id.constructed ≡ constructed
  pub inner : parts.content ≡ content

-- no piece begins them
abbrev pub HasNoPiece : List ℕ → Type 0
HasNoPiece octets = (word rest : List ℕ) (p : Parts) → octets ≡ word ++ rest → IsElement max_depth word p →
    IsPieceTag p.id → ⊥

-- What appending such octets to others may answer. There are none such where it is refused, except when out of memory.
abbrev pub AppendsSuch : (List ℕ → Type 0) → List ℕ → List ℕ → Result (Unit {0}) Error → Type 0
AppendsSuch Such old new (Ok x) = (octets : List ℕ) × Such octets × (new ≡ old ++ octets)
AppendsSuch Such old new (Err e) = (e ≡ OutOfMemory) ⊎ ((e ≡ BerValueError) × ((octets : List ℕ) → Such octets → ⊥))

-- What a string of these parts may answer for its octets: those that it says, which are lent where it is primitive. One
-- in pieces is refused when out of memory, or where it says no octets.
abbrev pub TakesOctets : Parts → Result (CowSlice ℕ Global) Error → Type 0
TakesOctets p (Ok octets) = SaysOctets max_depth p (cow_slice_items octets) ×
    (p.id.constructed ≡ false → IsBorrowedSlice octets)
TakesOctets p (Err e) = (p.id.constructed ≡ true) ×
    ((e ≡ OutOfMemory) ⊎ ((e ≡ BerValueError) × ((octets : List ℕ) → SaysOctets max_depth p octets → ⊥)))
