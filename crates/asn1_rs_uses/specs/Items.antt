-- Contents octets that are not items alone, and sets of numbers.
use Rattle.std.specs.Prelude.{◌≡◌, ◌⊎◌, ℕ, List, ◌++◌, map, pos}
use Rattle.x690.specs.Elements.{Parts, IsDerElement}
use Rattle.x690.specs.Joined.{NoPrefix, IsConcatenation}
use Rattle.x690.specs.Faults.{DerElementFault}
use Rattle.asn1_headers.specs.Answers.{HasPrefix}
use Rattle.asn1_headers.specs.Header.Reading.{Refused, der_refusal}
use Rattle.asn1_headers.specs.declared.error.Err.{Err as Refusal}
use Rattle.asn1_headers.specs.declared.error.Err.TheVariants.{Error as refused}
use Rattle.asn1_headers.specs.declared.error.Error.{Error}
use Rattle.asn1_headers.specs.declared.error.Error.TheVariants as errors
use Rattle.asn1_rs.specs.Lists.{ListOf}
use Rattle.asn1_rs.specs.ToDer.{HasNone}
use Rattle.asn1_rs.specs.Sequence.Iterator.{EndsJoined}
use Rattle.asn1_rs_uses.specs.Numbers.{NumberByDer}

-- no word begins the octets, whatever is told of them
abbrev pub NoWord : {V E : Type 0} → (List ℕ → V → Type 0) → List ℕ → E → Type 0
NoWord G octets e = NoPrefix G octets

-- words begin the octets, and then something is left that no word begins
abbrev pub EndsBefore : {V E : Type 0} → (List ℕ → V → Type 0) → List ℕ → E → Type 0
EndsBefore {V} G octets e = (values : List V) × EndsJoined G (NoWord G) octets values e

-- A set of numbers begins the octets, and the rest follows. The set's contents octets are the words of these numbers,
-- joined in their order.
pub record BeginsWithNumbers (octets numbers rest : List ℕ) : Type 0 where
  pub word : List ℕ
  pub parts : Parts
  pub element : IsDerElement word parts
  pub is : octets ≡ word ++ rest
  pub set : parts.id.number ≡ 17
  pub joined : IsConcatenation NumberByDer parts.content (map pos numbers)

-- No element by DER begins the octets, or the element there is no set of numbers by DER. Or memory was wanted.
abbrev pub RefusesNumbers : List ℕ → Refusal Error → Type 0
RefusesNumbers octets r = Refused DerElementFault der_refusal octets r ⊎
    ((p : Parts) × (rest : List ℕ) × (e : Error) × HasPrefix IsDerElement octets p rest × (r ≡ refused e) ×
    ((e ≡ errors.OutOfMemory) ⊎ HasNone (ListOf 17 NumberByDer p)))
