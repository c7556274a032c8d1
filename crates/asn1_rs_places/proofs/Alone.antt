-- Places in octets that are to be one value whole.
use Rattle.std.proofs.Common.{inl, inr}
use Rattle.std.specs.Prelude.{ℕ, Bool, List, [], Option, Some, None, Result, Ok, Err, MatchOption}
use Rattle.asn1_headers.specs.declared.error.Err.{Err as Refusal}
use Rattle.asn1_rs.specs.Prelude.{Error, IsWhole, TakesWhole}
use Rattle.asn1_rs_places.specs.Places.{IsToldOfOne, Accepts, LocatesRefusal}
use Rattle.asn1_rs_places.specs.declared.refused.Refused.{Refused}

module _ {T : Type 0} (reads : List ℕ → Result (List ℕ × T) (Refusal Error) → Type 0) (octets : List ℕ) where
  -- what is told is the refusal of reading them whole
  pub refusal_told : (silent : List ℕ → Type 0) (tells : ℕ → List ℕ → Refused → Type 0) (end : ℕ)
      (place : Option Refused) →
      MatchOption place (Accepts reads octets []) (IsToldOfOne reads silent tells end octets) →
      LocatesRefusal (TakesWhole reads) octets place
  refusal_told silent tells end None g = g
  refusal_told silent tells end (Some told) (inl g) = inl (g.0, g.1, g.2)
  refusal_told silent tells end (Some told) (inr g) = inr (g.1.0, g.0, g.1.1, g.2, g.5)

  -- where that is exact, so is the place
  pub exactly_told : {V : Type 0} (G : List ℕ → V → Type 0) (value : T → V) (allocates : Bool) →
      ((answer : Result T Error) → TakesWhole reads octets answer → IsWhole G value allocates octets answer) →
      (place : Option Refused) → LocatesRefusal (TakesWhole reads) octets place →
      LocatesRefusal (IsWhole G value allocates) octets place
  exactly_told G value allocates exact None g = (g.0, exact (Ok g.0) g.1)
  exactly_told G value allocates exact (Some told) g = exact (Err told.error) g
