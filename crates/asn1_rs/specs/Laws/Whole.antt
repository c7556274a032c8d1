-- Reading octets that are one value whole is exact where the reader is.
use Rattle.std.proofs.Common.{◌≡◌, ◌≢◌, ◌∙◌, sym, subst, refl, ℕ, inl, inr, Bool, List, [], ◌++◌, append-nil}
use Rattle.std.specs.Prelude.{Result, Ok, Err, IsTrue}
use Rattle.std.proofs.lemmas.List.{append_cancel_left}
use Rattle.x690.specs.Joined.{IsPrefixFree}
use Rattle.asn1_headers.specs.declared.error.Err.{Err as Refusal}
use Rattle.asn1_headers.specs.declared.error.Err.TheVariants.{Incomplete as truncated, Error as refused, Failure as failed}
use Rattle.asn1_headers.specs.declared.error.Error.{Error}
use Rattle.asn1_headers.specs.declared.error.Error.TheVariants as errors
use Rattle.asn1_headers.specs.Answers.{Exactly, TellsMemory}
use Rattle.asn1_rs.specs.FieldReader.{BecomesError}
use Rattle.asn1_rs.specs.Laws.Readers.{none_now}
use Rattle.asn1_rs.specs.Whole.{TakesWhole, IsWhole}

-- what tells of refused memory becomes that error
pub memory_becomes : (allocates : Bool) (r : Refusal Error) (e : Error) →
    TellsMemory allocates (λ (x y : Error). y ≡ x) r → BecomesError r e → e ≡ errors.OutOfMemory
memory_becomes allocates (truncated n) e m b = let t = m.1.2 in absurd (cc)
memory_becomes allocates (refused x) e m b = let t = m.1.1 in let u = m.1.2 in cc
memory_becomes allocates (failed x) e m b = let t = m.1.2 in absurd (cc)

module _ {T V : Type 0} (IsTruncated : List ℕ → Type 0) (G : List ℕ → V → Type 0) (value : T → V) (allocates : Bool)
    (one : IsPrefixFree G) (reads : List ℕ → Result (List ℕ × T) (Refusal Error) → Type 0) (octets : List ℕ)
    (exact : (answer : Result (List ℕ × T) (Refusal Error)) → reads octets answer →
    Exactly IsTruncated G value (TellsMemory allocates (λ (x y : Error). y ≡ x)) octets answer) where
  -- octets before which a word leaves some are no word
  leaves_none : (x : T) (rest : List ℕ) → reads octets (Ok (rest, x)) → rest ≢ [] → (v : V) → G octets v → ⊥
  leaves_none x rest g some v w =
      let f = exact (Ok (rest, x)) g in
      let same = one.one f.word octets rest [] (value x) v f.fits w (sym f.is ∙ sym (append-nil octets)) in
      some (append_cancel_left octets rest []
      (subst (λ (z : List ℕ). z ++ rest ≡ octets) same.0 (sym f.is) ∙ sym (append-nil octets)))

  -- The value is that of the octets, and octets that are refused have none.
  pub whole_exact : (answer : Result T Error) → TakesWhole reads octets answer →
      IsWhole G value allocates octets answer
  whole_exact (Ok x) g =
      let f = exact (Ok ([], x)) g in
      subst (λ (z : List ℕ). G z (value x)) (sym (append-nil f.word) ∙ sym f.is) f.fits
  whole_exact (Err e) (inl (r, g, b)) = elim (exact (Err r) g) [
    | inl m ↦ inl (m.0, memory_becomes allocates r e m b)
    | inr n ↦ inr (λ v w. none_now (IsTruncated octets) r G octets n octets [] v (sym (append-nil octets)) w)
  ]
  whole_exact (Err e) (inr (x, rest, g, some, is)) = inr (leaves_none x rest g some)
