-- Comparing octets with what is written of their value.
use Rattle.std.proofs.Common.{◌≡◌, ap, sym, subst, refl, inl, inr, arith, ◌⊎◌, ℕ, ◌<◌, ◌^◌, List, [], length}
use Rattle.std.specs.Prelude.{Err}
use Rattle.std.specs.List.{slice_get}
use mathlib.Core.HLevel.{⊥_prop}
use mathlib.Core.Logic.{∥∥₁_elim}
use Rattle.asn1_headers.specs.Writer.{IsMemoryOrLength}
use Rattle.asn1_headers.specs.declared.error.Error.{Error}
use Rattle.asn1_headers.specs.declared.error.Error.TheVariants as errors
use Rattle.asn1_headers.specs.declared.error.SerializeError.{SerializeError}
use Rattle.asn1_headers.specs.declared.error.SerializeError.TheVariants as serialize_errors
use Rattle.asn1_rs.specs.Grammar.Form.{IsStrict}
use Rattle.asn1_rs.specs.Grammar.Item.{IsLawfulItem, IsLawfulWriting, ItemGrammar}
use Rattle.asn1_rs.specs.Laws.Forms.{der_strict, der_where_written}
use Rattle.asn1_rs.specs.ToDer.{Writing, whole_octets}
use Rattle.asn1_rs.specs.Whole.{IsWhole}
use Rattle.asn1_rs_profiles.specs.Strict.{Compares, DifferAt, IsNoStrict, ReadsAsWritten, ReadsStrict}
use Rattle.asn1_rs_profiles.specs.declared.strict.NotStrict.{NotStrict}
use Rattle.asn1_rs_profiles.specs.declared.strict.NotStrict.TheVariants.{Refused, Differs}

-- What is not written, and not for want of memory, is no strict encoding whose length fits.
pub unwritten : (e : SerializeError) (f : Error) (octets : List ℕ) (S : Type 0) →
    (e ≡ serialize_errors.OutOfMemory → f ≡ errors.OutOfMemory) → length octets < 2 ^ 64 →
    (S → IsMemoryOrLength octets e) → (f ≡ errors.OutOfMemory) ⊎ (S → ⊥)
unwritten serialize_errors.OutOfMemory f octets S memory fits h = inl (memory refl)
unwritten serialize_errors.InvalidLength f octets S memory fits h = inr (λ s. elim (h s) [
  | inl e ↦ cc
  | inr l ↦ let long = l.1 in omega (arith, long, fits)
])
unwritten (serialize_errors.ASN1Error x) f octets S memory fits h =
    inr (λ s. elim (h s) [ inl e ↦ cc | inr l ↦ let is = l.0 in cc ])
unwritten (serialize_errors.InvalidClass x) f octets S memory fits h =
    inr (λ s. elim (h s) [ inl e ↦ cc | inr l ↦ let is = l.0 in cc ])
unwritten (serialize_errors.IOError x) f octets S memory fits h =
    inr (λ s. elim (h s) [ inl e ↦ cc | inr l ↦ let is = l.0 in cc ])

-- Octets that differ from what is written are no strict encoding of the value.
pub differs : (at : ℕ) (octets written whole : List ℕ) (S : Type 0) → written ≡ whole → (S → written ≡ octets) →
    DifferAt at octets written → (S → ⊥) × DifferAt at octets whole
differs at octets written whole S is strict d = (
  λ s. d.apart (ap (λ (xs : List ℕ). slice_get xs at) (sym (strict s))),
  subst (λ (xs : List ℕ). DifferAt at octets xs) is d,
)

module _ {T : Type 0} (G : ItemGrammar T) (l : IsLawfulItem G) (w : Writing T) (octets : List ℕ) where
  -- octets that are no word are no strict encoding
  pub no_word : (e : Error) → IsWhole G.Der G.value G.allocates octets (Err e) →
      (e ≡ errors.OutOfMemory) ⊎ IsNoStrict G.Form octets
  no_word e (inl m) = inl m.1
  no_word e (inr none) = inr (λ v s. ∥∥₁_elim s ⊥_prop (λ t. none v (l.strict_der v octets t)))

  -- octets that are a word of a value, and not its strict encoding, are that of no value
  pub of_no_value : (u : G.Value) → G.Der octets u → (IsStrict G.Form u octets → ⊥) → IsNoStrict G.Form octets
  of_no_value u word none v s = ∥∥₁_elim s ⊥_prop (λ t.
      let same : v ≡ u = (l.der_one.one octets octets [] [] v u (l.strict_der v octets t) word refl).1 in
      none (subst (λ z. IsStrict G.Form z octets) same t))

  module _ (x : T) (word : G.Der octets (G.value x)) where
    -- what differs from what is written of its value
    pub not_as_written : (e : NotStrict) → Compares G w x octets (Err e) → ReadsAsWritten G w octets (Err e)
    not_as_written (Refused e) (inl memory) = inl memory
    not_as_written (Refused e) (inr none) = inr (of_no_value (G.value x) word none)
    not_as_written (Differs at) c = (of_no_value (G.value x) word c.0, (x, word, c.1))

    module _ (lw : IsLawfulWriting G w) (der : G.IsDer (G.value x)) where
      -- so does what differs from the strict encoding, where the value is in DER form
      pub not_strict : (e : NotStrict) → Compares G w x octets (Err e) → ReadsStrict G octets (Err e)
      not_strict (Refused e) (inl memory) = inl memory
      not_strict (Refused e) (inr none) = inr (of_no_value (G.value x) word none)
      not_strict (Differs at) c = (
        of_no_value (G.value x) word c.0,
        (
          G.value x,
          whole_octets w x,
          word,
          der_strict G.value G.IsDer G.Form w lw.form lw.der_form l.form_fits x der c.2,
          c.1,
        ),
      )

      -- and what is written of it is strict
      pub strict_again : length octets < 2 ^ 64 → octets ≡ whole_octets w x → ∥ IsStrict G.Form (G.value x) octets ∥₁
      strict_again fits is =
          (der_where_written G.value G.IsDer G.Form w lw.form lw.der_form l.form_fits x octets der fits).1 is
