-- Labels that may be left out, counted and written.
use Rattle.std.proofs.Common.{◌≡◌, ◌≤◌, ◌+◌, ◌∙◌, ap, arith, refl, subst, inl, inr, ℕ, false, true, List, length}
use Rattle.std.proofs.Common.{Option, None, Some}
use Rattle.std.specs.Prelude.{Result, Ok, Err, IfOk, IfErr, MatchResult}
use Rattle.asn1_headers.specs.declared.error.Error.{Error}
use Rattle.asn1_headers.specs.declared.error.SerializeError.{SerializeError}
use Rattle.asn1_headers.specs.Error.{tells_of_io}
use Rattle.asn1_headers.specs.Writer.{MayRefuse, IsMemoryOrLength}
use Rattle.asn1_rs.specs.declared.asn1_types.octet_string.OctetString.{OctetString}
use Rattle.asn1_rs.specs.Kinds.Writing.{universal_writing}
use Rattle.asn1_rs.specs.OctetString.{string_octets}
use Rattle.asn1_rs.specs.Optional.{InSome, option_writing}
use Rattle.asn1_rs.specs.Tagged.Writing.{explicit_under, tag_writing}
use Rattle.asn1_rs.specs.ToDer.{HasNone, MayRefuseCount, Refuses, RefusesCount, VectorRefuses, Writing}
use Rattle.asn1_rs.specs.ToDer.{whole_octets, whole_refuses}
use Rattle.asn1_rs_uses.specs.Labels.{Label, label_octets}
use Rattle.asn1_rs_uses.proofs.Unrefused.{both, vector_alone, vector_refused, writing_alone}

abbrev string : Writing OctetString
string = universal_writing 4 string_octets (λ _. false) (λ _ _. ⊥)

-- what is written for a label that may be left out
abbrev pub optional : Writing (Option Label)
optional = option_writing (tag_writing 2 1 (λ (t : Label). t.inner) (explicit_under string) string)

pub told : (l : Option Label) → optional.tells l
told None = tt
told (Some t) = tt

same : (l : Option Label) → whole_octets optional l ≡ label_octets l
same None = refl
same (Some t) = refl

uncounted : (l : Option Label) → HasNone (optional.count_refuses l)
uncounted None e o = o
uncounted (Some t) e o = o

unwritten : (l : Option Label) → HasNone (whole_refuses optional l)
unwritten None e (inl o) = o
unwritten None e (inr o) = o
unwritten (Some t) e (inl (inl past)) = let no : 4 ≤ 2 = past.0 in absurd (omega (arith, no))
unwritten (Some t) e (inl (inr (lt, (f, none, is)))) = none
unwritten (Some t) e (inr (inl past)) = let no : 4 ≤ 2 = past.0 in absurd (omega (arith, no))
unwritten (Some t) e (inr (inr (lt, inl none))) = none
unwritten (Some t) e (inr (inr (lt, inr none))) = none

module _ (l : Option Label) where
  pub label_counted : (r : Result ℕ Error) → IfOk r (λ n. n ≡ length (whole_octets optional l)) →
      IfErr r (RefusesCount false (length (whole_octets optional l)) (optional.count_refuses l)) →
      MatchResult r (λ n. n ≡ length (label_octets l)) (MayRefuseCount false (length (label_octets l)))
  label_counted (Ok n) p q = p ∙ ap length (same l)
  label_counted (Err e) p (inl m) = subst (λ (o : List ℕ). MayRefuseCount false (length o) e) (same l) m
  label_counted (Err e) p (inr own) = absurd (uncounted l e own)

  pub label_written : (r : Result ℕ SerializeError) →
      IfErr r (Refuses false (length (whole_octets optional l)) (whole_refuses optional l)) →
      IfErr r (MayRefuse false (length (label_octets l)))
  label_written r p = subst (λ (o : List ℕ). IfErr r (MayRefuse false (length o))) (same l)
      (writing_alone (length (whole_octets optional l)) false (whole_refuses optional l) (unwritten l) r p)

  pub label_in_front : (m : ℕ) (r : Result ℕ SerializeError) →
      IfErr r (VectorRefuses (length (whole_octets optional l) + m) (whole_refuses optional l)) →
      IfErr r (MayRefuse true (length (label_octets l) + m))
  label_in_front m r p = subst (λ (o : List ℕ). IfErr r (MayRefuse true (length o + m))) (same l)
      (vector_alone (length (whole_octets optional l) + m) (whole_refuses optional l) (unwritten l) r p)

  pub label_in_vector : {A : Type 0} (items : A → List ℕ) (r : Result A SerializeError) →
      IfOk r (λ v. items v ≡ whole_octets optional l) → IfErr r (λ e. tells_of_io e ≡ false) →
      IfErr r (VectorRefuses (length (whole_octets optional l)) (whole_refuses optional l)) →
      MatchResult r (λ v. items v ≡ label_octets l) (IsMemoryOrLength (label_octets l))
  label_in_vector items r p m q =
      subst (λ (o : List ℕ). MatchResult r (λ v. items v ≡ o) (IsMemoryOrLength o)) (same l)
      (both (λ v. items v ≡ whole_octets optional l) (IsMemoryOrLength (whole_octets optional l)) r p
      (vector_refused (whole_octets optional l) (whole_refuses optional l) (unwritten l) r m q))
