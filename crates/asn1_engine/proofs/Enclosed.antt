-- The lines of a block.
use Rattle.std.proofs.Common.{◌≡◌, ℕ, suc, ◌⊎◌, List, [], ◌++◌, inl, inr, refl, sym, ◌∙◌, subst, append_assoc}
use Rattle.std.proofs.lemmas.List.{append-nil}
use Rattle.asn1_engine.specs.declared.pem.PemError.{PemError}
use Rattle.asn1_engine.specs.declared.pem.PemError.TheVariants.{NoBase64, OutOfMemory}
use Rattle.asn1_engine.specs.Pem.{Encloses, IsEnclosed, IsInner, IsLine, IsMistake, IsNoBase64, base64_of, no_line, one_line}

-- one line more at the end
pub encloses_more : (count : ℕ) (text base64 last line rest : List ℕ) → Encloses count text base64 last →
    IsLine last line rest → IsInner line → Encloses (suc count) text (base64 ++ base64_of line) rest
encloses_more _ _ _ _ line rest (no_line text) is_line is_inner =
    subst (λ (base64 : List ℕ). Encloses 1 text base64 rest) (append-nil (base64_of line))
    (one_line 0 text line rest [] rest is_line is_inner (no_line rest))
encloses_more _ _ _ _ line rest (one_line count text first more base64 last is_first first_inner encloses) is_line is_inner =
    subst (λ (all : List ℕ). Encloses (suc (suc count)) text all rest) (sym (append_assoc (base64_of first) base64 (base64_of line)))
    (one_line (suc count) text first more (base64 ++ base64_of line) rest is_first first_inner
    (encloses_more count more base64 last line rest encloses is_line is_inner))

-- what decoding the base64 of a block refuses, is a mistake of the block
pub not_decoded : (before count : ℕ) (label text base64 given rest : List ℕ) (error : PemError) →
    IsEnclosed text label base64 rest count → given ≡ base64 →
    ((error ≡ OutOfMemory) ⊎ ((error ≡ NoBase64 before) × IsNoBase64 given)) →
    (error ≡ OutOfMemory) ⊎ IsMistake before label text error
not_decoded before count label text base64 given rest error enclosed same (inl memory) = inl memory
not_decoded before count label text base64 given rest error enclosed same (inr (is, none)) =
    inr (subst (IsMistake before label text) (sym is)
    (refl, (base64, rest, count, enclosed, λ octets bytes e. none octets bytes (same ∙ e))))
