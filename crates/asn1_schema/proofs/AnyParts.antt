-- Elements of any type.
use Rattle.std.proofs.Common.{◌≡◌, ◌≢◌, ◌∙◌, ap, sym, subst, refl, ℕ, zero, suc, ◌-◌, inl, inr, true, false, List, [], ◌∷◌, ◌++◌, arith}
use Rattle.std.specs.List.{concat}
use Rattle.x690.specs.Elements.{Parts, IsDerElement}
use Rattle.x690.specs.Joined.{NoPrefix, AreWords, AreConcatenatedWords}
use Rattle.asn1_headers.specs.Answers.{HasPrefix}
use Rattle.asn1_schema.specs.Rules.{IsStrictInside, der}
use Rattle.asn1_schema.proofs.OneValue.{same_front, some_octets}
use Rattle.asn1_schema.proofs.Lawful.{der_lawful}

abbrev pub AreStrict : ℕ → List ℕ → Type 0
AreStrict depth octets = AreConcatenatedWords (λ word q. IsDerElement word q × IsStrictInside depth q) octets

pub inside_primitive : (depth : ℕ) (p : Parts) → p.id.constructed ≡ false → IsStrictInside depth p
inside_primitive zero p c = c
inside_primitive (suc depth) p c = inl c

pub inside_none : (depth : ℕ) (p : Parts) → depth ≡ 0 → p.id.constructed ≡ true → IsStrictInside depth p → ⊥
inside_none zero p e c a = absurd (cc)
inside_none (suc depth) p e c a = absurd (omega arith)

pub inside_made : (depth : ℕ) (p : Parts) → depth ≢ 0 → AreStrict (depth - 1) p.content → IsStrictInside depth p
inside_made zero p some a = absurd (some refl)
inside_made (suc depth) p some a =
    let z : suc depth - 1 ≡ depth = omega arith in
    inr (subst (λ (d : ℕ). AreStrict d p.content) z a)

pub inside_of : (depth : ℕ) (p : Parts) → p.id.constructed ≡ true → IsStrictInside depth p → AreStrict (depth - 1) p.content
inside_of zero p c a = absurd (cc)
inside_of (suc depth) p c (inl a) = absurd (cc)
inside_of (suc depth) p c (inr a) =
    let z : depth ≡ suc depth - 1 = omega arith in
    subst (λ (d : ℕ). AreStrict d p.content) z a

module _ (depth : ℕ) (rest tail : List ℕ) (p : Parts) (f : HasPrefix IsDerElement rest p tail) where
  pub strict_more : IsStrictInside depth p → AreStrict depth tail → AreStrict depth rest
  strict_more i a = (f.word ∷ a.0, ((p, (f.fits, i)), a.1), f.is ∙ ap (λ (z : List ℕ). f.word ++ z) a.2)

  pub strict_less : AreStrict depth rest → AreStrict depth tail × IsStrictInside depth p
  strict_less a = by_words a.0 a.1 a.2
    where
      by_words : (words : List (List ℕ)) → AreWords (λ word q. IsDerElement word q × IsStrictInside depth q) words →
          rest ≡ concat words → AreStrict depth tail × IsStrictInside depth p
      by_words [] b e = absurd (some_octets der der_lawful f.word tail p f.fits (sym f.is ∙ e))
      by_words (w ∷ words) b e =
          let u = same_front der der_lawful rest w f.word (concat words) tail b.0.0 p b.0.1.0 f.fits e f.is in
          ((words, b.1, sym u.1), subst (IsStrictInside depth) u.0 b.0.1.1)

pub strict_none : (depth : ℕ) (rest : List ℕ) → (rest ≡ [] → ⊥) → NoPrefix IsDerElement rest → AreStrict depth rest → ⊥
strict_none depth rest some n a = by_words a.0 a.1 a.2
  where
    by_words : (words : List (List ℕ)) → AreWords (λ word q. IsDerElement word q × IsStrictInside depth q) words →
        rest ≡ concat words → ⊥
    by_words [] b e = some e
    by_words (w ∷ words) b e = n w (concat words) b.0.0 e b.0.1.0

pub strict_end : (depth : ℕ) (rest : List ℕ) → rest ≡ [] → AreStrict depth rest
strict_end depth rest e = ([], tt, e)
