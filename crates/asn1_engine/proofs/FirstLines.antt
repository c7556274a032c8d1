-- The first line of a text.
use Rattle.std.proofs.Common.{◌≡◌, ℕ, ◌⊎◌, ◌+◌, ◌<◌, Bool, true, ◌&&◌, List, [], ◌∷◌, ◌++◌, length, get_or, take}
use Rattle.std.proofs.Common.{inl, inr, refl, sym, ap, ◌∙◌, subst}
use Rattle.std.proofs.lemmas.Bool.{and_parts, false≢true}
use Rattle.std.proofs.lemmas.List.Folds.{list_all_more}
use Rattle.std.specs.List.{list_all}
use Rattle.x690.specs.Sets.{AllIn}
use Rattle.asn1_engine.specs.Pem.{IsLine, is_no_feed}

no_feed : (octets : List ℕ) → AllIn is_no_feed (10 ∷ octets) → ⊥
no_feed octets h = false≢true h

no_feed_in : (line rest : List ℕ) → AllIn is_no_feed (line ++ 10 ∷ rest) → ⊥
no_feed_in [] rest h = no_feed rest h
no_feed_in (o ∷ os) rest h = no_feed_in os rest (and_parts (is_no_feed o) (list_all is_no_feed (os ++ 10 ∷ rest)) h).1

-- a text without a line feed in two ways before one
same_truncated : (line other rest tail : List ℕ) → AllIn is_no_feed line → AllIn is_no_feed other →
    line ++ 10 ∷ rest ≡ other ++ 10 ∷ tail → (line ≡ other) × (rest ≡ tail)
same_truncated [] [] rest tail h k e = (refl, cc)
same_truncated [] (o ∷ os) rest tail h k e =
    let feed : o ≡ 10 = cc in absurd (no_feed os (subst (λ (n : ℕ). AllIn is_no_feed (n ∷ os)) feed k))
same_truncated (o ∷ os) [] rest tail h k e =
    let feed : o ≡ 10 = cc in absurd (no_feed os (subst (λ (n : ℕ). AllIn is_no_feed (n ∷ os)) feed h))
same_truncated (o ∷ os) (p ∷ ps) rest tail h k e =
    let more = same_truncated os ps rest tail (and_parts (is_no_feed o) (list_all is_no_feed os) h).1
    (and_parts (is_no_feed p) (list_all is_no_feed ps) k).1 cc in
    let first : o ≡ p = cc in
    (ap (λ (n : ℕ). n ∷ os) first ∙ ap (λ (l : List ℕ). p ∷ l) more.0, more.1)

-- a text has one first line
pub one_first : (text line other rest tail : List ℕ) → IsLine text line rest → IsLine text other tail →
    (line ≡ other) × (rest ≡ tail)
one_first text line other rest tail l m = by_end l.2 m.2
  where
    by_end : ((text ≡ line ++ 10 ∷ rest) ⊎ ((text ≡ line) × (rest ≡ []))) →
        ((text ≡ other ++ 10 ∷ tail) ⊎ ((text ≡ other) × (tail ≡ []))) → (line ≡ other) × (rest ≡ tail)
    by_end (inl a) (inl b) = same_truncated line other rest tail l.1 m.1 (sym a ∙ b)
    by_end (inl a) (inr b) = absurd (no_feed_in line rest (subst (AllIn is_no_feed) (sym b.0 ∙ a) m.1))
    by_end (inr a) (inl b) = absurd (no_feed_in other tail (subst (AllIn is_no_feed) (sym a.0 ∙ b) l.1))
    by_end (inr a) (inr b) = (sym a.0 ∙ b.0, a.1 ∙ sym b.1)

pub no_feed_more : (text : List ℕ) (len : ℕ) → len < length text → AllIn is_no_feed (take len text) →
    is_no_feed (get_or text len 0) ≡ true → AllIn is_no_feed (take (len + 1) text)
no_feed_more text len less before next =
    list_all_more is_no_feed text len 0 less ∙ ap (λ (b : Bool). b && is_no_feed (get_or text len 0)) before ∙ next
