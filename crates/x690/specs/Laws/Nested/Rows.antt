-- Rows of words of any grammar whose words begin one input in one way.
use Rattle.std.proofs.Common.{◌≡◌, ◌≢◌, ℕ, ◌*◌, ◌≤◌, List, [], ◌∷◌, ◌++◌, length, refl, sym, ap, ◌∙◌, arith, ◌⊎◌, inl}
use Rattle.std.proofs.Common.{inr, append_assoc, length-append}
use Rattle.std.specs.List.{concat}
use Rattle.std.proofs.lemmas.List.{append_cancel_left}
use Rattle.x690.specs.Octets.{IsOctets}
use Rattle.x690.specs.Nested.{IsRow, end_of_contents}
use Rattle.x690.specs.Laws.Octets.{octets_append, below_octets}

-- words that begin one input are the same, with the same count
abbrev pub AreWordsUnique : (List ℕ → ℕ → Type 0) → Type 0
AreWordsUnique Word = (o q x y : List ℕ) (g h : ℕ) → Word o g → Word q h → o ++ x ≡ q ++ y → (o ≡ q) × (g ≡ h)

-- a word that begins with 00 00 is 00 00
abbrev pub IsEndWhole : (List ℕ → ℕ → Type 0) → Type 0
IsEndWhole Word = (o x y : List ℕ) (g : ℕ) → Word o g → o ++ x ≡ end_of_contents ++ y → o ≡ end_of_contents

-- a word that may stand in a row begins the octets
pub record BeginsWithWord (Word : List ℕ → ℕ → Type 0) (octets : List ℕ) : Type 0 where
  pub word : List ℕ
  pub rest : List ℕ
  pub headers : ℕ
  pub word_is : Word word headers
  pub not_end : word ≢ end_of_contents
  pub is : octets ≡ word ++ rest

-- Of two rows that begin one input one goes on where the other stops, or they are the same.
pub rows_compared : (Word : List ℕ → ℕ → Type 0) → AreWordsUnique Word →
    (ws vs : List (List ℕ)) (x y : List ℕ) (g h : ℕ) → IsRow Word ws g → IsRow Word vs h →
    concat ws ++ x ≡ concat vs ++ y → ((ws ≡ vs) × (g ≡ h) × (x ≡ y)) ⊎ BeginsWithWord Word x ⊎ BeginsWithWord Word y
rows_compared Word unique [] [] x y g h a b e = inl (refl, a ∙ sym b, e)
rows_compared Word unique [] (v ∷ vs) x y g h a b e = inr (inl (record {
  word = v;
  rest = concat vs ++ y;
  headers = b.0;
  word_is = b.2;
  not_end = b.3;
  is = e ∙ append_assoc v (concat vs) y;
}))
rows_compared Word unique (w ∷ ws) [] x y g h a b e = inr (inr (record {
  word = w;
  rest = concat ws ++ x;
  headers = a.0;
  word_is = a.2;
  not_end = a.3;
  is = sym e ∙ append_assoc w (concat ws) x;
}))
rows_compared Word unique (w ∷ ws) (v ∷ vs) x y g h a b e =
    let s : w ++ (concat ws ++ x) ≡ v ++ (concat vs ++ y) =
    sym (append_assoc w (concat ws) x) ∙ e ∙ append_assoc v (concat vs) y in
    let u = unique w v (concat ws ++ x) (concat vs ++ y) a.0 b.0 a.2 b.2 s in
    let t = append_cancel_left v (concat ws ++ x) (concat vs ++ y)
    (ap (λ (ys : List ℕ). ys ++ (concat ws ++ x)) (sym u.0) ∙ s) in
    elim (rows_compared Word unique ws vs x y a.1 b.1 a.4 b.4 t) [
      | inl r ↦ let k : w ∷ ws ≡ v ∷ vs = cc in inl (k, omega (arith, a.5, b.5, u.1, r.1), r.2)
      | inr r ↦ inr r
    ]

-- no word that may stand in a row begins with 00 00
pub no_word_at_end : (Word : List ℕ → ℕ → Type 0) → IsEndWhole Word → (x : List ℕ) →
    BeginsWithWord Word (end_of_contents ++ x) → ⊥
no_word_at_end Word whole x b = b.not_end (whole b.word b.rest x b.headers b.word_is (sym b.is))

-- Rows that end with 00 00 and begin one input are the same, with the same count, and the same follows.
pub rows_unique : (Word : List ℕ → ℕ → Type 0) → AreWordsUnique Word → IsEndWhole Word →
    (ws vs : List (List ℕ)) (x y : List ℕ) (g h : ℕ) → IsRow Word ws g → IsRow Word vs h →
    concat ws ++ (end_of_contents ++ x) ≡ concat vs ++ (end_of_contents ++ y) → (ws ≡ vs) × (g ≡ h) × (x ≡ y)
rows_unique Word unique whole ws vs x y g h a b e =
    elim (rows_compared Word unique ws vs (end_of_contents ++ x) (end_of_contents ++ y) g h a b e) [
      | inl r ↦ (r.0, r.1, append_cancel_left end_of_contents x y r.2)
      | inr (inl r) ↦ absurd (no_word_at_end Word whole x r)
      | inr (inr r) ↦ absurd (no_word_at_end Word whole y r)
    ]

-- where a row ends with 00 00, any row that begins the same input is followed by that end or by a word
pub row_goes_on : (Word : List ℕ → ℕ → Type 0) → AreWordsUnique Word → IsEndWhole Word →
    (ws vs : List (List ℕ)) (x y : List ℕ) (g h : ℕ) → IsRow Word ws g → IsRow Word vs h →
    concat ws ++ x ≡ concat vs ++ (end_of_contents ++ y) → (x ≡ end_of_contents ++ y) ⊎ BeginsWithWord Word x
row_goes_on Word unique whole ws vs x y g h a b e =
    elim (rows_compared Word unique ws vs x (end_of_contents ++ y) g h a b e) [
      | inl r ↦ inl r.2
      | inr (inl r) ↦ inr r
      | inr (inr r) ↦ absurd (no_word_at_end Word whole y r)
    ]

-- Rows are as long as twice their headers at least, where the words are.
pub row_half : (Word : List ℕ → ℕ → Type 0) → ((w : List ℕ) (g : ℕ) → Word w g → 2 * g ≤ length w) →
    (ws : List (List ℕ)) (h : ℕ) → IsRow Word ws h → 2 * h ≤ length (concat ws)
row_half Word half [] h r = omega arith
row_half Word half (w ∷ ws) h r =
    omega (arith, half w r.0 r.2, row_half Word half ws r.1 r.4, r.5, length-append w (concat ws))

-- words of one grammar that are words of another
pub row_map : (Word Other : List ℕ → ℕ → Type 0) → ((w : List ℕ) (g : ℕ) → Word w g → Other w g) →
    (ws : List (List ℕ)) (h : ℕ) → IsRow Word ws h → IsRow Other ws h
row_map Word Other f [] h r = r
row_map Word Other f (w ∷ ws) h r = (r.0, r.1, f w r.0 r.2, r.3, row_map Word Other f ws r.1 r.4, r.5)

-- Rows are octets where the words are.
pub row_is_octets : (Word : List ℕ → ℕ → Type 0) → ((w : List ℕ) (g : ℕ) → Word w g → IsOctets w) →
    (ws : List (List ℕ)) (h : ℕ) → IsRow Word ws h → IsOctets (concat ws)
row_is_octets Word octets [] h r = below_octets [] tt
row_is_octets Word octets (w ∷ ws) h r =
    octets_append w (concat ws) (octets w r.0 r.2) (row_is_octets Word octets ws r.1 r.4)
