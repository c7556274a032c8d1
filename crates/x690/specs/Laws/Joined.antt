-- Laws of words that are joined.
use Rattle.std.proofs.Common.{arith, ◌≡◌, ◌≢◌, ◌∙◌, ap, sym, subst, refl, ℕ, ◌≤◌, List, [], ◌∷◌, ◌++◌, length}
use Rattle.std.proofs.Common.{append_assoc, append-nil, length-append}
use Rattle.std.proofs.lemmas.List.{append_cancel_left}
use Rattle.std.proofs.lemmas.List.Elements.{All-nil, All-cons}
use Rattle.std.specs.List.{All, AllZip, concat}
use Rattle.x690.specs.Octets.{IsOctets}
use Rattle.x690.specs.Joined.{IsPrefixFree, NoPrefix, IsConcatenation, BeginsWithWords}
use Rattle.x690.specs.Laws.Octets.{octets_append, below_octets}

-- words of one grammar that are words of another
pub joined_map : {V : Type 0} (G H : List ℕ → V → Type 0) → ((o : List ℕ) (v : V) → G o v → H o v) →
    (c : List ℕ) (vs : List V) → IsConcatenation G c vs → IsConcatenation H c vs
joined_map G H f c [] j = j
joined_map G H f c (v ∷ vs) j = (j.0, j.1, f j.0 v j.2, j.3, joined_map G H f j.1 vs j.4)

-- what holds of the value of each word
pub joined_values : {V : Type 0} (G : List ℕ → V → Type 0) (P : V → Type 0) → ((o : List ℕ) (v : V) → G o v → P v) →
    (c : List ℕ) (vs : List V) → IsConcatenation G c vs → All P vs
joined_values G P f c [] j = All-nil P
joined_values G P f c (v ∷ vs) j = All-cons P v vs (f j.0 v j.2) (joined_values G P f j.1 vs j.4)

-- Joined words are octets where the words are.
pub joined_octets : {V : Type 0} (G : List ℕ → V → Type 0) → ((o : List ℕ) (v : V) → G o v → IsOctets o) →
    (c : List ℕ) (vs : List V) → IsConcatenation G c vs → IsOctets c
joined_octets G f c [] j = subst IsOctets (sym j) (below_octets [] tt)
joined_octets G f c (v ∷ vs) j =
    subst IsOctets (sym j.3) (octets_append j.0 j.1 (f j.0 v j.2) (joined_octets G f j.1 vs j.4))

-- where each value has one word, a list has one joining
pub joined_one : {V : Type 0} (G : List ℕ → V → Type 0) → ((v : V) (o p : List ℕ) → G o v → G p v → o ≡ p) →
    (vs : List V) (c d : List ℕ) → IsConcatenation G c vs → IsConcatenation G d vs → c ≡ d
joined_one G one [] c d i j = i ∙ sym j
joined_one G one (v ∷ vs) c d i j =
    i.3 ∙ (ap (λ (o : List ℕ). o ++ i.1) (one v i.0 j.0 i.2 j.2)
    ∙ ap (λ (r : List ℕ). j.0 ++ r) (joined_one G one vs i.1 j.1 i.4 j.4)) ∙ sym j.3

module _ {V : Type 0} (G : List ℕ → V → Type 0) where
  -- the words of a joining
  pub concatenated_words : (c : List ℕ) (vs : List V) → IsConcatenation G c vs →
      (words : List (List ℕ)) × AllZip G words vs × (c ≡ concat words)
  concatenated_words c [] j = ([], tt, j)
  concatenated_words c (v ∷ vs) j =
      let t = concatenated_words j.1 vs j.4 in
      (j.0 ∷ t.0, (j.2, t.1), j.3 ∙ ap (λ (r : List ℕ). j.0 ++ r) t.2)

  -- Words in turn, joined, are joined words of their values.
  pub words_joined : (words : List (List ℕ)) (vs : List V) (c : List ℕ) → AllZip G words vs → c ≡ concat words →
      IsConcatenation G c vs
  words_joined [] [] c a e = e
  words_joined [] (v ∷ vs) c a e = absurd a
  words_joined (w ∷ words) [] c a e = absurd a
  words_joined (w ∷ words) (v ∷ vs) c a e = (w, concat words, a.0, e, words_joined words vs (concat words) a.1 refl)

  -- Joined words begin with words that leave nothing.
  pub joined_words : (c : List ℕ) (vs : List V) → IsConcatenation G c vs →
      (words : List (List ℕ)) × BeginsWithWords G c words vs []
  joined_words c vs j =
      let t = concatenated_words c vs j in
      (t.0, record { each = t.1; is = t.2 ∙ sym (append-nil (concat t.0)) })

  -- Words that leave nothing are joined words.
  pub joined_from_words : (c : List ℕ) (words : List (List ℕ)) (vs : List V) → BeginsWithWords G c words vs [] →
      IsConcatenation G c vs
  joined_from_words c words vs b = words_joined words vs c b.each (b.is ∙ append-nil (concat words))

empty_front : (w r : List ℕ) → [] ≡ w ++ r → w ≡ []
empty_front [] r e = refl
empty_front (a ∷ w) r e = cc

both_same : {X : Type 0} (x y : X) (xs ys : List X) → x ≡ y → xs ≡ ys → x ∷ xs ≡ y ∷ ys
both_same x y xs ys e f = λ i. e i ∷ f i

empty_row : {X : Type 0} (xs : List X) → length xs ≡ 0 → xs ≡ []
empty_row [] e = refl
empty_row (x ∷ xs) e = absurd (omega (arith, e))

module _ {V : Type 0} (G : List ℕ → V → Type 0) (one : IsPrefixFree G) where
  -- one word begins an input, with one value and one rest
  pub one_front : (x y r s : List ℕ) (v w : V) → G x v → G y w → x ++ r ≡ y ++ s → (x ≡ y) × (v ≡ w) × (r ≡ s)
  one_front x y r s v w a b e =
      let same : (x ≡ y) × (v ≡ w) = one.one x y r s v w a b e in
      (same.0, same.1, append_cancel_left y r s (ap (λ (z : List ℕ). z ++ r) (sym same.0) ∙ e))

  -- a word has one value
  pub one_value_of : (o : List ℕ) (v w : V) → G o v → G o w → v ≡ w
  one_value_of o v w a b = (one.one o o [] [] v w a b refl).1

  -- no word begins nothing
  pub no_front_of_nothing : NoPrefix G []
  no_front_of_nothing word rest v e g = one.some v (subst (λ (o : List ℕ). G o v) (empty_front word rest e) g)

  -- Of rows of words that begin one input one of no more words begins the other, and the others follow it.
  pub words_compared : (ws xs : List (List ℕ)) (vs us : List V) (r s : List ℕ) → AllZip G ws vs → AllZip G xs us →
      concat ws ++ r ≡ concat xs ++ s → length ws ≤ length xs →
      (more : List (List ℕ)) × (more_values : List V) × (xs ≡ ws ++ more) × (us ≡ vs ++ more_values) ×
      BeginsWithWords G r more more_values s
  words_compared [] xs [] us r s a b e l = (xs, us, refl, refl, record { each = b; is = e })
  words_compared [] xs (v ∷ vs) us r s a b e l = absurd a
  words_compared (w ∷ ws) xs [] us r s a b e l = absurd a
  words_compared (w ∷ ws) [] (v ∷ vs) us r s a b e l = absurd (omega (arith, l))
  words_compared (w ∷ ws) (x ∷ xs) (v ∷ vs) [] r s a b e l = absurd b
  words_compared (w ∷ ws) (x ∷ xs) (v ∷ vs) (u ∷ us) r s a b e l =
      let t = one_front w x (concat ws ++ r) (concat xs ++ s) v u a.0 b.0
      (sym (append_assoc w (concat ws) r) ∙ e ∙ append_assoc x (concat xs) s) in
      let n = words_compared ws xs vs us r s a.1 b.1 t.2 (omega (arith, l)) in
      (n.0, n.1, both_same x w xs (ws ++ n.0) (sym t.0) n.2, both_same u v us (vs ++ n.1) (sym t.1) n.3, n.4)

  no_words : (r s : List ℕ) (more : List (List ℕ)) (values : List V) → more ≡ [] → BeginsWithWords G r more values s →
      (values ≡ []) × (r ≡ s)
  no_words r s [] [] n b = (refl, b.is)
  no_words r s [] (v ∷ values) n b = absurd b.each
  no_words r s (w ∷ more) values n b = cc

  -- so rows of as many words are the same
  pub as_many_words : (ws xs : List (List ℕ)) (vs us : List V) (r s : List ℕ) → AllZip G ws vs → AllZip G xs us →
      concat ws ++ r ≡ concat xs ++ s → length ws ≡ length xs → (ws ≡ xs) × (vs ≡ us) × (r ≡ s)
  as_many_words ws xs vs us r s a b e l =
      let n = words_compared ws xs vs us r s a b e (omega (arith, l)) in
      let none : n.0 ≡ [] = empty_row n.0 (omega (arith, l, ap length n.2, length-append ws n.0)) in
      let end = no_words r s n.0 n.1 none n.4 in (
        sym (n.2 ∙ ap (λ (ys : List (List ℕ)). ws ++ ys) none ∙ append-nil ws),
        sym (n.3 ∙ ap (λ (ys : List V). vs ++ ys) end.0 ∙ append-nil vs),
        end.1,
      )

  -- and so are rows behind each of which no word follows
  pub last_words : (ws xs : List (List ℕ)) (vs us : List V) (r s : List ℕ) → AllZip G ws vs → AllZip G xs us →
      concat ws ++ r ≡ concat xs ++ s → NoPrefix G r → NoPrefix G s → (ws ≡ xs) × (vs ≡ us) × (r ≡ s)
  last_words [] [] [] [] r s a b e n m = (refl, refl, e)
  last_words [] xs (v ∷ vs) us r s a b e n m = absurd a
  last_words (w ∷ ws) xs [] us r s a b e n m = absurd a
  last_words ws [] vs (u ∷ us) r s a b e n m = absurd b
  last_words ws (x ∷ xs) vs [] r s a b e n m = absurd b
  last_words [] (x ∷ xs) [] (u ∷ us) r s a b e n m =
      absurd (n x (concat xs ++ s) u (e ∙ append_assoc x (concat xs) s) b.0)
  last_words (w ∷ ws) [] (v ∷ vs) [] r s a b e n m =
      absurd (m w (concat ws ++ r) v (sym e ∙ append_assoc w (concat ws) r) a.0)
  last_words (w ∷ ws) (x ∷ xs) (v ∷ vs) (u ∷ us) r s a b e n m =
      let t = one_front w x (concat ws ++ r) (concat xs ++ s) v u a.0 b.0
      (sym (append_assoc w (concat ws) r) ∙ e ∙ append_assoc x (concat xs) s) in
      let k = last_words ws xs vs us r s a.1 b.1 t.2 n m in
      (both_same w x ws xs t.0 k.0, both_same v u vs us t.1 k.1, k.2)

  -- octets are joined of words with one row of values
  pub joined_same : (c d : List ℕ) (vs ws : List V) → c ≡ d → IsConcatenation G c vs → IsConcatenation G d ws → vs ≡ ws
  joined_same c d vs ws e i j =
      let a = concatenated_words G c vs i in
      let b = concatenated_words G d ws j in
      (last_words a.0 b.0 vs ws [] [] a.1 b.1
      (ap (λ (o : List ℕ). o ++ []) (sym a.2 ∙ e ∙ b.2)) no_front_of_nothing no_front_of_nothing).1

  -- where something follows joined words that begins with no word, no words are joined to the octets
  pub ends_unjoined : (c front others : List ℕ) (vs ws : List V) → c ≡ front ++ others → others ≢ [] →
      NoPrefix G others → IsConcatenation G front vs → IsConcatenation G c ws → ⊥
  ends_unjoined c front others vs ws e n none i j =
      let a = concatenated_words G front vs i in
      let b = concatenated_words G c ws j in
      let whole : concat a.0 ++ others ≡ concat b.0 ++ [] =
      ap (λ (o : List ℕ). o ++ others) (sym a.2) ∙ sym e ∙ b.2 ∙ sym (append-nil (concat b.0)) in
      n (last_words a.0 b.0 vs ws others [] a.1 b.1 whole none no_front_of_nothing).2
