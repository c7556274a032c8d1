-- Pieces join to one string.
use Rattle.std.proofs.Common.{◌≡◌, ◌∙◌, ap, sym, subst, refl, ℕ, zero, suc, ◌-◌, Bool, true, false, List, [], ◌∷◌, ◌++◌}
use Rattle.std.proofs.Common.{append_assoc, append-nil, arith, inl, inr}
use Rattle.std.specs.List.{concat}
use Rattle.x690.specs.Octets.{IsOctets}
use Rattle.x690.specs.Elements.{Parts}
use Rattle.x690.specs.Joined.{IsConcatenation, IsPrefixFree, NoPrefix}
use Rattle.x690.specs.Nested.{IsElement}
use Rattle.x690.specs.Laws.Joined.{joined_same, no_front_of_nothing, one_front}
use Rattle.x690.specs.Laws.Nested.{nested_possible}
use Rattle.x690.specs.Laws.Octets.{below_octets, octets_append}
use Rattle.x690.specs.Laws.Words.{nested_words}
use Rattle.asn1_headers.specs.Ber.{max_depth}
use Rattle.asn1_rs.specs.Grammar.{BerWord, IsOneBody, NoCheck}
use Rattle.asn1_rs.specs.Laws.Words.{word_one}
use Rattle.asn1_rs_profiles.specs.Joined.Pieces.{AreJoined, AreStringPieces, IsStringPiece, SaysOctets}

-- Words of one grammar.

module _ (Piece : List ℕ → List ℕ → Type 0) where
  -- Some pieces are joined, and what the others join to makes the whole string.
  pub record IsJoinedSoFar (content rest done : List ℕ) : Type 0 where
    pub onward : (octets : List ℕ) → AreJoined Piece rest octets → AreJoined Piece content (done ++ octets)
    pub back : (octets : List ℕ) → AreJoined Piece content octets →
        (others : List ℕ) × AreJoined Piece rest others × (octets ≡ done ++ others)

  -- none is
  pub none_joined : (content : List ℕ) → IsJoinedSoFar content content []
  none_joined content = record { onward = λ o j. j; back = λ o j. (o, j, refl) }

  -- all are
  pub all_joined : (content rest done : List ℕ) → IsJoinedSoFar content rest done → rest ≡ [] →
      AreJoined Piece content done
  all_joined content rest done so over =
      subst (AreJoined Piece content) (append-nil done) (so.onward [] ([], over, refl))

  -- where no piece follows, the contents octets are no pieces
  pub none_follows : (content rest done : List ℕ) → IsJoinedSoFar content rest done → (rest ≡ [] → ⊥) →
      NoPrefix Piece rest → (octets : List ℕ) → AreJoined Piece content octets → ⊥
  none_follows content rest done so some none octets j =
      let b = so.back octets j in in_front b.1.0 b.1.1
    where
      in_front : (pieces : List (List ℕ)) → IsConcatenation Piece rest pieces → ⊥
      in_front [] c = some c
      in_front (x ∷ xs) c = none c.0 c.1 x c.3 c.2

module _ (Piece : List ℕ → List ℕ → Type 0) (one : IsPrefixFree Piece) where
  -- pieces join to one string
  pub one_joined_string : (content a b : List ℕ) → AreJoined Piece content a → AreJoined Piece content b → a ≡ b
  one_joined_string content a b i j = i.2 ∙ ap concat (joined_same Piece one content content i.0 j.0 refl i.1 j.1) ∙
      sym j.2

  -- one more is
  pub one_joined : (content rest done word tail said : List ℕ) → IsJoinedSoFar Piece content rest done →
      Piece word said → rest ≡ word ++ tail → IsJoinedSoFar Piece content tail (done ++ said)
  one_joined content rest done word tail said so p is = record {
    onward = λ o j. subst (AreJoined Piece content) (sym (append_assoc done said o))
        (so.onward (said ++ o)
        (said ∷ j.0, (word, tail, p, is, j.1), ap (λ (z : List ℕ). said ++ z) j.2));
    back = λ o j.
        let b = so.back o j in
        let c = behind b.0 b.1.0 b.1.1 b.1.2 in
        (c.0, c.1, b.2 ∙ ap (λ (z : List ℕ). done ++ z) c.2 ∙ sym (append_assoc done said c.0));
  }
    where
      behind : (octets : List ℕ) (pieces : List (List ℕ)) → IsConcatenation Piece rest pieces →
          octets ≡ concat pieces → (others : List ℕ) × AreJoined Piece tail others × (octets ≡ said ++ others)
      behind octets [] c e = absurd (no_front_of_nothing Piece one word tail said (sym c ∙ is) p)
      behind octets (x ∷ xs) c e =
          let u = one_front Piece one c.0 word c.1 tail x said c.2 p (sym c.3 ∙ is) in (
            concat xs,
            (xs, subst (λ (z : List ℕ). IsConcatenation Piece z xs) u.2 c.4, refl),
            e ∙ ap (λ (z : List ℕ). z ++ concat xs) u.1,
          )

-- What is joined are octets where pieces say octets.
joined_octets : (Piece : List ℕ → List ℕ → Type 0) → ((o v : List ℕ) → Piece o v → IsOctets v) →
    (content : List ℕ) (pieces : List (List ℕ)) → IsConcatenation Piece content pieces → IsOctets (concat pieces)
joined_octets Piece are content [] c = below_octets [] tt
joined_octets Piece are content (v ∷ vs) c =
    octets_append v (concat vs) (are c.0 v c.2) (joined_octets Piece are c.1 vs c.4)

-- Strings.

-- a string says one string of octets
pub says_one : (depth : ℕ) → IsOneBody (SaysOctets depth)
unfolding SaysOctets
says_one zero p v w i j = absurd i
says_one (suc depth) p v w (inl i) (inl j) = sym i.1 ∙ j.1
says_one (suc depth) p v w (inl i) (inr j) = absurd (cc (i.0, j.0))
says_one (suc depth) p v w (inr i) (inl j) = absurd (cc (i.0, j.0))
says_one (suc depth) p v w (inr i) (inr j) =
    one_joined_string (BerWord (IsStringPiece depth))
    (word_one (IsElement max_depth) NoCheck (IsStringPiece depth) (nested_words max_depth)
    (λ q x y a b. says_one depth q x y a.1 b.1)) p.content v w i.1 j.1

-- one piece alone begins octets
pub one_piece : (depth : ℕ) → IsPrefixFree (BerWord (IsStringPiece depth))
one_piece depth = word_one (IsElement max_depth) NoCheck (IsStringPiece depth) (nested_words max_depth)
    (λ q x y a b. says_one depth q x y a.1 b.1)

-- what it says are octets
pub says_octets : (depth : ℕ) (p : Parts) (v : List ℕ) → IsOctets p.content → SaysOctets depth p v → IsOctets v
unfolding SaysOctets
says_octets zero p v o s = absurd s
says_octets (suc depth) p v o (inl s) = subst IsOctets s.1 o
says_octets (suc depth) p v o (inr s) = subst IsOctets (sym s.1.2)
    (joined_octets (BerWord (IsStringPiece depth))
    (λ w x a. says_octets depth a.0 x (nested_possible max_depth w a.0 a.1.0 a.1.1).content a.3.1)
    p.content s.1.0 s.1.1)

-- a primitive string says its contents octets
pub primitive_says : (depth : ℕ) (p : Parts) → (depth ≡ 0 → ⊥) → p.id.constructed ≡ false →
    SaysOctets depth p p.content
unfolding SaysOctets
primitive_says zero p some primitive = absurd (some refl)
primitive_says (suc depth) p some primitive = inl (primitive, refl)

-- and nothing else
pub primitive_said : (depth : ℕ) (p : Parts) (v : List ℕ) → p.id.constructed ≡ false → SaysOctets depth p v →
    p.content ≡ v
unfolding SaysOctets
primitive_said zero p v primitive s = absurd s
primitive_said (suc depth) p v primitive (inl s) = s.1
primitive_said (suc depth) p v primitive (inr s) = absurd (cc (primitive, s.0))

-- a constructed one says what its pieces join to
pub constructed_says : (depth : ℕ) (p : Parts) (v : List ℕ) → (depth ≡ 0 → ⊥) → p.id.constructed ≡ true →
    AreStringPieces (depth - 1) p.content v → SaysOctets depth p v
unfolding SaysOctets
constructed_says zero p v some constructed a = absurd (some refl)
constructed_says (suc depth) p v some constructed a =
    let z : suc depth - 1 ≡ depth = omega arith in
    inr (constructed, subst (λ (d : ℕ). AreStringPieces d p.content v) z a)

-- and nothing else
pub constructed_said : (depth : ℕ) (p : Parts) (v : List ℕ) → p.id.constructed ≡ true → SaysOctets depth p v →
    AreStringPieces (depth - 1) p.content v
unfolding SaysOctets
constructed_said zero p v constructed s = absurd s
constructed_said (suc depth) p v constructed (inl s) = absurd (cc (constructed, s.0))
constructed_said (suc depth) p v constructed (inr s) =
    let z : depth ≡ suc depth - 1 = omega arith in
    subst (λ (d : ℕ). AreStringPieces d p.content v) z s.1

-- Nothing is said below all depth.
pub none_said : (depth : ℕ) (p : Parts) (v : List ℕ) → depth ≡ 0 → SaysOctets depth p v → ⊥
unfolding SaysOctets
none_said zero p v none s = s
none_said (suc depth) p v none s = absurd (omega arith)
