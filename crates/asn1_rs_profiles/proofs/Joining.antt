-- Pieces that are joined one behind another.
use Rattle.std.proofs.Common.{◌≡◌, ◌∙◌, ap, sym, subst, refl, ℕ, ◌-◌, ◌<◌, ◌⊎◌, Bool, true, false, List, [], ◌∷◌, ◌++◌}
use Rattle.std.proofs.Common.{length, append_assoc, append-nil, arith, inl, inr, length-append}
use Rattle.std.specs.Prelude.{Result, Ok, Err, MatchResult}
use Rattle.x690.specs.Elements.{Parts}
use Rattle.x690.specs.Joined.{NoPrefix}
use Rattle.x690.specs.Nested.{IsElement}
use Rattle.x690.specs.Laws.Words.{nested_words}
use Rattle.asn1_headers.specs.Answers.{HasPrefix}
use Rattle.asn1_headers.specs.Ber.{max_depth}
use Rattle.asn1_headers.specs.declared.error.Error.{Error}
use Rattle.asn1_headers.specs.declared.error.Error.TheVariants.{BerValueError, OutOfMemory}
use Rattle.asn1_rs.specs.Grammar.{BerWord}
use Rattle.asn1_rs_profiles.specs.Joined.Laws.{IsJoinedSoFar, all_joined, constructed_said, constructed_says}
use Rattle.asn1_rs_profiles.specs.Joined.Laws.{none_follows, none_joined, none_said, one_joined, one_piece}
use Rattle.asn1_rs_profiles.specs.Joined.Laws.{primitive_says}
use Rattle.asn1_rs_profiles.specs.Joined.Pieces.{AreStringPieces, BeginsWithPiece, HasNoPiece, IsStringPiece}
use Rattle.asn1_rs_profiles.specs.Joined.Pieces.{IsPieceTag, AppendsSuch}
use Rattle.asn1_rs_profiles.specs.Joined.Pieces.{SaysOctets}

-- One piece.

module _ (depth : ℕ) (p : Parts) (content old new : List ℕ) (is : p.content ≡ content) where
  -- what is too deep says nothing
  pub too_deep : depth ≡ 0 → AppendsSuch (SaysOctets depth p) old new (Err BerValueError)
  too_deep none = inr (refl, λ v s. none_said depth p v none s)

  -- contents octets are appended
  pub joins_primitive : (r : Result (Unit {0}) Error) → (depth ≡ 0 → ⊥) → p.id.constructed ≡ false →
      MatchResult r (λ (x : Unit {0}). new ≡ old ++ content) (λ (e : Error). e ≡ OutOfMemory) →
      AppendsSuch (SaysOctets depth p) old new r
  joins_primitive (Ok x) some primitive m =
      (content, subst (λ (z : List ℕ). SaysOctets depth p z) is (primitive_says depth p some primitive), m)
  joins_primitive (Err e) some primitive m = inl m

  -- or what their pieces say
  pub joins_constructed : (r : Result (Unit {0}) Error) → (depth ≡ 0 → ⊥) → p.id.constructed ≡ true →
      AppendsSuch (AreStringPieces (depth - 1) content) old new r → AppendsSuch (SaysOctets depth p) old new r
  joins_constructed (Ok x) some constructed j = (
    j.0,
    constructed_says depth p j.0 some constructed
        (subst (λ (z : List ℕ). AreStringPieces (depth - 1) z j.0) (sym is) j.1),
    j.2,
  )
  joins_constructed (Err e) some constructed (inl m) = inl m
  joins_constructed (Err e) some constructed (inr n) = inr (
    n.0,
    λ v s. n.1 v
        (subst (λ (z : List ℕ). AreStringPieces (depth - 1) z v) is (constructed_said depth p v constructed s)),
  )

-- All pieces.

-- What some of them say was appended.
abbrev pub AreAppended : ℕ → List ℕ → List ℕ → List ℕ → List ℕ → Type 0
AreAppended depth content rest old new =
    (done : List ℕ) × IsJoinedSoFar (BerWord (IsStringPiece depth)) content rest done × (new ≡ old ++ done)

module _ (depth : ℕ) (content old : List ℕ) where
  -- none yet
  pub none_appended : AreAppended depth content content old old
  none_appended = ([], none_joined (BerWord (IsStringPiece depth)) content, sym (append-nil old))

  -- all of them
  pub all_appended : (rest new : List ℕ) → AreAppended depth content rest old new → rest ≡ [] →
      AppendsSuch (AreStringPieces depth content) old new (Ok tt)
  all_appended rest new so over = (so.0, all_joined (BerWord (IsStringPiece depth)) content rest so.0 so.1 over, so.2)

  -- where no piece follows
  pub none_next : (rest mid new : List ℕ) → AreAppended depth content rest old mid → (rest ≡ [] → ⊥) → HasNoPiece rest →
      AppendsSuch (AreStringPieces depth content) old new (Err BerValueError)
  none_next rest mid new so some none = inr (
    refl,
    none_follows (BerWord (IsStringPiece depth)) content rest so.0 so.1 some
        (λ word r v is w. none word r w.0 is w.1 w.3.0),
  )

  module _ (rest mid : List ℕ) (so : AreAppended depth content rest old mid) (constructed : Bool) (inner tail : List ℕ)
      (b : BeginsWithPiece rest constructed inner tail) (new : List ℕ) where
    -- one more
    pub one_appended : AppendsSuch (SaysOctets depth b.parts) mid new (Ok tt) → AreAppended depth content tail old new
    one_appended j = (
      so.0 ++ j.0,
      one_joined (BerWord (IsStringPiece depth)) (one_piece depth) content rest so.0 b.front.word tail j.0 so.1
          (b.parts, b.front.fits, tt, (b.tag, j.1)) b.front.is,
      j.2 ∙ ap (λ (z : List ℕ). z ++ j.0) so.2 ∙ append_assoc old so.0 j.0,
    )

    -- where the next piece says nothing
    pub next_refused : (e : Error) → (rest ≡ [] → ⊥) → AppendsSuch (SaysOctets depth b.parts) mid new (Err e) →
        AppendsSuch (AreStringPieces depth content) old new (Err e)
    next_refused e some (inl m) = inl m
    next_refused e some (inr n) =
        inr (n.0, none_follows (BerWord (IsStringPiece depth)) content rest so.0 so.1 some none)
      where
        none : NoPrefix (BerWord (IsStringPiece depth)) rest
        none word r v is w =
            let same = (nested_words max_depth).one word b.front.word r tail w.0 b.parts w.1 b.front.fits
            (sym is ∙ b.front.is) in
            n.1 v (subst (λ (q : Parts). SaysOctets depth q v) same.1 w.3.1)

-- Elements.

longer : (word tail rest : List ℕ) → (word ≡ [] → ⊥) → rest ≡ word ++ tail → length tail < length rest
longer [] tail rest some is = absurd (some refl)
longer (x ∷ word) tail rest some is = omega (arith, ap length is, length-append word tail)

-- fewer octets are left
pub piece_shorter : (octets : List ℕ) (constructed : Bool) (content rest : List ℕ) →
    BeginsWithPiece octets constructed content rest → length rest < length octets
piece_shorter octets constructed content rest b = longer b.front.word rest octets
    (λ e. (nested_words max_depth).some b.parts (subst (λ (w : List ℕ). IsElement max_depth w b.parts) e b.front.fits))
    b.front.is

-- an element at the front of another tag is no piece
pub other_tag : (octets rest : List ℕ) (p : Parts) → HasPrefix (IsElement max_depth) octets p rest →
    (IsPieceTag p.id → ⊥) →
    HasNoPiece octets
other_tag octets rest p f other word r q is w tag =
    let same = (nested_words max_depth).one word f.word r rest q p w f.fits (sym is ∙ f.is) in
    other (subst (λ (z : Parts). IsPieceTag z.id) same.1 tag)

-- The whole string.

module _ (p : Parts) (old new : List ℕ) (constructed : p.id.constructed ≡ true) where
  -- what its pieces say
  pub whole_joined : old ≡ [] → AppendsSuch (AreStringPieces (max_depth - 1) p.content) old new (Ok tt) →
      SaysOctets max_depth p new
  whole_joined none j = subst (SaysOctets max_depth p) (sym (j.2 ∙ ap (λ (z : List ℕ). z ++ j.0) none))
      (constructed_says max_depth p j.0 (λ e. absurd (omega (arith, e))) constructed j.1)

  -- or why it says nothing
  pub whole_refused : (e : Error) → AppendsSuch (AreStringPieces (max_depth - 1) p.content) old new (Err e) →
      (e ≡ OutOfMemory) ⊎ ((e ≡ BerValueError) × ((octets : List ℕ) → SaysOctets max_depth p octets → ⊥))
  whole_refused e (inl m) = inl m
  whole_refused e (inr n) = inr (n.0, λ v s. n.1 v (constructed_said max_depth p v constructed s))
