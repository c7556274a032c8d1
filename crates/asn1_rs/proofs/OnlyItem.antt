-- Sets of one item.
use Rattle.std.proofs.Common.{◌≡◌, ◌<◌, ◌+◌, refl, ap, subst, sym, ◌∙◌, inl, inr, ℕ, Bool, true, List, [], ◌∷◌, get_or}
use Rattle.std.proofs.Common.{length, append-nil, Result, Ok, Err, IfErr, arith}
use Rattle.std.specs.List.{All}
use Rattle.x690.specs.Ascending.{put_in, arranged}
use Rattle.asn1_headers.specs.declared.error.SerializeError.{SerializeError}
use Rattle.asn1_headers.specs.declared.error.SerializeError.TheVariants as serialize_errors
use Rattle.asn1_rs.specs.Lists.{SomeRefuses}
use Rattle.asn1_rs.specs.Set.{set_content}
use Rattle.asn1_rs.specs.ToDer.{Refuses, IntoVector, VectorRefuses}
use Rattle.asn1_rs.proofs.Prepending.{refused_twice}

-- a refusal of a writing, as one of a writing that may allocate into a vector
into_vector : (e : SerializeError) (allocates : Bool) (n : ℕ) (own : SerializeError → Type 0) →
    Refuses allocates n own e →
    Refuses true n (IntoVector own) e
into_vector (serialize_errors.ASN1Error a) allocates n own (inl m) = absurd m
into_vector (serialize_errors.InvalidClass k) allocates n own (inl m) = absurd m
into_vector serialize_errors.InvalidLength allocates n own (inl m) = inl m
into_vector serialize_errors.OutOfMemory allocates n own (inl m) = inl refl
into_vector (serialize_errors.IOError f) allocates n own r = inl tt
into_vector (serialize_errors.ASN1Error a) allocates n own (inr o) = inr (_, o, refl)
into_vector (serialize_errors.InvalidClass k) allocates n own (inr o) = inr (_, o, refl)
into_vector serialize_errors.InvalidLength allocates n own (inr o) = inr (_, o, refl)
into_vector serialize_errors.OutOfMemory allocates n own (inr o) = inr (_, o, refl)

module _ {X : Type 0} (xs : List X) (x : X) (is : xs ≡ x ∷ []) where
  some_stand : 0 < length xs
  some_stand = rw is (omega arith)

  it_is_first : x ≡ get_or xs 0 x
  it_is_first = rw is refl

  pub only_told : (P : X → Type 0) → All P xs → P x
  only_told P each = subst P (sym it_is_first) (each 0 x some_stand)

  module _ (octets : X → List ℕ) where
    pub only_content : set_content octets xs ≡ octets x
    unfolding put_in arranged
    only_content = ap (set_content octets) is ∙ append-nil (octets x)

    own_of_some : (own : X → SerializeError → Type 0) (e : SerializeError) →
        Refuses true (length (octets x)) (IntoVector (own x)) e →
        Refuses true (length (set_content octets xs)) (SomeRefuses (λ y. IntoVector (own y)) xs) e
    own_of_some own e (inl m) = inl (rw only_content m)
    own_of_some own e (inr o) = inr (0, x, some_stand, sym it_is_first, o)

    pub only_refused : (own : X → SerializeError → Type 0) (allocates : Bool) (r : Result ℕ SerializeError) →
        IfErr r (Refuses allocates (length (octets x)) (own x)) →
        IfErr r (Refuses true (length (set_content octets xs)) (SomeRefuses (λ y. IntoVector (own y)) xs))
    only_refused own allocates (Ok n) h = tt
    only_refused own allocates (Err e) h = own_of_some own e (into_vector e allocates (length (octets x)) (own x) h)

    -- put before the octets of a buffer
    pub only_put : (own : X → SerializeError → Type 0) (m : ℕ) (r : Result ℕ SerializeError) →
        IfErr r (VectorRefuses (length (octets x) + m) (own x)) →
        IfErr r (VectorRefuses (length (set_content octets xs) + m) (SomeRefuses (λ y. IntoVector (own y)) xs))
    only_put own m (Ok n) h = tt
    only_put own m (Err e) (inl h) = inl (rw only_content h)
    only_put own m (Err e) (inr o) =
        inr (e, (0, x, some_stand, sym it_is_first, o), refused_twice e (own x) o)
