-- Items that are copied or written one behind another.
use Rattle.std.proofs.Common.{List, [], ◌∷◌, ◌++◌, ◌≡◌, ◌∙◌, ◌≤◌, ℕ, Option, Some, refl, sym, ap, subst, arith, inl}
use Rattle.std.proofs.Common.{inr, true, length, length-append}
use Rattle.std.proofs.lemmas.Grind.{flat_map-append}
use Rattle.std.proofs.lemmas.List.{append-nil}
use Rattle.std.proofs.lemmas.List.Elements.{All-pop, All-push}
use Rattle.std.specs.Iterator.{Yields}
use Rattle.std.specs.List.{All, AllZip, flat_map}
use Rattle.asn1_headers.specs.declared.error.SerializeError.{SerializeError}
use Rattle.asn1_rs.specs.ToDer.{VectorRefuses}
use Rattle.asn1_headers.specs.Laws.Writing.{MayRefuse_more}

-- one pair more at the end
pub zip_push : {X Y : Type 0} (R : X → Y → Type 0) (xs : List X) (ys : List Y) (x : X) (y : Y) → AllZip R xs ys →
    R x y → AllZip R (xs ++ x ∷ []) (ys ++ y ∷ [])
zip_push R [] [] x y z r = (r, tt)
zip_push R (a ∷ xs) (b ∷ ys) x y z r = (z.0, zip_push R xs ys x y z.1 r)
zip_push R [] (b ∷ ys) x y z r = absurd z
zip_push R (a ∷ xs) [] x y z r = absurd z

-- one call more
pub yields_push : {S A : Type 0} (steps : S → Option A → S → Type 0) (s t u : S) (xs : List A) (x : A) →
    Yields steps s xs t → steps t (Some x) u → Yields steps s (xs ++ x ∷ []) u
yields_push steps s t u [] x y n = (u, subst (λ (k : _). steps k (Some x) u) (sym y) n, refl)
yields_push steps s t u (a ∷ xs) x y n = (y.0, y.1, yields_push steps y.0 t u xs x y.2 n)

module _ {X : Type 0} (octets : X → List ℕ) (xs : List X) (x : X) where
  last_octets : flat_map octets (xs ++ x ∷ []) ≡ flat_map octets xs ++ octets x
  last_octets =
      flat_map-append octets xs (x ∷ []) ∙ ap (λ (o : List ℕ). flat_map octets xs ++ o) (append-nil (octets x))

  -- the octets of one item more, of which a fact holds as of those before it
  pub joined_next : (tells P : X → Type 0) (front next : List ℕ) →
      (All tells xs → (front ≡ flat_map octets xs) × All P xs) → (tells x → (next ≡ front ++ octets x) × P x) →
      All tells (xs ++ x ∷ []) → (next ≡ flat_map octets (xs ++ x ∷ [])) × All P (xs ++ x ∷ [])
  joined_next tells P front next before now t =
      let told = All-pop tells (xs ++ x ∷ []) xs (Some x) refl t in
      let done = before told.0 in
      let last = now told.1 in
      (last.0 ∙ ap (λ (o : List ℕ). o ++ octets x) done.0 ∙ sym last_octets, All-push P xs x done.1 last.1)

  -- the refusal of the last item
  pub joined_end : (tells : X → Type 0) (refuses : X → SerializeError → Type 0) (e : SerializeError) →
      (tells x → VectorRefuses (length (octets x)) (refuses x) e) →
      All tells (xs ++ x ∷ []) → VectorRefuses (length (flat_map octets (xs ++ x ∷ []))) (refuses x) e
  joined_end tells refuses e last t = wider (last (All-pop tells (xs ++ x ∷ []) xs (Some x) refl t).1)
    where
      more : length (octets x) ≤ length (flat_map octets (xs ++ x ∷ []))
      more = omega (arith, ap length last_octets, length-append (flat_map octets xs) (octets x))

      wider : VectorRefuses (length (octets x)) (refuses x) e →
          VectorRefuses (length (flat_map octets (xs ++ x ∷ []))) (refuses x) e
      wider (inl m) = inl (MayRefuse_more e true (length (octets x)) (length (flat_map octets (xs ++ x ∷ []))) more m)
      wider (inr o) = inr o
