use Rattle.std.proofs.Common.{ℕ, ℤ, ◌≡◌, ◌-◌, ◌≤◌, ◌⊎◌, inl, inr, List, ◌++◌, map, take, drop, pos, negsuc, length, sym}
use Rattle.std.proofs.Common.{ap, ◌∙◌, arith, FitsSigned, ◌<ℤ◌, ◌≤ℤ◌, length-drop, append-nil}
use Rattle.std.specs.Int.{w128}
use Rattle.std.proofs.lemmas.Int.{ints, to_z-of_z}
use Rattle.std.proofs.lemmas.List.{drop_at, length-take-le, take_all, drop_all}
use Rattle.std.proofs.lemmas.Slice.{take-put_mid_below}
use borrow.Rule.Slice.PartMut.{post_of, mid_of}
use Rattle.x690.specs.Integers.{unsigned_octets}
use Rattle.x690.specs.Signed.{complement, signed_octets}
use Rattle.x690.proofs.signed.signed_into.Goals as goal

-- the part from `at` on, and what is put in its place
part : (at : ℕ) (out : List ℕ) → length out ≡ 17 → mid_of at (17 - at) out ≡ drop at out
part at out long = take_all (17 - at) (drop at out) (omega (arith, length-drop at out))

put : (at : ℕ) (out new : List ℕ) → at ≤ 17 → length out ≡ 17 →
    drop at (take at out ++ (new ++ post_of at (17 - at) out)) ≡ new
put at out new within long =
    drop_at (take at out) (new ++ post_of at (17 - at) out) at (length-take-le at out (omega arith))
    ∙ ap (λ (ys : List ℕ). new ++ ys) (drop_all (17 - at) (drop at out) (omega (arith, length-drop at out)))
    ∙ append-nil new

-- the sign says which of the two the octets are
octets_are : (n : ℤ) (m : ℕ) → (n ≡ pos m) ⊎ (n ≡ negsuc m) → ((pos 0 ≤ℤ n) × (unsigned_octets m ≡ signed_octets n)) ⊎
    ((n <ℤ pos 0) × (map complement (unsigned_octets m) ≡ signed_octets n))
unfolding signed_octets
octets_are n m (inl e) = inl (omega (arith, ints, e), ap signed_octets (sym e))
octets_are n m (inr e) = inr (omega (arith, ints, e), ap signed_octets (sym e))

pub returns-then-n-lt0-clause-octets : goal.returns-then-n-lt0-clause-octets
returns-then-n-lt0-clause-octets c =
    let at : ℕ = c.unsigned_into-at.result in
    let out : List ℕ = c.unsigned_into-at.new.out in
    let fits : FitsSigned w128 c.args.n = c.ranges.n in
    let parts : (c.args.n ≡ pos c.without_sign.result) ⊎ (c.args.n ≡ negsuc c.without_sign.result) =
    simp to_z-of_z at c.without_sign.ensures in
    elim (octets_are c.args.n c.without_sign.result parts) [
      | inl s ↦ absurd (grind (arith, ints))
      | inr s ↦
          put at out c.turn_over.new.octets (omega arith) c.unsigned_into-at.array_long
          ∙ c.turn_over.ensures
          ∙ ap (map complement) (part at out c.unsigned_into-at.array_long ∙ c.unsigned_into-at.ensures.octets)
          ∙ s.1
    ]

pub returns-else-n-lt0-clause-octets : goal.returns-else-n-lt0-clause-octets
returns-else-n-lt0-clause-octets c =
    let fits : FitsSigned w128 c.args.n = c.ranges.n in
    let parts : (c.args.n ≡ pos c.without_sign.result) ⊎ (c.args.n ≡ negsuc c.without_sign.result) =
    simp to_z-of_z at c.without_sign.ensures in
    elim (octets_are c.args.n c.without_sign.result parts) [
      | inl s ↦ c.unsigned_into-at.ensures.octets ∙ s.1
      | inr s ↦ absurd (grind (arith, ints))
    ]

pub returns-then-n-lt0-clause-kept : goal.returns-then-n-lt0-clause-kept
returns-then-n-lt0-clause-kept c =
    let at : ℕ = c.unsigned_into-at.result in
    let out : List ℕ = c.unsigned_into-at.new.out in
    let long = c.unsigned_into-at.array_long in
    take-put_mid_below at (17 - at) out c.turn_over.new.octets at (omega arith) (omega arith)
    ∙ c.unsigned_into-at.ensures.kept
