-- Names are looked for from the front.
use Rattle.std.proofs.Common.{◌≡◌, ◌≢◌, ℕ, suc, ◌+◌, ◌<◌, List, length, get_or, drop, subst, sym, arith}
use Rattle.std.proofs.Math.Seq.{drop-cons}
use Rattle.asn1_schema.specs.declared.names.PartName.{PartName}
use Rattle.asn1_schema.specs.Names.{IsPlaceOf, LacksName}

module _ (xs : List PartName) (i : ℕ) (d : PartName) (name : List ℕ) (within : i < length xs) where
  pub found_here : (get_or xs i d).name.now ≡ name → IsPlaceOf (drop i xs) name 0
  found_here same = subst (λ (ys : List PartName). IsPlaceOf ys name 0) (sym (drop-cons xs i d within)) same

  pub found_later : (get_or xs i d).name.now ≢ name → (k : ℕ) → IsPlaceOf (drop (i + 1) xs) name k →
      IsPlaceOf (drop i xs) name (suc k)
  found_later other k found =
      let next : i + 1 ≡ suc i = omega arith in
      subst (λ (ys : List PartName). IsPlaceOf ys name (suc k)) (sym (drop-cons xs i d within))
      (other, subst (λ (n : ℕ). IsPlaceOf (drop n xs) name k) next found)

  pub lacking_later : (get_or xs i d).name.now ≢ name → LacksName (drop (i + 1) xs) name → LacksName (drop i xs) name
  lacking_later other lacking =
      let next : i + 1 ≡ suc i = omega arith in
      subst (λ (ys : List PartName). LacksName ys name) (sym (drop-cons xs i d within))
      (other, subst (λ (n : ℕ). LacksName (drop n xs) name) next lacking)
