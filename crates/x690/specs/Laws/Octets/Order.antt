-- Laws of the dictionary order.
use Rattle.std.proofs.Common.{◌≡◌, ℕ, ◌<◌, Bool, true, false, List, [], ◌∷◌, ◌++◌, refl, sym, ap, ◌∙◌, ◌⊎◌, inl, inr}
use Rattle.std.specs.declared.cmp.Ordering.{Ordering}
use Rattle.std.specs.declared.cmp.Ordering.TheVariants.{Less, Equal, Greater}
use Rattle.std.specs.Ordering.{nat_cmp, is_lt, ordering_reverse, ordering_then}
use Rattle.std.specs.Cmp.{IsStrictWeakOrder, nat_cmp_is}
use Rattle.std.specs.Cmp.Lexicographic.{nat_list_cmp_total}
use Rattle.std.specs.FinMap.{slice_cmp-IsAntisymmetric, nat_cmp-IsAntisymmetric}
use Rattle.std.proofs.lemmas.List.Sorted.{ranks_by}
use Rattle.x690.specs.Octets.{dictionary_order, IsBeforeOrSame}

abbrev is_before : List ℕ → List ℕ → Bool
is_before one other = is_lt (dictionary_order one other)

-- Strings stand in a strict order.
pub strings_rank : IsStrictWeakOrder is_before
strings_rank = ranks_by nat_list_cmp_total (λ octets. octets)

-- of two strings one is before the other, or they are the same
pub before_or_same_total : (one other : List ℕ) → IsBeforeOrSame one other ⊎ IsBeforeOrSame other one
before_or_same_total one other =
    elim (is_before other
    one) as (λ (b : Bool). is_before other one ≡ b → IsBeforeOrSame one other ⊎ IsBeforeOrSame other one) [
      | true ↦ λ e. inr (strings_rank.one_way other one e)
      | false ↦ λ e. inl e
    ] refl

-- A string is not behind itself.
pub before_or_same_itself : (one : List ℕ) → IsBeforeOrSame one one
before_or_same_itself one = elim (before_or_same_total one one) [ inl h ↦ h | inr h ↦ h ]

-- What is not behind a string is not behind what that one is not behind.
pub before_or_same_transitive : (one other third : List ℕ) → IsBeforeOrSame one other → IsBeforeOrSame other third →
    IsBeforeOrSame one third
before_or_same_transitive one other third a b = strings_rank.chain third other one b a

-- neither before the other
tied : (r s : Ordering) → r ≡ ordering_reverse s → is_lt r ≡ false → is_lt s ≡ false → r ≡ Equal
tied Less s e h k = cc
tied Equal s e h k = refl
tied Greater Less e h k = cc
tied Greater Equal e h k = cc
tied Greater Greater e h k = cc

-- strings each of which is before the other or the same are the same
pub before_or_same_antisymmetric : (one other : List ℕ) → IsBeforeOrSame one other →
    IsBeforeOrSame other one → one ≡ other
before_or_same_antisymmetric one other a b =
    slice_cmp-IsAntisymmetric nat_cmp-IsAntisymmetric one other
    (tied (dictionary_order one other) (dictionary_order other one) (nat_list_cmp_total.antisymm one other) b a)

octet_itself : (x : ℕ) → nat_cmp x x ≡ Equal
octet_itself x = sym (nat_cmp_is x x Equal refl)

-- a beginning is before the whole, or the same
pub front_before_or_same : (front rest : List ℕ) → IsBeforeOrSame front (front ++ rest)
front_before_or_same [] [] = refl
front_before_or_same [] (x ∷ rest) = refl
front_before_or_same (x ∷ front) rest =
    ap (λ (r : Ordering). is_lt (ordering_then r (dictionary_order (front ++ rest) front))) (octet_itself x)
    ∙ front_before_or_same front rest

difference_decides : (front a b : List ℕ) (x y : ℕ) → x < y → dictionary_order (front ++ x ∷ a) (front ++ y ∷ b) ≡ Less
difference_decides [] a b x y h =
    ap (λ (r : Ordering). ordering_then r (dictionary_order a b)) (sym (nat_cmp_is x y Less h))
difference_decides (d ∷ front) a b x y h =
    ap (λ (r : Ordering). ordering_then r (dictionary_order (front ++ x ∷ a) (front ++ y ∷ b))) (octet_itself d)
    ∙ difference_decides front a b x y h

-- the string with the lesser octet at the first difference is before the other
pub first_difference_before : (front a b : List ℕ) (x y : ℕ) → x < y → IsBeforeOrSame (front ++ x ∷ a) (front ++ y ∷ b)
first_difference_before front a b x y h =
    strings_rank.one_way (front ++ x ∷ a) (front ++ y ∷ b) (ap is_lt (difference_decides front a b x y h))

-- and is not after it, nor the same
pub first_difference_not_after : (front a b : List ℕ) (x y : ℕ) → x < y →
    IsBeforeOrSame (front ++ y ∷ b) (front ++ x ∷ a) → ⊥
first_difference_not_after front a b x y h k =
    let e : true ≡ false = sym (ap is_lt (difference_decides front a b x y h)) ∙ k in
    cc
