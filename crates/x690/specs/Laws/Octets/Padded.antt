-- Strings that are compared with zeros behind the shorter one.
use Rattle.std.specs.Prelude.{replicate, ◌↔◌}
use Rattle.std.proofs.Common.{◌≡◌, ℕ, ◌-◌, ◌<◌, List, [], ◌∷◌, ◌++◌, length, refl, sym, ap, ◌∙◌, subst, ◌⊎◌, inl, inr}
use Rattle.std.proofs.Common.{append_assoc}
use Rattle.std.proofs.lemmas.Bool.{cases_order}
use Rattle.x690.specs.Octets.{BeginsWith, IsBeforeOrSame, padded, IsBeforeOrSamePadded}
use Rattle.x690.specs.Laws.Octets.Order.{before_or_same_itself, first_difference_before, first_difference_not_after}

-- at the first difference the one has the lesser octet
record IsLesser (one other : List ℕ) : Type 0 where
  front : List ℕ
  one_rest : List ℕ
  other_rest : List ℕ
  lesser : ℕ
  greater : ℕ
  less : lesser < greater
  one_is : one ≡ front ++ lesser ∷ one_rest
  other_is : other ≡ front ++ greater ∷ other_rest

further : (x : ℕ) (one other : List ℕ) → IsLesser one other → IsLesser (x ∷ one) (x ∷ other)
further x one other l = record {
  front = x ∷ l.front;
  one_rest = l.one_rest;
  other_rest = l.other_rest;
  lesser = l.lesser;
  greater = l.greater;
  less = l.less;
  one_is = ap (λ (o : List ℕ). x ∷ o) l.one_is;
  other_is = ap (λ (o : List ℕ). x ∷ o) l.other_is;
}

-- of two strings one begins the other, or there is a first difference
abbrev Compared : List ℕ → List ℕ → Type 0
Compared one other = ((rest : List ℕ) × BeginsWith other one rest) ⊎ ((rest : List ℕ) × BeginsWith one other rest) ⊎
    IsLesser one other ⊎ IsLesser other one

compared_further : (x : ℕ) (one other : List ℕ) → Compared one other → Compared (x ∷ one) (x ∷ other)
compared_further x one other (inl b) = inl (b.0, ap (λ (o : List ℕ). x ∷ o) b.1)
compared_further x one other (inr (inl b)) = inr (inl (b.0, ap (λ (o : List ℕ). x ∷ o) b.1))
compared_further x one other (inr (inr (inl l))) = inr (inr (inl (further x one other l)))
compared_further x one other (inr (inr (inr l))) = inr (inr (inr (further x other one l)))

compared : (one other : List ℕ) → Compared one other
compared [] other = inl (other, refl)
compared (x ∷ one) [] = inr (inl (x ∷ one, refl))
compared (x ∷ one) (y ∷ other) =
    elim (cases_order x y) [
      | inl e ↦ subst (λ (z : ℕ). Compared (x ∷ one) (z ∷ other)) e (compared_further x one other (compared one other))
      | inr (inl l) ↦ inr (inr (inl (record {
        front = [];
        one_rest = one;
        other_rest = other;
        lesser = x;
        greater = y;
        less = l;
        one_is = refl;
        other_is = refl;
      })))
      | inr (inr l) ↦ inr (inr (inr (record {
        front = [];
        one_rest = other;
        other_rest = one;
        lesser = y;
        greater = x;
        less = l;
        one_is = refl;
        other_is = refl;
      })))
    ]

-- the first difference stays where octets follow both
lesser_stays : (one other more others : List ℕ) → IsLesser one other → IsLesser (one ++ more) (other ++ others)
lesser_stays one other more others l = record {
  front = l.front;
  one_rest = l.one_rest ++ more;
  other_rest = l.other_rest ++ others;
  lesser = l.lesser;
  greater = l.greater;
  less = l.less;
  one_is = ap (λ (o : List ℕ). o ++ more) l.one_is ∙ append_assoc l.front (l.lesser ∷ l.one_rest) more;
  other_is = ap (λ (o : List ℕ). o ++ others) l.other_is ∙ append_assoc l.front (l.greater ∷ l.other_rest) others;
}

lesser_before : (one other : List ℕ) → IsLesser one other → IsBeforeOrSame one other
lesser_before one other l =
    subst (λ (o : List ℕ). IsBeforeOrSame o other) (sym l.one_is)
    (subst (IsBeforeOrSame (l.front ++ l.lesser ∷ l.one_rest)) (sym l.other_is)
    (first_difference_before l.front l.one_rest l.other_rest l.lesser l.greater l.less))

lesser_not_after : (one other : List ℕ) → IsLesser one other → IsBeforeOrSame other one → ⊥
lesser_not_after one other l h =
    first_difference_not_after l.front l.one_rest l.other_rest l.lesser l.greater l.less
    (subst (λ (o : List ℕ). IsBeforeOrSame o (l.front ++ l.lesser ∷ l.one_rest)) l.other_is
    (subst (IsBeforeOrSame other) l.one_is h))

both_before : (one other : List ℕ) → IsLesser one other → IsBeforeOrSame one other ↔ IsBeforeOrSamePadded one other
both_before one other l =
    let p =
    lesser_stays one other (replicate (length other - length one) 0) (replicate (length one - length other) 0) l in
    (λ h. lesser_before (padded one other) (padded other one) p, λ h. lesser_before one other l)

neither_before : (one other : List ℕ) → IsLesser other one → IsBeforeOrSame one other ↔ IsBeforeOrSamePadded one other
neither_before one other l =
    let p =
    lesser_stays other one (replicate (length one - length other) 0) (replicate (length other - length one) 0) l in (
      λ h. absurd (lesser_not_after other one l h),
      λ h. absurd (lesser_not_after (padded other one) (padded one other) p h),
    )

same_before : (one other : List ℕ) → one ≡ other → IsBeforeOrSame one other ↔ IsBeforeOrSamePadded one other
same_before one other e =
    subst (λ (o : List ℕ). IsBeforeOrSame one o ↔ IsBeforeOrSamePadded one o) e
    (λ h. before_or_same_itself (padded one one), λ h. before_or_same_itself one)

-- of strings neither of which begins the other, or that are the same
pub padded_order : (one other : List ℕ) → ((rest : List ℕ) → BeginsWith one other rest → one ≡ other) →
    ((rest : List ℕ) → BeginsWith other one rest → one ≡ other) →
    IsBeforeOrSame one other ↔ IsBeforeOrSamePadded one other
padded_order one other f g =
    elim (compared one other) [
      | inl b ↦ same_before one other (g b.0 b.1)
      | inr (inl b) ↦ same_before one other (f b.0 b.1)
      | inr (inr (inl l)) ↦ both_before one other l
      | inr (inr (inr l)) ↦ neither_before one other l
    ]
