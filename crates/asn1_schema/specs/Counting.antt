-- How many values stand in a row of items.
use Rattle.std.specs.Prelude.{ℕ, zero, suc, List, [], ◌∷◌}
use Rattle.asn1_schema.specs.Tape.{Mark, leaf_mark, begin_mark, end_mark, absent_mark, arm_mark, arm_end_mark}
use Rattle.asn1_schema.specs.Tape.{pieces_mark, pieces_end_mark}

-- one value more, where no arm is open
abbrev pub one_more : ℕ → ℕ → ℕ
one_more zero n = suc n
one_more (suc arms) n = n

-- So many values follow, where so many arms are open, and so many marks belong to the value before them.
abbrev pub values_from : ℕ → ℕ → List Mark → ℕ
values_from arms within [] = zero
values_from arms (suc within) (m ∷ ms) = values_from arms within ms
values_from arms zero (leaf_mark l ∷ ms) = one_more arms (values_from arms zero ms)
values_from arms zero (begin_mark n ∷ ms) = one_more arms (values_from arms (suc n) ms)
values_from arms zero (pieces_mark n ∷ ms) = one_more arms (values_from arms (suc n) ms)
values_from arms zero (arm_mark k ∷ ms) = values_from (suc arms) zero ms
values_from zero zero (arm_end_mark k ∷ ms) = values_from zero zero ms
values_from (suc arms) zero (arm_end_mark k ∷ ms) = one_more arms (values_from arms zero ms)
values_from arms zero (end_mark n ∷ ms) = values_from arms zero ms
values_from arms zero (absent_mark ∷ ms) = values_from arms zero ms
values_from arms zero (pieces_end_mark n ∷ ms) = values_from arms zero ms
