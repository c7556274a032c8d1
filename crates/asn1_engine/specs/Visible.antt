-- Characters that may reach a terminal.
use Rattle.std.specs.Prelude.{ℕ, ◌<◌, ◌≤◌, ◌⊎◌, Bool, false, not, List, [], ◌∷◌, nat_le, ◌&&◌, ◌||◌}

-- no number from the first to the last
abbrev pub IsOutsideRange : ℕ → ℕ → ℕ → Type 0
IsOutsideRange first last n = (n < first) ⊎ (last < n)

-- No control character (0 to 31, 127 to 159), and none that turns the direction of writing. Those are U+061C, U+200E
-- and U+200F, U+202A to U+202E, U+2066 to U+2069.
abbrev pub MayBeShown : ℕ → Type 0
MayBeShown n = (32 ≤ n) × IsOutsideRange 127 159 n × IsOutsideRange 1564 1564 n × IsOutsideRange 8206 8207 n ×
    IsOutsideRange 8234 8238 n ×
    IsOutsideRange 8294 8297 n

-- Numbers of characters from the first to the last, that are shown by their number. They are those above, and others
-- that are not seen: spaces of other widths, marks of joining, and all that stands behind plane 13.
abbrev pub hidden : List (ℕ × ℕ)
hidden = (0, 31) ∷ (127, 160) ∷ (173, 173) ∷ (1564, 1564) ∷ (6158, 6158) ∷ (8203, 8207) ∷ (8232, 8239) ∷ (8287, 8303) ∷
    (65279, 65279) ∷ (65520, 65535) ∷ (917504, 1114111) ∷ []

-- the number stands within one of the ranges
abbrev pub is_in_ranges : List (ℕ × ℕ) → ℕ → Bool
is_in_ranges [] n = false
is_in_ranges (range ∷ ranges) n = (nat_le range.0 n && nat_le n range.1) || is_in_ranges ranges n

-- the character is shown as it is
abbrev pub is_shown_as_it_is : ℕ → Bool
is_shown_as_it_is n = not (is_in_ranges hidden n)
