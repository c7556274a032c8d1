-- How many octets a character has in UTF-8, by the first of them.
use Rattle.std.proofs.Common.{◌≡◌, ℕ, ◌<◌, ◌≤◌, length, get_or, arith}
use Rattle.std.proofs.Math.Utf8.{encode}

pub one_octet : (c : ℕ) → c < 1114112 → get_or (encode c) 0 0 < 128 → length (encode c) ≡ 1
unfolding encode
one_octet c h f = grind arith

pub two_octets : (c : ℕ) → c < 1114112 → 128 ≤ get_or (encode c) 0 0 → get_or (encode c) 0 0 < 224 → length (encode c) ≡ 2
unfolding encode
two_octets c h f g = grind arith

pub three_octets : (c : ℕ) → c < 1114112 → 224 ≤ get_or (encode c) 0 0 → get_or (encode c) 0 0 < 240 →
    length (encode c) ≡ 3
unfolding encode
three_octets c h f g = grind arith

pub four_octets : (c : ℕ) → c < 1114112 → 240 ≤ get_or (encode c) 0 0 → length (encode c) ≡ 4
unfolding encode
four_octets c h f = grind arith
