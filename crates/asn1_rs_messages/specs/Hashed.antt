-- Hashes of certificates.
use Rattle.std.specs.Prelude.{ℕ, List, [], ◌∷◌}

-- the contents octets of the identifier of SHA-256, 2.16.840.1.101.3.4.2.1
abbrev pub sha256_octets : List ℕ
sha256_octets = 0x60 ∷ 0x86 ∷ 0x48 ∷ 0x01 ∷ 0x65 ∷ 0x03 ∷ 0x04 ∷ 0x02 ∷ 0x01 ∷ []
