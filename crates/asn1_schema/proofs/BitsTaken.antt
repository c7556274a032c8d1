-- How many bits are taken of octets.
use Rattle.std.proofs.Common.{◌≡◌, ℕ, ◌*◌, ◌-◌, List, length, take, arith}
use Rattle.std.proofs.lemmas.List.{length-take-le}
use Rattle.asn1_schema.specs.Grammar.{bits_in}
use Rattle.asn1_schema.proofs.BitContents.{bits_length}

pub bits_taken : (o : List ℕ) (unused : ℕ) → length (take (8 * length o - unused) (bits_in o)) ≡ 8 * length o - unused
bits_taken o unused =
    let b = bits_length o in
    length-take-le (8 * length o - unused) (bits_in o) (omega (arith, b))
