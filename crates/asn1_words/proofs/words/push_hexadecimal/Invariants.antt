use Rattle.std.proofs.Common.{◌≡◌, ◌++◌, drop}
use Rattle.hex.specs.Hex.{encode_lower}
use Rattle.asn1_words.proofs.words.push_hexadecimal.Given as goal

abbrev pub invariant-loop-octet : goal.invariant-loop-octet
invariant-loop-octet l =
    l.text.items ++ encode_lower (drop l.octet-index l.octets) ≡ l.fn.text.items ++ encode_lower l.octets
