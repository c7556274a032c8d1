use Rattle.std.proofs.Common.{◌≡◌, ◌++◌, length, map, string_bytes, encode_utf8_all}
use Rattle.asn1_json.specs.Texts.{codes_in, character_of}
use Rattle.asn1_json.proofs.texts.universal_text.Given as goal

abbrev pub invariant-loop-rest : goal.invariant-loop-rest
invariant-loop-rest l =
    string_bytes l.text ++ encode_utf8_all (map character_of (codes_in l.rest)) ≡
    encode_utf8_all (map character_of (codes_in l.octets))

abbrev pub decreases-loop-rest : goal.decreases-loop-rest
decreases-loop-rest l = length l.rest
