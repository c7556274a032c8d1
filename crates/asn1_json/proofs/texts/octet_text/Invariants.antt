use Rattle.std.proofs.Common.{◌≡◌, ◌++◌, drop, string_bytes, encode_utf8_all}
use Rattle.asn1_json.proofs.texts.octet_text.Given as goal

abbrev pub invariant-loop-octet : goal.invariant-loop-octet
invariant-loop-octet l = string_bytes l.text ++ encode_utf8_all (drop l.octet-index l.octets) ≡ encode_utf8_all l.octets
