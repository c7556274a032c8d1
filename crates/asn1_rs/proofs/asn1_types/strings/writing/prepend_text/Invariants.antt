use Rattle.std.proofs.Common.{◌≡◌, ℕ, List, ◌++◌, chars, length}
use denote.Shadow.{shadow}
use denote.Text.{Utf8}
use Rattle.x690.specs.Characters.{code_of}
use Rattle.asn1_rs.proofs.asn1_types.strings.writing.prepend_text.Given as goal

abbrev pub invariant-loop-rest : goal.invariant-loop-rest
invariant-loop-rest g l =
    let octets_of = g.C.CharacterCode.octets_of in
    shadow (Utf8 l.rest) ×
    ((back : List ℕ) × (code_of octets_of (chars l.text) ≡ code_of octets_of (chars l.rest) ++ back) ×
    (l.buf ≡ back ++ l.fn.buf) × (l.count ≡ length back))

abbrev pub decreases-loop-rest : goal.decreases-loop-rest
decreases-loop-rest g l = length l.rest
