use Rattle.std.proofs.Common.{◌≡◌, ℕ, List, ◌++◌, Ok, chars, length}
use denote.Shadow.{shadow}
use denote.Text.{Utf8}
use Rattle.x690.specs.Characters.{code_of}
use Rattle.asn1_headers.specs.Writer.{Wrote}
use Rattle.asn1_rs.proofs.asn1_types.strings.writing.put_text.Given as goal

abbrev pub invariant-loop-rest : goal.invariant-loop-rest
invariant-loop-rest g l =
    let octets_of = g.C.CharacterCode.octets_of in
    shadow (Utf8 l.rest) ×
    ((front : List ℕ) × (code_of octets_of (chars l.text) ≡ front ++ code_of octets_of (chars l.rest)) ×
    Wrote front (g.W.DerWrite.state l.fn.w) (g.W.DerWrite.state l.w) (Ok l.written))

abbrev pub decreases-loop-rest : goal.decreases-loop-rest
decreases-loop-rest g l = length l.rest
