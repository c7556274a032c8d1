use Rattle.std.proofs.Common.{◌≢◌, ℕ, ◌-◌, ◌<◌}
use Rattle.asn1_words.specs.Words.{number_text}
use Rattle.asn1_json.proofs.reading.bits.unused_bits.Given as goal

-- no count so far is said
abbrev pub invariant-loop-unused : goal.invariant-loop-unused
invariant-loop-unused l = (unused : ℕ) → unused < l.unused → l.text ≢ number_text (l.bits - unused)
