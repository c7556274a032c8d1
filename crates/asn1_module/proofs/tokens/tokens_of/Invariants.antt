use Rattle.std.specs.Prelude.{All}
use Rattle.asn1_module.specs.Tokens.{StandsAmong}
use Rattle.asn1_module.proofs.tokens.tokens_of.Given as goal

abbrev pub invariant-loop-number : goal.invariant-loop-number
invariant-loop-number l = All (StandsAmong l.texts) l.tokens.items
