-- What a writer of JSON gains in two steps.
use Rattle.std.proofs.Common.{List, ◌++◌, ap, ◌∙◌, append_assoc}
use Rattle.json.specs.Token.{Token}
use Rattle.json.specs.Written.{Written}
use Rattle.asn1_engine.specs.Objects.{GainsTokens}

pub gains_twice : (first second third : Written) (tokens more : List Token) → GainsTokens first second tokens →
    GainsTokens second third more → GainsTokens first third (tokens ++ more)
gains_twice first second third tokens more g h =
    (h.0 ∙ g.0, h.1 ∙ ap (λ l. l ++ more) g.1 ∙ append_assoc first.tokens tokens more)
