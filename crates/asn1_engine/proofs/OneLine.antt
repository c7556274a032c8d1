-- The line of what was found is a verdict.
use Rattle.std.proofs.Common.{ℕ, List, Option, Some, None, inl, inr}
use Rattle.asn1_strict.specs.declared.requirement.Departure.{Departure}
use Rattle.asn1_engine.specs.Verdicts.{IsLineOf, IsVerdict}

pub verdict_of : (name octets : List ℕ) (found : Option Departure) (text : List ℕ) → IsLineOf name octets found text →
    IsVerdict name octets text
verdict_of name octets None text h = inl h
verdict_of name octets (Some departure) text h = inr (departure, h.0, h.1)
