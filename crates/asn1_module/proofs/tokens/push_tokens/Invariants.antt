use Rattle.std.proofs.Common.{ℕ, List, ◌≡◌, Some}
use Rattle.std.specs.Prelude.{slice_get, All}
use Rattle.std.specs.Borrow.{Bor}
use Rattle.asn1_module.specs.Tokens.{EndsIn, StandsAmong}
use Rattle.asn1_module.proofs.tokens.push_tokens.Given as goal

abbrev pub invariant-loop : goal.invariant-loop
invariant-loop l = record {
  ends : EndsIn l.text l.rest;
  kept : (texts : List (Bor (List ℕ))) (own : Bor (List ℕ)) → slice_get texts l.number ≡ Some own → own.now ≡ l.text →
      All (StandsAmong texts) l.initial.tokens.items → All (StandsAmong texts) l.tokens.items;
}
