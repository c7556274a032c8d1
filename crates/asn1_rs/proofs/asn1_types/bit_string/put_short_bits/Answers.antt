use Rattle.std.proofs.Common.{◌≡◌, ℕ, ◌+◌, ◌<◌, List, [], ◌∷◌, ◌++◌, length, false, sym, ap, ◌∙◌, subst, arith, Result}
use Rattle.std.proofs.lemmas.Bool.Decides.{nat_tests}
use Rattle.x690.specs.Strict.{header_octets, identifier_octets, length_octets}
use Rattle.asn1_headers.specs.declared.error.SerializeError.{SerializeError}
use Rattle.asn1_headers.specs.Writer.{WriterState, Wrote}
use Rattle.asn1_headers.specs.Laws.Writing.{Wrote_front, Wrote_then_err, Wrote_sum}
use Rattle.asn1_rs.proofs.asn1_types.bit_string.put_short_bits.Goals as goal

-- a header of two octets
short_header : (n : ℕ) → n < 128 → header_octets 0 false 3 n ≡ 3 ∷ n ∷ []
unfolding header_octets identifier_octets length_octets
short_header n l = grind (arith, nat_tests)

-- the element begins with three octets
element : (unused : ℕ) (octets : List ℕ) → length octets < 127 →
    3 ∷ (1 + length octets) ∷ unused ∷ octets ≡ header_octets 0 false 3 (length (unused ∷ octets)) ++ unused ∷ octets
element unused octets few =
    let one_more : 1 + length octets ≡ length (unused ∷ octets) = omega arith in
    ap (λ (n : ℕ). 3 ∷ n ∷ unused ∷ octets) one_more
    ∙ ap (λ (front : List ℕ). front ++ unused ∷ octets) (sym (short_header (length (unused ∷ octets)) (omega arith)))

-- what was written of these octets was written of the element
of_element : (unused : ℕ) (octets : List ℕ) (a b : WriterState) (r : Result ℕ SerializeError) → length octets < 127 →
    Wrote (3 ∷ (1 + length octets) ∷ unused ∷ octets) a b r →
    Wrote (header_octets 0 false 3 (length (unused ∷ octets)) ++ unused ∷ octets) a b r
of_element unused octets a b r few = subst (λ (xs : List ℕ). Wrote xs a b r) (element unused octets few)

pub returns-in-Ok-put_all-clause-wrote : goal.returns-in-Ok-put_all-clause-wrote
returns-in-Ok-put_all-clause-wrote g c =
    of_element c.args.unused_bits c.args.octets.now _ _ _ c.requires
    (Wrote_sum _ c.in-Ok.ensures.wrote c.in-Ok-put_all.ensures.wrote c.add_written.ensures)

pub returns-in-Err-put_all-clause-wrote : goal.returns-in-Err-put_all-clause-wrote
returns-in-Err-put_all-clause-wrote g c =
    of_element c.args.unused_bits c.args.octets.now _ _ _ c.requires
    (Wrote_then_err c.in-Ok.ensures.wrote c.in-Err-put_all.ensures.wrote)

pub returns-in-Err-clause-wrote : goal.returns-in-Err-clause-wrote
returns-in-Err-clause-wrote g c =
    of_element c.args.unused_bits c.args.octets.now _ _ _ c.requires
    (Wrote_front c.args.octets.now c.in-Err.ensures.wrote)
