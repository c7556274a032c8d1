use Rattle.std.proofs.Common.{◌≡◌, ◌≢◌, ◌<◌, ◌==◌, ◌∷◌, ◌∙◌, ap, sym, ℕ, zero, suc, List, [], Some, None, false}
use Rattle.std.proofs.Common.{get_or, length, lit<, arith}
use Rattle.std.specs.List.{All, after_first}
use Rattle.std.proofs.lemmas.Bool.Decides.{nat_tests}
use Rattle.std.proofs.lemmas.List.Splits.{slice_split_none, slice_split_first}
use Rattle.std.proofs.lemmas.Str.Pattern.{split_once_first, split_parts}
use Rattle.asn1_rs.specs.Oid.Making.{parts_between_points}
use Rattle.asn1_rs.proofs.asn1_types.oid.making.first_part.Goals as goal

no_points : (text : List ℕ) → ((i : ℕ) → i < length text → get_or text i 0 ≢ 46) →
    All (λ b. (b == 46) ≡ false) text
no_points [] free k d l = absurd (omega (arith, l))
no_points (x ∷ text) free zero d l = let other : x ≢ 46 = free 0 (omega arith) in grind (arith, nat_tests)
no_points (x ∷ text) free (suc k) d l =
    no_points text (λ i m. free (suc i) (omega (arith, m))) k d (omega (arith, l))

pub returns-in-Some-clause-more : goal.returns-in-Some-clause-more
returns-in-Some-clause-more c =
    let text = c.args.s.now in
    let found = split_once_first 46 text (Some (c.in-Some.part, c.in-Some.others)) c.in-Some.ensures.cases (lit< tt) in
    slice_split_first (λ b. b == 46) text 0 found.0
    ∙ ap (λ (part : List ℕ). part ∷ parts_between_points (after_first (λ b. b == 46) text)) (sym found.1)
    ∙ ap (λ (others : List ℕ). c.in-Some.part.now ∷ parts_between_points others) (sym found.2)

pub returns-in-None-clause-one : goal.returns-in-None-clause-one
returns-in-None-clause-one c =
    let text = c.args.s.now in
    slice_split_none (λ b. b == 46) text
    (no_points text (split_parts 46 text None c.in-None.ensures.cases (lit< tt)))
