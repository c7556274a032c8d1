use Rattle.std.proofs.Common.{◌≡◌, ◌∙◌, ◌++◌, ap, refl, sym, length, length-append, take, arith}
use Rattle.std.proofs.lemmas.List.{take_at}
use Rattle.std.proofs.lemmas.List.Sorted.{IsPermutation-refl}
use Rattle.std.specs.List.{concat}
use Rattle.x690.specs.Ascending.{arranged}
use Rattle.x690.specs.Laws.Ascending.Arranged.{only_arranged}
use Rattle.asn1_headers.specs.Laws.Prepending.{Prepended_refused, Prepended_all}
use Rattle.asn1_rs.proofs.Prepending.{kept_back}
use Rattle.asn1_rs.proofs.asn1_types.set.arrange_front.Goals as goal

pub returns-then-are_ascending-clause-prepended : goal.returns-then-are_ascending-clause-prepended
returns-then-are_ascending-clause-prepended c = λ strings old b l h.
    let long = ap length b ∙ length-append (concat strings) old in
    let count : c.saturating_sub-count.result ≡ length (concat strings) =
    omega (arith, long, h, c.len.ensures, c.saturating_sub-count.ensures) in
    let front : take c.saturating_sub-count.result c.as_bytes.result.now ≡ concat strings =
    ap (λ z. take c.saturating_sub-count.result z) (c.as_bytes.ensures ∙ b)
    ∙ take_at (concat strings) old c.saturating_sub-count.result (sym count) in
    let up = (c.are_ascending.ensures strings (front, l)).0 c.if-are_ascending.true in
    let same : concat strings ≡ concat (arranged strings) =
    ap concat (only_arranged strings strings (IsPermutation-refl strings) up) in
    Prepended_all (count ∙ ap length same) (b ∙ ap (λ z. z ++ old) same)

pub returns-in-Err-clause-prepended : goal.returns-in-Err-clause-prepended
returns-in-Err-clause-prepended c = λ strings old b l h.
    Prepended_refused _ _ _ _ (kept_back (concat strings) old _ _ _ b h c.keep_last.ensures) refl
