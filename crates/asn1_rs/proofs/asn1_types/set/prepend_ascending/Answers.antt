use Rattle.std.proofs.Common.{◌≡◌, ◌∙◌, refl, ap, sym}
use Rattle.std.proofs.lemmas.List.Sorted.{IsPermutation-refl}
use Rattle.std.specs.List.{concat}
use Rattle.x690.specs.Ascending.{arranged}
use Rattle.x690.specs.Laws.Ascending.Arranged.{only_arranged}
use Rattle.asn1_headers.specs.Laws.Prepending.{Prepended_refused}
use Rattle.asn1_rs.proofs.asn1_types.set.prepend_ascending.Goals as goal

pub returns-then-are_ascending-clause-prepended : goal.returns-then-are_ascending-clause-prepended
returns-then-are_ascending-clause-prepended c = λ strings e.
    let up = (c.are_ascending.ensures strings (c.deref.ensures.value ∙ e.0, c.deref-2.ensures.value ∙ e.1)).0
    c.if-are_ascending.true in
    let same : c.deref-then-are_ascending.result.now ≡ concat (arranged strings) =
    c.deref-then-are_ascending.ensures.value ∙ e.0 ∙ ap concat (only_arranged strings strings (IsPermutation-refl
    strings) up) in
    rw (sym same) c.prepend_octets.ensures.prepended

pub returns-then-are_ascending-clause-refused : goal.returns-then-are_ascending-clause-refused
returns-then-are_ascending-clause-refused c = λ strings e.
    let up = (c.are_ascending.ensures strings (c.deref.ensures.value ∙ e.0, c.deref-2.ensures.value ∙ e.1)).0
    c.if-are_ascending.true in
    let same : c.deref-then-are_ascending.result.now ≡ concat (arranged strings) =
    c.deref-then-are_ascending.ensures.value ∙ e.0 ∙ ap concat (only_arranged strings strings (IsPermutation-refl
    strings) up) in
    rw (sym same) c.prepend_octets.ensures.refused

pub returns-in-Err-clause-prepended : goal.returns-in-Err-clause-prepended
returns-in-Err-clause-prepended c = λ strings e. Prepended_refused _ _ _ _ refl refl
