-- Lines of labels between their marks.
use Rattle.std.proofs.Common.{◌≡◌, ℕ, List, ◌++◌, Option, None, Some, MatchOption, Bor, sym, ◌∙◌, ap, codes, subst}
use Rattle.std.proofs.lemmas.List.{append_cancel_left, append_cancel_right}
use Rattle.x690.specs.Sets.{AllIn, is_graphic}
use Rattle.asn1_engine.specs.Pem.{StandsBetween, IsNoBoundary, IsNoneBetween, trimmed_end}

-- where the front does not stand
pub no_front : (line front end : List ℕ) → ((rest : List ℕ) → trimmed_end line ≡ front ++ rest → ⊥) → IsNoneBetween front end line
no_front line front end none = λ word e. none (word ++ end) e

-- what stands before the end, behind the front
pub between_is : (line front behind end : List ℕ) (found : Option (Bor (List ℕ))) → trimmed_end line ≡ front ++ behind →
    MatchOption found ((word : List ℕ) → behind ≡ word ++ end → ⊥) (λ word. behind ≡ word.now ++ end) →
    MatchOption found (IsNoneBetween front end line) (λ word. StandsBetween front word.now end line)
between_is line front behind end None e none =
    λ word f. none word (append_cancel_left front behind (word ++ end) (sym e ∙ f))
between_is line front behind end (Some word) e f = e ∙ ap (λ (l : List ℕ). front ++ l) f

-- what stands there has other characters than a label
pub no_label : (front label line : List ℕ) → StandsBetween front label (codes "-----") line →
    (AllIn is_graphic label → ⊥) → IsNoBoundary front line
no_label front label line e unseen = λ other b.
    let same : other ≡ label = append_cancel_right other label (codes "-----")
    (append_cancel_left front (other ++ codes "-----") (label ++ codes "-----") (sym b.0 ∙ e)) in
    unseen (subst (AllIn is_graphic) same b.1)
