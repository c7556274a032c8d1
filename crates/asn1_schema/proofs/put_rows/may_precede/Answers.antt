use Rattle.std.proofs.Common.{◌≡◌, ◌∙◌, ap, sym, subst, ℕ, Bool, true, false, List, ◌∷◌, ◌++◌, append_assoc, length}
use Rattle.std.specs.Prelude.{Option, Some, IsTrue}
use Rattle.std.specs.List.{concat}
use Rattle.x690.specs.Octets.{IsBeforeOrSame}
use Rattle.x690.specs.Laws.Ascending.{ascending_cons, ascending_first}
use Rattle.asn1_schema.specs.Writing.{FirstIs, order_of}
use Rattle.asn1_schema.proofs.put_rows.may_precede.Goals as goal

-- before a first word, told by the comparison
next_word : (ascending told : Bool) (word old : List ℕ) (words : List (List ℕ)) (first : Option ℕ) (n : ℕ) →
    ascending ≡ true → first ≡ Some n → FirstIs words first → order_of ascending words →
    ((next rest : List ℕ) → concat words ++ old ≡ next ++ rest → n ≡ length next →
    (IsTrue told → IsBeforeOrSame word next) × (IsBeforeOrSame word next → IsTrue told)) →
    (IsTrue told → order_of ascending (word ∷ words)) × (order_of ascending (word ∷ words) → IsTrue told)
next_word false told word old words first n a is f o j = absurd (cc)
next_word true told word old words first n a is f o j =
    let g = subst (λ (z : Option ℕ). FirstIs words z) is f in
    let split : concat words ++ old ≡ g.0 ++ (concat g.1 ++ old) =
    ap (λ (z : List (List ℕ)). concat z ++ old) g.2 ∙ append_assoc g.0 (concat g.1) old in
    let k = j g.0 (concat g.1 ++ old) split g.3 in (
      λ y. subst (λ (z : List (List ℕ)). order_of true (word ∷ z)) (sym g.2)
          (ascending_cons word g.0 g.1 (k.0 y) (subst (λ (z : List (List ℕ)). order_of true z) g.2 o)),
      λ up. k.1 (ascending_first word g.0 g.1 (subst (λ (z : List (List ℕ)). order_of true (word ∷ z)) g.2 up)),
    )

pub returns-else-not-ascending : goal.returns-else-not-ascending
returns-else-not-ascending c word old words e h f o =
    next_word c.args.ascending c.is_before_or_same.result word old words c.args.first c.in-Some.count
    c.if-not-ascending.false c.in-Some.is f o
    (λ next rest s l. let t = c.is_before_or_same.ensures word next rest (e ∙ ap (λ (z : List ℕ). word ++ z) s)
    (h ∙ ap (λ (z : List ℕ). length z) s) l in (t.0, t.1))
