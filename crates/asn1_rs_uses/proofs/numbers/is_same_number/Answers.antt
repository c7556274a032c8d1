use Rattle.std.proofs.Common.{◌≡◌, ◌∙◌, sym, ap, subst, inl, inr, ℕ, List, [], ◌++◌, pos}
use Rattle.std.proofs.lemmas.Result.{err_from_is_err_and}
use Rattle.std.proofs.lemmas.Slice.Eq.{bytes_eq-Decides}
use Rattle.asn1_rs.specs.Grammar.Form.{IsStrict}
use Rattle.asn1_rs.specs.Integer.{IntegerForm, IsUnsigned}
use Rattle.asn1_rs_uses.proofs.numbers.is_same_number.Goals as goal

pub returns-clause-same : goal.returns-clause-same
returns-clause-same c = λ o p s t.
    let first : c.as_slice.result.now ≡ o = c.as_slice.ensures.value ∙ c.in_ok-first.ensures.strict o s in
    let second : c.as_slice-2.result.now ≡ p = c.as_slice-2.ensures.value ∙ c.in_ok-second.ensures.strict p t in
    let same = bytes_eq-Decides c.as_slice.result.now c.as_slice-2.result.now in (
      λ h.
          let e : o ≡ p = sym first ∙ same.0 (sym c.eq.ensures ∙ h) ∙ second in
          let v : pos c.args.x ≡ pos c.args.y = (c.words_and_values_are_unique.ensures.apart o p [] [] (pos c.args.x)
          (pos c.args.y) s t (ap (λ (z : List ℕ). z ++ []) e)).1 in
          cc,
      λ e.
          let q : o ≡ p = c.words_and_values_are_unique.ensures.strict (pos c.args.y) o p
          (subst (λ (n : ℕ). IsStrict (IntegerForm (IsUnsigned 8)) (pos n) o) e s) t in
          c.eq.ensures ∙ same.1 (first ∙ q ∙ sym second),
    )

pub returns-in_err-first-clause-refused : goal.returns-in_err-first-clause-refused
returns-in_err-first-clause-refused c = λ o p s t.
    let e = err_from_is_err_and c.from_residual.result c.from_residual.ensures.1 in
    rw (e.1, e.2) (inl (c.in_err-first.ensures.strict o s))

pub returns-in_err-second-clause-refused : goal.returns-in_err-second-clause-refused
returns-in_err-second-clause-refused c = λ o p s t.
    let e = err_from_is_err_and c.from_residual-in_err-second.result c.from_residual-in_err-second.ensures.1 in
    rw (e.1, e.2) (inr (c.in_err-second.ensures.strict p t))
