-- What arms are taken for a choice is taken for it, and so is what is refused.
use Rattle.std.specs.Prelude.{◌≡◌, ℕ, List, Ok, Err}
use Rattle.std.proofs.Common.{ap}
use Rattle.asn1_rs.specs.Prelude.{Error}
use Rattle.asn1_rs.specs.declared.asn1_types.any.Any.{Any}
use Rattle.asn1_rs.specs.Choices.{ArmsGrammar, choice_grammar}
use Rattle.asn1_rs.specs.Choices.Data.{AnswersOf}

module _ {S T : Type 0} (as_arms : T → S) (G : ArmsGrammar S) (tags : List (ℕ × ℕ)) (any : Any) where
  pub taken_as : (x : T) → AnswersOf (choice_grammar (λ s. s) G) tags any (Ok (as_arms x)) →
      AnswersOf (choice_grammar as_arms G) tags any (Ok x)
  taken_as x a = record {
    exact = λ o. a.exact o;
    no_memory = λ n. a.no_memory n;
    other = λ n. let t = a.other n in absurd (cc);
  }

  pub refused_as : (e : Error) → AnswersOf (choice_grammar (λ s. s) G) tags any (Err e) →
      AnswersOf (choice_grammar as_arms G) tags any (Err e)
  refused_as e a = record {
    exact = λ o. a.exact o;
    no_memory = λ n. a.no_memory n;
    other = λ n. let t = a.other n in let is : e ≡ t.0 = cc in (t.0, t.1, ap Err is);
  }
