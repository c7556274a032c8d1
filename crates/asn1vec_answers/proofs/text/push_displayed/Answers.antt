use Rattle.std.proofs.Common.{◌≡◌, ◌++◌, ◌∙◌, ap, List, ℕ, IfSome, Option, None, Some}
use Rattle.std.proofs.lemmas.Fmt.{contents_after_writes}
use Rattle.asn1vec_answers.specs.declared.text.Growing.{Growing}
use Rattle.asn1vec_answers.proofs.text.push_displayed.Goals as goal

weaken : (o : Option (List ℕ)) (P Q : List ℕ → Type 0) → ((part : List ℕ) → P part → Q part) → IfSome o P → IfSome o Q
weaken None P Q k x = tt
weaken (Some part) P Q k x = k part x

pub returns-in-Ok : goal.returns-in-Ok
returns-in-Ok g c = weaken (g.T.Display.output c.args.shown.now) _
    (λ part. c.write-answer.new.self.octets.items ≡ c.args.text.now.items ++ part)
    (λ part k. contents_after_writes _ (λ (w : Growing). w.octets.items) (λ w l v t. t) _ part _ k
    ∙ ap (λ v. v.items ++ part) c.replace.ensures.value)
    c.in-Ok.ensures.writes
