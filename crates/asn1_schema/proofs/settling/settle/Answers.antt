use Rattle.std.proofs.Common.{◌≡◌, ◌∙◌, ap, sym, subst, ℕ, List, Some, length}
use Rattle.x690.specs.Elements.{IsDerElement}
use Rattle.x690.specs.Joined.{IsConcatenation}
use Rattle.asn1_schema.specs.Writing.{HasRoom}
use Rattle.asn1_schema.proofs.Settled.{moved}
use Rattle.asn1_schema.proofs.settling.settle.Goals as goal

pub returns-in_default-clause-settled : goal.returns-in_default-clause-settled
returns-in_default-clause-settled c = λ word others old e es is b h d j t.
    let p = c.two_parts.ensures.parts word others old is b h in
    c.in_default.ensures.room e es (subst (λ (z : List ℕ). IsDerElement z e) (sym p.0) d)
    (subst (λ (z : List ℕ). IsConcatenation IsDerElement z es) (sym p.1) j) t

pub returns-clause-settled : goal.returns-clause-settled
returns-clause-settled c = λ word others old e es is b h d j t.
    let p = c.two_parts.ensures.parts word others old is b h in
    let r = subst (λ (z : List ℕ). HasRoom e es z (Some c.in-Some.by)) p.1
    (c.in-Some.ensures.room e es (subst (λ (z : List ℕ). IsDerElement z e) (sym p.0) d)
    (subst (λ (z : List ℕ). IsConcatenation IsDerElement z es) (sym p.1) j) t) in
    moved e es word others old c.move_behind.new.buf c.in-Some.by r d
    (λ one other rest s l m. c.move_behind.ensures one other rest (is ∙ s) (ap length p.0 ∙ l) m)
