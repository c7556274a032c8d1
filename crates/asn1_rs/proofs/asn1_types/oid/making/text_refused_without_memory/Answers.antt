use Rattle.std.proofs.Common.{◌≡◌, ◌∷◌, ◌∙◌, ap, subst, ℕ, List, [], Option, Some, None, IfSome, IfNone, arith}
use Rattle.std.specs.Borrow.{Bor}
use Rattle.std.specs.List.{All}
use Rattle.asn1_rs.specs.Oid.Making.{SaysArc, SaysArcs, parts_between_points}
use Rattle.asn1_rs.proofs.asn1_types.oid.making.text_refused_without_memory.Goals as goal

second : (text part other : List ℕ) (rest : List (List ℕ)) (others : Bor (List ℕ)) → SaysArcs text →
    parts_between_points text ≡ part ∷ parts_between_points others.now →
    parts_between_points others.now ≡ other ∷ rest → SaysArc other
second text part other rest others all more is =
    let two = more ∙ ap (λ (ps : List (List ℕ)). part ∷ ps) is in
    subst (All SaysArc) two all 1 [] (omega arith)

second_says : (text part other : List ℕ) (o p : Option (Bor (List ℕ))) (others : Bor (List ℕ)) → SaysArcs text →
    IfSome o (λ t. parts_between_points text ≡ part ∷ parts_between_points t.now) → o ≡ Some others →
    IfNone p (parts_between_points others.now ≡ other ∷ []) →
    IfSome p (λ t. parts_between_points others.now ≡ other ∷ parts_between_points t.now) → SaysArc other
second_says text part other None p others all more is one rest = absurd cc
second_says text part other (Some t) None others all more is one rest =
    let same : t ≡ others = cc in
    second text part other [] others all
    (more ∙ ap (λ (u : Bor (List ℕ)). part ∷ parts_between_points u.now) same) one
second_says text part other (Some t) (Some u) others all more is one rest =
    let same : t ≡ others = cc in
    second text part other (parts_between_points u.now) others all
    (more ∙ ap (λ (u : Bor (List ℕ)). part ∷ parts_between_points u.now) same) rest

pub arc_of_part-requires : goal.arc_of_part-requires
arc_of_part-requires c =
    second_says c.args.s.now c.first_part.result.0.now c.first_part-2.result.0.now c.first_part.result.1
    c.first_part-2.result.1 c.in-Some.others c.requires c.first_part.ensures.more c.in-Some.is
    c.first_part-2.ensures.one c.first_part-2.ensures.more
