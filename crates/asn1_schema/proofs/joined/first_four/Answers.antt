use Rattle.std.proofs.Common.{◌≡◌, sym, ap, ◌∙◌, List, ℕ, ◌++◌, take, append-nil, arith}
use Rattle.std.proofs.lemmas.List.{take_all, length-take-le}
use Rattle.asn1_schema.specs.Joined.{said}
use Rattle.asn1_schema.proofs.joined.first_four.Goals as goal

pub returns-in-None-clause-first : goal.returns-in-None-clause-first
returns-in-None-clause-first c =
    let four = c.loop-count.four in
    let count = c.loop-count.count in
    let room = c.loop-count.invariant.room in
    let few = c.loop-count.invariant.few in
    let n = length-take-le count four (omega (arith, few, room)) in
    let all : said c.args.source ≡ take count four =
    c.loop-count.invariant.first ∙ ap (λ (z : List ℕ). take count four ++ z) c.in-None.ensures.none ∙ append-nil (take count four) in
    sym (take_all 4 (take count four) (omega (arith, n, few))) ∙ ap (λ (z : List ℕ). take 4 z) (sym all)
