use Rattle.std.proofs.Common.{◌++◌, ◌∷◌, subst, List, ℕ}
use Rattle.std.specs.Prelude.{Err}
use Rattle.std.specs.Iterator.{Yields}
use Rattle.asn1_headers.specs.Walk.{TakesItem}
use Rattle.asn1_rs.specs.Sequence.Iterator.{octets_left}
use Rattle.asn1_rs.specs.Laws.Sequence.Iterator.{walk_is_short, refusal_is_last, nothing_follows, octets_walked}
use Rattle.asn1_rs.proofs.asn1_types.sequence.iterator.walks_end.Goals as goal

pub returns-clause-short : goal.returns-clause-short
returns-clause-short g c = λ s t answers y. walk_is_short g.F.ReadsItems.item_gives g.E.From.from_gives answers
    (octets_left s) (octets_left t) (octets_walked g.F.ReadsItems.item_gives g.E.From.from_gives s t answers y)

pub returns-clause-last : goal.returns-clause-last
returns-clause-last g c = λ s t before after e y.
    refusal_is_last g.F.ReadsItems.item_gives g.E.From.from_gives before after e (octets_left s) (octets_left t)
    (octets_walked g.F.ReadsItems.item_gives g.E.From.from_gives s t (before ++ Err e ∷ after) y)

pub returns-clause-done : goal.returns-clause-done
returns-clause-done g c = λ s t answers e y.
    nothing_follows g.F.ReadsItems.item_gives g.E.From.from_gives answers (octets_left t)
    (subst (λ (k : List ℕ). Yields (TakesItem g.F.ReadsItems.item_gives g.E.From.from_gives) k answers (octets_left t))
    e (octets_walked g.F.ReadsItems.item_gives g.E.From.from_gives s t answers y))
