use Rattle.x690.proofs.Sorted.{sorted_is_arranged}
use Rattle.x690.proofs.ascending.arrange.Goals as goal

pub returns : goal.returns
returns c = sorted_is_arranged (λ s. s.now) c.args.strings.now c.sort_unstable.new.self
    c.sort_unstable.ensures.permutation c.sort_unstable.ensures.sorted
