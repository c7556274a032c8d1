use Rattle.std.proofs.Common.{◌≡◌, ◌++◌, take, codes, flat_map}
use Rattle.asn1_typed.proofs.kinds.push_parts.Given as goal

-- the names so far
abbrev pub invariant-loop-other : goal.invariant-loop-other
invariant-loop-other l = l.text.items ≡
    l.initial.text.items ++ flat_map (λ other. codes ", " ++ other.name.now) (take l.other-index l.others)
