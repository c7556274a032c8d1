use Rattle.std.proofs.Common.{ℕ, ◌≡◌, ◌-◌, ◌≤◌, List, ◌++◌, take, drop, length, ap, ◌∙◌, arith, length-drop, append-nil}
use Rattle.std.proofs.lemmas.List.{drop_at, length-take-le, drop_all}
use Rattle.std.proofs.lemmas.Slice.{take-put_mid_below}
use borrow.Rule.Slice.PartMut.{post_of}
use Rattle.x690.proofs.integers.put_at_end.Goals as goal

put : (at : ℕ) (out new : List ℕ) → at ≤ 17 → length out ≡ 17 →
    drop at (take at out ++ (new ++ post_of at (17 - at) out)) ≡ new
put at out new within long =
    drop_at (take at out) (new ++ post_of at (17 - at) out) at (length-take-le at out (omega arith))
    ∙ ap (λ (ys : List ℕ). new ++ ys) (drop_all (17 - at) (drop at out) (omega (arith, length-drop at out)))
    ∙ append-nil new

pub returns-clause-octets : goal.returns-clause-octets
returns-clause-octets c =
    put (17 - length c.args.octets.now) c.args.out.now c.copy_from_slice.new.self (omega arith) c.told-out
    ∙ c.copy_from_slice.ensures.after

pub returns-clause-kept : goal.returns-clause-kept
returns-clause-kept c = take-put_mid_below (17 - length c.args.octets.now) (17 - (17 - length c.args.octets.now))
    c.args.out.now c.copy_from_slice.new.self (17 - length c.args.octets.now) (omega arith) (omega (arith, c.told-out))
