use Rattle.std.proofs.Common.{ℕ, ◌^◌, ◌<◌, ◌≤◌, List, take, drop, take-append-drop, subst, sym, arith}
use Rattle.std.proofs.lemmas.List.{length-take}
use Rattle.x690.specs.Octets.{IsOctets}
use Rattle.x690.specs.Digits.{base_256_value}
use Rattle.x690.specs.Laws.Octets.{octets_front}
use Rattle.x690.specs.Laws.Digits.{weighted_sum_more}
use Rattle.x690.specs.Laws.Integers.{few_octets_value}
use Rattle.x690.proofs.integers.word_number.Goals as goal

-- the first i octets say less than this
front_below : (octets : List ℕ) (i k : ℕ) → IsOctets octets → i ≤ k → base_256_value (take i octets) < 256 ^ k
front_below octets i k o l =
    few_octets_value (take i octets) k
    (octets_front (take i octets) (drop i octets) (subst IsOctets (sym (take-append-drop i octets)) o))
    (omega (arith, length-take i octets))

pub overflow_mul-number : goal.overflow_mul-number
overflow_mul-number c =
    let o : IsOctets c.args.digits.now = λ k. omega (arith, c.type_inv.digits k) in
    omega (arith, front_below c.args.digits.now c.loop-octet.octet-index 7 o (omega arith))

pub overflow_add-number : goal.overflow_add-number
overflow_add-number c =
    let o : IsOctets c.args.digits.now = λ k. omega (arith, c.type_inv.digits k) in
    omega (arith, front_below c.args.digits.now c.loop-octet.octet-index 7 o (omega arith))

pub loop-octet-preserved : goal.loop-octet-preserved
loop-octet-preserved c = grind (arith, weighted_sum_more)
