use Rattle.std.proofs.Common.{ℕ, ℤ, ◌≡◌, ◌-◌, ◌^◌, ◌≤◌, ◌⊎◌, inl, inr, pos, negsuc, length, sym, ◌∙◌, arith, FitsSigned}
use Rattle.std.specs.Int.{w64}
use Rattle.std.proofs.lemmas.Int.{ints, to_z-of_z}
use Rattle.x690.specs.Integers.{unsigned_octets}
use Rattle.x690.specs.Signed.{IsSigned}
use Rattle.x690.specs.Laws.Integers.Unsigned.{unsigned_octets_some}
use Rattle.x690.specs.Laws.Signed.{signed_octets_few, signed_octets_length}
use Rattle.x690.proofs.Bytes.{octets_are_highest}
use Rattle.x690.proofs.signed.highest_octets.Goals as goal
use Rattle.x690.proofs.signed.highest_octets.Goals.{then-n-lt0, else-n-lt0}

few : (n : ℤ) (m : ℕ) → FitsSigned w64 n → (n ≡ pos m) ⊎ (n ≡ negsuc m) → length (unsigned_octets m) ≤ 8
few n m fits parts =
    let size : IsSigned 8 n = record { least = omega (arith, ints); most = omega (arith, ints) } in
    omega (arith, signed_octets_length n m parts, signed_octets_few n 8 (omega arith) size)

pub overflow_sub-result : goal.overflow_sub-result
overflow_sub-result c =
    let fits : FitsSigned w64 c.args.n = c.ranges.n in
    let parts : (c.args.n ≡ pos c.word_without_sign-turned.result) ⊎
    (c.args.n ≡ negsuc c.word_without_sign-turned.result) = simp to_z-of_z at c.word_without_sign-turned.ensures in
    omega (arith, c.word_octets_count-count.ensures, few c.args.n c.word_without_sign-turned.result fits parts)

pub overflow_shl-result : goal.overflow_shl-result
overflow_shl-result c =
    let fits : FitsSigned w64 c.args.n = c.ranges.n in
    let parts : (c.args.n ≡ pos c.word_without_sign-turned.result) ⊎
    (c.args.n ≡ negsuc c.word_without_sign-turned.result) = simp to_z-of_z at c.word_without_sign-turned.ensures in
    omega (arith, c.word_octets_count-count.ensures, unsigned_octets_some c.word_without_sign-turned.result)

pub returns-clause-octets : goal.returns-clause-octets
returns-clause-octets c =
    let fits : FitsSigned w64 c.args.n = c.ranges.n in
    let turned : ℕ = c.word_without_sign-turned.result in
    let parts : (c.args.n ≡ pos turned) ⊎ (c.args.n ≡ negsuc turned) =
    simp to_z-of_z at c.word_without_sign-turned.ensures in
    let count = c.word_octets_count-count.ensures in
    let word : ((c.args.n ≡ pos turned) × (c.if-n-lt0.word ≡ turned)) ⊎
    ((c.args.n ≡ negsuc turned) × (c.if-n-lt0.word ≡ 2 ^ 64 - 1 - turned)) = elim parts [
      | inl e ↦ elim c.if-n-lt0.branch [
        | then-n-lt0 w ↦ absurd (grind (arith, ints))
        | else-n-lt0 w ↦ inl (e, w.word-is)
      ]
      | inr e ↦ elim c.if-n-lt0.branch [
        | then-n-lt0 w ↦ inr (e, w.word-is)
        | else-n-lt0 w ↦ absurd (grind (arith, ints))
      ]
    ] in
    octets_are_highest c.args.n turned c.if-n-lt0.word c.word_octets_count-count.result (omega arith) word count
    (omega (arith, count, few c.args.n turned fits parts))

pub returns-clause-count : goal.returns-clause-count
returns-clause-count c =
    let fits : FitsSigned w64 c.args.n = c.ranges.n in
    let parts : (c.args.n ≡ pos c.word_without_sign-turned.result) ⊎
    (c.args.n ≡ negsuc c.word_without_sign-turned.result) = simp to_z-of_z at c.word_without_sign-turned.ensures in
    c.word_octets_count-count.ensures ∙ sym (signed_octets_length c.args.n c.word_without_sign-turned.result parts)

pub returns-clause-few : goal.returns-clause-few
returns-clause-few c =
    let fits : FitsSigned w64 c.args.n = c.ranges.n in
    let parts : (c.args.n ≡ pos c.word_without_sign-turned.result) ⊎
    (c.args.n ≡ negsuc c.word_without_sign-turned.result) = simp to_z-of_z at c.word_without_sign-turned.ensures in
    omega (arith, c.word_octets_count-count.ensures, few c.args.n c.word_without_sign-turned.result fits parts)
