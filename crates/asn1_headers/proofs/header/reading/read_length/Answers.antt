use Rattle.std.proofs.Common.{◌≡◌, ◌+◌, ◌-◌, [], ◌∷◌, ◌++◌, drop, length, take, arith, refl, ap, ◌∙◌, inl, inr, sym}
use Rattle.std.proofs.Common.{get_or}
use Rattle.x690.specs.Lengths.{IsLength}
use Rattle.x690.specs.Faults.{missing, length_fault}
use Rattle.x690.specs.Laws.Lengths.{first_split, long_split}
use Rattle.asn1_headers.proofs.Reading.{no_length, truncated_length, long_octets}
use Rattle.asn1_headers.proofs.header.reading.read_length.Goals as goal
use Rattle.asn1_headers.proofs.header.reading.read_length.Goals.{After-base_256_number}

pub returns-in_default-clause-err : goal.returns-in_default-clause-err
returns-in_default-clause-err c = λ at. (missing 1, no_length c.args.bytes.now (omega arith), refl)

pub returns-in-0-to-127-clause-ok : goal.returns-in-0-to-127-clause-ok
returns-in-0-to-127-clause-ok c =
    let n = c.from.result in (
      (
        n ∷ [],
        inl (omega arith, refl),
        first_split c.args.bytes.now _ c.in-len1-up.len_at_least refl
            ∙ ap (λ k. k ∷ take (length c.args.bytes.now - 1) (drop 1 c.args.bytes.now)) (sym c.from.ensures),
      ),
      refl,
    )

pub returns-in-128-clause-ok : goal.returns-in-128-clause-ok
returns-in-128-clause-ok c =
    let bytes = c.args.bytes.now in
    let rest = take (length bytes - 1) (drop 1 bytes) in
    let is : get_or bytes 0 0 ≡ 128 = omega arith in
    ((128 ∷ [], refl, first_split bytes rest c.in-len1-up.len_at_least refl ∙ ap (λ k. k ∷ rest) is), refl)

pub returns-then-rest-count-clause-err : goal.returns-then-rest-count-clause-err
returns-then-rest-count-clause-err c =
    let rest = take (length c.args.bytes.now - 1) (drop 1 c.args.bytes.now) in
    let count = c.from-count.result in
    let e = first_split c.args.bytes.now rest c.in-len1-up.len_at_least refl in
    λ at. (
      missing (count - length rest),
      truncated_length c.args.bytes.now rest count (count - length rest) e (omega arith) (omega (arith, c.type_inv.bytes 0))
          (omega arith) (omega arith),
      refl,
    )

parts : (c : After-base_256_number) → (length c.split_at.result.0.now ≡ c.from-count.result) ×
    (c.args.bytes.now ≡ (128 + length c.split_at.result.0.now) ∷ (c.split_at.result.0.now ++ c.split_at.result.1.now))
parts c = long_split c.args.bytes.now _ _ _ c.from-count.result c.in-len1-up.len_at_least refl c.split_at.ensures.front
    c.split_at.ensures.back c.if-rest-count.false (omega arith)

pub returns-in-Some-clause-ok : goal.returns-in-Some-clause-ok
returns-in-Some-clause-ok c =
    let p = parts ((goal.at.returns-in-Some-clause-ok c).After-base_256_number) in
    let front = c.split_at.result.0.now in
    let octets = long_octets c.args.bytes.now front c.split_at.result.1.now _
    (λ k. omega (arith, c.type_inv.bytes k)) p.1 in
    let long : IsLength ((128 + length front) ∷ front) c.in-Some.length =
    inr (omega arith, omega (arith, c.type_inv.bytes 0), refl, octets, sym c.in-Some.ensures.some, omega arith) in (
      ((128 + length front) ∷ front, long, p.1),
      c.is_shortest_length.ensures ((128 + length front) ∷ front) c.split_at.result.1.now long p.1,
    )

pub returns-in-None-clause-err : goal.returns-in-None-clause-err
returns-in-None-clause-err c =
    let p = parts ((goal.at.returns-in-None-clause-err c).After-base_256_number) in
    λ at. (
      length_fault,
      inr (
        c.split_at.result.0.now,
        c.split_at.result.1.now,
        omega arith,
        omega (arith, c.type_inv.bytes 0),
        p.1,
        c.in-None.ensures.none,
      ),
      refl,
    )
