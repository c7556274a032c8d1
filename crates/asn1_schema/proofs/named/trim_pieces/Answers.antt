use Rattle.std.proofs.Common.{◌≡◌, ◌∙◌, ap, sym, subst, refl, ℕ, List, length, arith}
use Rattle.std.proofs.lemmas.Bool.{eqb-true}
use Rattle.std.proofs.lemmas.List.{nil_from_length}
use Rattle.asn1_schema.specs.declared.tape.Item.{Item}
use Rattle.asn1_schema.specs.Tape.{marks}
use Rattle.asn1_schema.specs.Bits.{TrimsPieces}
use Rattle.asn1_schema.proofs.TrimmedPieces.{TrimmedSoFar, none_trimmed, all_trimmed, are_bits, piece_trimmed, piece_kept}
use Rattle.asn1_schema.proofs.named.trim_pieces.Goals as goal

pub loop-end-init : goal.loop-end-init
loop-end-init c =
    let all : c.len-end.result ≡ length c.args.tape.now.items = omega (arith, c.len-end.ensures) in
    record {
      within = omega (arith, all);
      least = omega (arith, all, c.requires);
      same = refl;
      so_far = λ front bs e p. subst (λ (n : ℕ). TrimmedSoFar c.args.tape.now.items front bs n) (sym all)
          (none_trimmed c.args.tape.now.items front bs e);
    }

pub loop-end-preserved : goal.loop-end-preserved
loop-end-preserved c =
    let inv = c.loop-end.invariant in
    let q = c.without_zeros-zeros.result.1.now in
    let none : length q ≡ 0 = eqb-true (length q) 0 (sym c.is_empty.ensures ∙ c.if-not-is_empty.false) in
    record {
      within = omega (arith, inv.within);
      least = omega (arith, c.loop-end-test.true);
      same = inv.same;
      so_far = λ front bs e p. piece_trimmed c.loop-end.tape.items front bs c.loop-end.end c.args.place
          (inv.so_far front bs e p) inv.within p c.loop-end-test.true c.index.result.now c.index.ensures c.in-Bits.unused
          c.in-Bits.octets c.in-Bits.is c.without_zeros-zeros.result.0 c.without_zeros-zeros.result.1
          c.without_zeros-zeros.ensures.same (nil_from_length q none);
    }

pub returns-in_default : goal.returns-in_default
returns-in_default c = λ front bs e p.
    let inv = c.loop-end.invariant in
    absurd (are_bits c.loop-end.tape.items front bs c.loop-end.end c.args.place
    (inv.so_far front bs (ap marks inv.same ∙ e) p) inv.within p c.loop-end-test.true c.index.result.now c.index.ensures
    c.in_default.not-Bits)

pub returns-then-not-is_empty : goal.returns-then-not-is_empty
returns-then-not-is_empty c = λ front bs e p.
    let inv = c.loop-end.invariant in
    let q = c.without_zeros-zeros.result.1.now in
    subst (λ (z : List Item). TrimsPieces front bs z) (sym c.end_with.ensures)
    (piece_kept c.loop-end.tape.items front bs c.loop-end.end c.args.place
    (inv.so_far front bs (ap marks inv.same ∙ e) p) inv.within p c.loop-end-test.true c.index.result.now c.index.ensures
    c.in-Bits.unused c.in-Bits.octets c.in-Bits.is c.without_zeros-zeros.result.0 c.without_zeros-zeros.result.1
    c.without_zeros-zeros.ensures.same
    (λ none. let n : length q ≡ 0 = ap (λ (z : List ℕ). length z) none in
    let f = c.is_empty.ensures in let g = c.if-not-is_empty.true in grind (arith, n, f, g))
    c.without_zeros-zeros.ensures.few)

pub returns : goal.returns
returns c = λ front bs e p.
    let inv = c.loop-end.invariant in
    subst (λ (z : List Item). TrimsPieces front bs z) (sym c.truncate.ensures.items)
    (all_trimmed c.loop-end.tape.items front bs c.loop-end.end c.args.place
    (inv.so_far front bs (ap marks inv.same ∙ e) p) inv.within p c.loop-end-test.false)
