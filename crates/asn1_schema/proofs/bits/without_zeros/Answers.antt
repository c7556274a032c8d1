use Rattle.std.proofs.Common.{◌∙◌, sym, ap, ℕ, ◌-◌, take, arith}
use Rattle.asn1_schema.specs.Grammar.{trimmed}
use Rattle.asn1_schema.specs.Bits.{used_bits}
use Rattle.asn1_schema.proofs.ZerosTaken.{set_there, none_there}
use Rattle.asn1_schema.proofs.bits.without_zeros.Goals as goal

pub returns-in-Some-clause-same : goal.returns-in-Some-clause-same
returns-in-Some-clause-same c =
    let found = c.in-Some.ensures in
    let few = c.in-Some.ensures.few in
    set_there c.args.octets.now c.loop-len.len c.loop-len.zeros c.loop-len-test.true c.loop-len.invariant.within c.in-Some.place
    few.1 found.some (omega (arith, few)) ∙ sym c.loop-len.invariant.same

pub loop-len-preserved : goal.loop-len-preserved
loop-len-preserved c =
    let within = c.loop-len.invariant.within in
    record {
      within = omega (arith, within);
      same = c.loop-len.invariant.same
          ∙ none_there c.args.octets.now c.loop-len.len c.loop-len.zeros c.loop-len-test.true within c.in-None.ensures.none
          ∙ ap (λ (z : ℕ). trimmed (used_bits z (take (c.loop-len.len - 1) c.args.octets.now))) (sym c.saturating_sub-zeros.ensures);
    }
