use Rattle.std.proofs.Common.{◌≡◌, ◌∙◌, ap, sym, ℕ, ◌<◌, length, Some, true, false, arith}
use Rattle.std.specs.Str.{bytes_eq}
use Rattle.asn1_json.specs.Tokens.{name_of_arm, given_types}
use Rattle.asn1_json.specs.Types.{arms_of, kind_at}
use Rattle.asn1_json.proofs.Members.{arm_here, arm_later}
use Rattle.asn1_json.proofs.reading.names.arm_named.Goals as goal

pub returns-then-eq : goal.returns-then-eq
returns-then-eq c =
    let arms = arms_of (kind_at c.args.types.table.now (Some c.args.choice)) in
    let all = ap (λ l. length l) c.arms-arm-end.ensures in
    let lt : c.loop-arm.arm < length arms = omega (arith, all, c.loop-arm-test.true) in
    let same : bytes_eq (name_of_arm (given_types c.args.types) (Some c.args.choice) c.loop-arm.arm) c.args.name.now ≡
    true =
    ap (λ l. bytes_eq l c.args.name.now) (sym (c.as_str.ensures.value ∙ c.in_ok-own.ensures)) ∙ (sym c.eq.ensures ∙ c.if-eq.true) in
    sym c.loop-arm.invariant ∙ arm_here (given_types c.args.types) c.args.choice c.args.name.now arms c.loop-arm.arm lt
    same

pub loop-arm-preserved : goal.loop-arm-preserved
loop-arm-preserved c =
    let arms = arms_of (kind_at c.args.types.table.now (Some c.args.choice)) in
    let all = ap (λ l. length l) c.arms-arm-end.ensures in
    let lt : c.loop-arm.arm < length arms = omega (arith, all, c.loop-arm-test.true) in
    let same : bytes_eq (name_of_arm (given_types c.args.types) (Some c.args.choice) c.loop-arm.arm) c.args.name.now ≡
    false =
    ap (λ l. bytes_eq l c.args.name.now) (sym (c.as_str.ensures.value ∙ c.in_ok-own.ensures)) ∙ (sym c.eq.ensures ∙ c.if-eq.false) in
    arm_later (given_types c.args.types) c.args.choice c.args.name.now arms c.loop-arm.arm lt same ∙
    c.loop-arm.invariant
