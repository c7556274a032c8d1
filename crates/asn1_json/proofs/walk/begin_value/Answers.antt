use Rattle.std.proofs.Common.{◌≡◌, sym, reverse}
use Rattle.asn1_schema.specs.Tape.{marks}
use Rattle.asn1_json.specs.declared.front.Front.TheVariants as fronts
use Rattle.asn1_json.specs.declared.front.Opening.TheVariants as openings
use Rattle.asn1_json.specs.Tokens.{given_types}
use Rattle.asn1_json.specs.Walk.{front_of}
use Rattle.asn1_json.proofs.SameErrors.{same_error}
use Rattle.asn1_json.proofs.Walks.{marks_behind, fewer_marks, not_value, leaf_step, row_step, arm_step}
use Rattle.asn1_json.proofs.walk.begin_value.Goals as goal

pub returns-in_ok-behind-in-Value-Leaf-clause-ok :
    goal.returns-in_ok-behind-in-Value-Leaf-clause-ok
returns-in_ok-behind-in-Value-Leaf-clause-ok g c =
    let here = marks c.args.items.now in
    let behind = c.in_ok-behind-in-Value-Leaf.behind.now in
    let told = c.in_ok-behind-in-Value-Leaf.ensures in
    let f : front_of here ≡ fronts.Value openings.Leaf = cc (c.in-Value-Leaf.ensures) in
    leaf_step (given_types c.args.types) c.args.frames.now.items here (marks behind)
    (g.W.TokenWriter.written c.args.out.now)
    (g.W.TokenWriter.written c.put_front_leaf.new.out) c.args.of c.resolved-at.result c.resolved-at.ensures f
    (fewer_marks c.args.items.now behind told.shorter) told.behind told.tokens

pub returns-in_err-behind-in-Value-Leaf-clause-none :
    goal.returns-in_err-behind-in-Value-Leaf-clause-none
returns-in_err-behind-in-Value-Leaf-clause-none g c = λ is shown w.
    c.in_err-behind-in-Value-Leaf.ensures.none (same_error c.from_residual.result _ _ c.from_residual.ensures.1 is) w.0 w.1 w.3

pub returns-in_ok-open_row-in-Value-Row-clause-ok :
    goal.returns-in_ok-open_row-in-Value-Row-clause-ok
returns-in_ok-open_row-in-Value-Row-clause-ok g c =
    let here = marks c.args.items.now in
    let f : front_of here ≡ fronts.Value openings.Row = cc (c.in-Value-Row.ensures) in
    row_step (given_types c.args.types) c.args.frames.now.items c.open_row.new.frames.items here (marks c.behind_first.result.now)
    (g.W.TokenWriter.written c.args.out.now) (g.W.TokenWriter.written c.open_row.new.out) c.args.of c.resolved-at.result
    c.resolved-at.ensures f (marks_behind c.args.items.now c.behind_first.result.now c.behind_first.ensures)
    c.in_ok-open_row-in-Value-Row.ensures

pub returns-in_ok-open_arm-in-Value-Arm-clause-ok :
    goal.returns-in_ok-open_arm-in-Value-Arm-clause-ok
returns-in_ok-open_arm-in-Value-Arm-clause-ok g c =
    let here = marks c.args.items.now in
    let arm = c.in-Value-Arm.arm in
    let behind = c.behind_first-in-Value-Arm.result.now in
    let f : front_of here ≡ fronts.Value (openings.Arm arm) = cc (c.in-Value-Arm.ensures) in
    arm_step (given_types c.args.types) c.args.frames.now.items c.open_arm.new.frames.items here (marks behind)
    (g.W.TokenWriter.written c.args.out.now) (g.W.TokenWriter.written c.open_arm.new.out) c.args.of c.resolved-at.result arm
    c.resolved-at.ensures f (marks_behind c.args.items.now behind c.behind_first-in-Value-Arm.ensures)
    c.in_ok-open_arm-in-Value-Arm.ensures.frames c.in_ok-open_arm-in-Value-Arm.ensures.tokens

pub returns-in-Close-clause-none : goal.returns-in-Close-clause-none
returns-in-Close-clause-none g c = λ _. not_value (given_types c.args.types) c.args.of (reverse c.args.frames.now.items)
    (marks c.args.items.now) fronts.Close (sym c.in-Close.ensures) (λ o e. cc)

pub returns-in-Gone-clause-none : goal.returns-in-Gone-clause-none
returns-in-Gone-clause-none g c = λ _. not_value (given_types c.args.types) c.args.of (reverse c.args.frames.now.items)
    (marks c.args.items.now) fronts.Gone (sym c.in-Gone.ensures) (λ o e. cc)

pub returns-in-ArmEnd-clause-none : goal.returns-in-ArmEnd-clause-none
returns-in-ArmEnd-clause-none g c =
    λ _. not_value (given_types c.args.types) c.args.of (reverse c.args.frames.now.items)
    (marks c.args.items.now) fronts.ArmEnd (sym c.in-ArmEnd.ensures) (λ o e. cc)

pub returns-in-Nothing-clause-none : goal.returns-in-Nothing-clause-none
returns-in-Nothing-clause-none g c =
    λ _. not_value (given_types c.args.types) c.args.of (reverse c.args.frames.now.items)
    (marks c.args.items.now) fronts.Nothing (sym c.in-Nothing.ensures) (λ o e. cc)
