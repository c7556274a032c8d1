use Rattle.std.proofs.Common.{◌≡◌, ℕ, List, [], ◌∷◌, ◌++◌, drop, refl, ap, sym, subst, ◌∙◌, append_assoc}
use Rattle.std.proofs.lemmas.List.{append-nil}
use Rattle.asn1_walk.specs.Rows.{ended, refused}
use Rattle.asn1_walk.specs.Walks.{Moves}
use Rattle.asn1_walk.specs.declared.walk.Step.{Step}
use Rattle.asn1_walk.proofs.Coming.{begun}
use Rattle.asn1_engine.specs.Verdicts.{AreElementVerdicts, IsFurther, NothingHolds, no_verdicts, more_verdicts}
use Rattle.asn1_engine.proofs.Told.{nothing_told, told_twice}
use Rattle.asn1_engine.proofs.verdicts.write_others.Goals as goal

pub loop-walk-init : goal.loop-walk-init
loop-walk-init g c = (
  [],
  nothing_told (g.W.Write.contents c.args.out.now),
  λ lines outcome rest left verdicts. (
    lines,
    begun _ _ _ _ c.new-walk.ensures.frames c.new-walk.ensures.offset c.new-walk.ensures.view lines outcome left,
    verdicts,
  ),
)

pub loop-walk-preserved-in-Continue-branch-3 : goal.loop-walk-preserved-in-Continue-branch-3
loop-walk-preserved-in-Continue-branch-3 g c =
    let i = c.loop-walk.invariant in
    let e = c.in_ok-write_element-in-Line.ensures in
    let name = c.args.name.now in
    let octets = c.args.octets.now in
    let m = subst (λ (s : Step). Moves s c.loop-walk.walk c.step.new.self) c.in-Line.is c.in_ok-line.ensures.moves in (
      i.0 ++ e.0,
      told_twice (g.W.Write.contents c.args.out.now) (g.W.Write.contents c.loop-walk.out) (g.W.Write.contents c.write_element.new.out) i.0 e.0 i.1 e.2,
      λ lines outcome rest left verdicts.
          let all = i.2 (c.in-Line.line ∷ lines) outcome (e.0 ++ rest) (m.1 lines outcome left)
          (more_verdicts name octets c.args.first c.in-Line.line lines e.0 rest e.1 verdicts) in (
            all.0,
            all.1,
            subst (AreElementVerdicts name octets c.args.first all.0) (sym (append_assoc i.0 e.0 rest)) all.2,
          ),
    )

pub loop-walk-preserved : goal.loop-walk-preserved
loop-walk-preserved g c =
    let i = c.loop-walk.invariant in
    let m = subst (λ (s : Step). Moves s c.loop-walk.walk c.step.new.self) c.in-Closed.is c.in_ok-line.ensures.moves in
    (i.0, i.1, λ lines outcome rest left verdicts. i.2 lines outcome rest (m.1 lines outcome left) verdicts)

pub returns-in-End : goal.returns-in-End
returns-in-End g c =
    let i = c.loop-walk.invariant in
    let at = c.loop-walk.walk.offset in
    let m = subst (λ (s : Step). Moves s c.loop-walk.walk c.step.new.self) c.in-End.is c.in_ok-line.ensures.moves in
    let all = i.2 [] (ended at []) [] m (no_verdicts c.args.name.now c.args.octets.now c.args.first) in (
      i.0,
      record {
        lines = all.0;
        outcome = ended at [];
        row = all.1;
        shown = i.0 ++ [];
        verdicts = all.2;
        last = [];
        ends = refl;
        is = sym (append-nil (i.0 ++ []) ∙ append-nil i.0);
      },
      i.1,
    )

pub returns-in-Refused : goal.returns-in-Refused
returns-in-Refused g c =
    let i = c.loop-walk.invariant in
    let name = c.args.name.now in
    let octets = c.args.octets.now in
    let first = c.args.first in
    let e = c.in_ok-write_further-in-Refused.ensures in
    let at : ℕ = c.loop-walk.walk.offset in
    let m = subst (λ (s : Step). Moves s c.loop-walk.walk c.step.new.self) c.in-Refused.is c.in_ok-line.ensures.moves in
    let all = i.2 [] (refused at m.0) [] m.2 (no_verdicts name octets first) in
    let here : c.offset-offset.result ≡ at = c.offset-offset.ensures ∙ m.3 in
    let requirement = c.departure_of_none.result in
    let why : NothingHolds (drop at octets) requirement =
    subst (λ (n : ℕ). NothingHolds (drop n octets) requirement) here
    (subst (λ (os : List ℕ). NothingHolds os requirement) c.behind.ensures c.departure_of_none.ensures) in
    let line : IsFurther name octets first (record { offset = at; requirement = requirement }) e.0 =
    subst (λ (n : ℕ). IsFurther name octets first (record { offset = n; requirement = requirement }) e.0) here e.1 in (
      i.0 ++ e.0,
      record {
        lines = all.0;
        outcome = refused at m.0;
        row = all.1;
        shown = i.0 ++ [];
        verdicts = all.2;
        last = e.0;
        ends = (requirement, why, line);
        is = ap (λ l. l ++ e.0) (sym (append-nil i.0));
      },
      told_twice (g.W.Write.contents c.args.out.now) (g.W.Write.contents c.loop-walk.out) (g.W.Write.contents c.write_further.new.out) i.0 e.0 i.1 e.2,
    )
