use Rattle.std.proofs.Common.{◌≡◌, ℕ, suc, ◌≤◌, ◌-◌, arith, IfSome, IfNone, Bool, true, [], ◌∷◌, ◌++◌, refl, ap, sym, subst, ◌∙◌}
use Rattle.std.proofs.Common.{append_assoc}
use Rattle.std.proofs.lemmas.List.{append-nil}
use Rattle.asn1_walk.specs.Rows.{ended, refused}
use Rattle.asn1_walk.specs.Walks.{Moves}
use Rattle.asn1_walk.specs.declared.walk.Step.{Step}
use Rattle.asn1_walk.proofs.Coming.{begun}
use Rattle.asn1_engine.specs.Trees.{AreShown, IsShown, no_lines, more_lines, plain, holds, sum_within, IsRefusalLine}
use Rattle.asn1_engine.specs.Trees.{refusal_text, IsEndText, inner_offset, inner_depth}
use Rattle.asn1_engine.specs.Inner.{AreStringOctets, HoldsElements, IsNotEntered}
use Rattle.asn1_engine.specs.declared.trees.Part.{Part}
use Rattle.asn1_headers.specs.Header.Reading.{ber_refusal}
use Rattle.asn1_walk.proofs.OneRow.{ends_or_breaks}
use Rattle.asn1_engine.proofs.Told.{nothing_told, told_twice}
use Rattle.asn1_engine.proofs.trees.+parts.Goals as goal

pub dump_part-loop-walk-init : goal.dump_part-loop-walk-init
dump_part-loop-walk-init g n c = (
  [],
  nothing_told (g.W.Write.contents c.args.out.now),
  λ lines outcome rest left shown. (
    lines,
    begun _ _ _ _ c.new-walk.ensures.frames c.new-walk.ensures.offset c.new-walk.ensures.view lines outcome left,
    shown,
  ),
)

pub dump_part-loop-walk-preserved-in-Continue-branch-3 : goal.dump_part-loop-walk-preserved-in-Continue-branch-3
dump_part-loop-walk-preserved-in-Continue-branch-3 g n c =
    let i = c.loop-walk.invariant in
    let e = c.in_ok-write_element-in-Line.ensures in
    let found = c.in-Line.found in
    let options = c.args.options.now in
    let m = subst (λ (s : Step). Moves s c.loop-walk.walk c.step.new.self) c.in-Line.is c.in_ok-found.ensures.moves in (
      i.0 ++ e.0,
      told_twice (g.W.Write.contents c.args.out.now) (g.W.Write.contents c.loop-walk.out) (g.W.Write.contents c.write_element.new.out) i.0 e.0 i.1 e.2,
      λ lines outcome rest left shown.
          let all = i.2 (found ∷ lines) outcome (e.0 ++ rest) (m.1 lines outcome left)
          (more_lines options c.args.strings c.args.part.offset c.args.part.depth found lines e.0 rest e.1 shown) in (
            all.0,
            all.1,
            subst (AreShown options c.args.strings c.args.part.offset c.args.part.depth all.0) (sym (append_assoc i.0 e.0 rest)) all.2,
          ),
    )

pub dump_part-loop-walk-preserved : goal.dump_part-loop-walk-preserved
dump_part-loop-walk-preserved g n c =
    let i = c.loop-walk.invariant in
    let m = subst (λ (s : Step). Moves s c.loop-walk.walk c.step.new.self) c.in-Closed.is c.in_ok-found.ensures.moves in
    (i.0, i.1, λ lines outcome rest left shown. i.2 lines outcome rest (m.1 lines outcome left) shown)

pub dump_part-returns-in-End-clause-finds : goal.dump_part-returns-in-End-clause-finds
dump_part-returns-in-End-clause-finds g n c =
    let at = c.loop-walk.walk.offset in
    let m = subst (λ (s : Step). Moves s c.loop-walk.walk c.step.new.self) c.in-End.is c.in_ok-found.ensures.moves in
    let all = c.loop-walk.invariant.2 [] (ended at []) [] m
    (no_lines c.args.options.now c.args.strings c.args.part.offset c.args.part.depth) in (all.0, at, all.1)

pub dump_part-returns-in-End-clause-prints : goal.dump_part-returns-in-End-clause-prints
dump_part-returns-in-End-clause-prints g n c =
    let i = c.loop-walk.invariant in
    let at = c.loop-walk.walk.offset in
    let m = subst (λ (s : Step). Moves s c.loop-walk.walk c.step.new.self) c.in-End.is c.in_ok-found.ensures.moves in
    let all = i.2 [] (ended at []) [] m
    (no_lines c.args.options.now c.args.strings c.args.part.offset c.args.part.depth) in (
      i.0,
      record {
        lines = all.0;
        outcome = ended at [];
        row = all.1;
        shown = i.0 ++ [];
        prints = all.2;
        end = [];
        ends = refl;
        is = sym (append-nil (i.0 ++ []) ∙ append-nil i.0);
      },
      i.1,
    )

pub dump_part-returns-in-Refused-clause-finds : goal.dump_part-returns-in-Refused-clause-finds
dump_part-returns-in-Refused-clause-finds g n c =
    let at = c.loop-walk.walk.offset in
    let m = subst (λ (s : Step). Moves s c.loop-walk.walk c.step.new.self) c.in-Refused.is c.in_ok-found.ensures.moves in
    let all = c.loop-walk.invariant.2 [] (refused at m.0) [] m.2
    (no_lines c.args.options.now c.args.strings c.args.part.offset c.args.part.depth) in (
      (all.0, at, m.0, all.1),
      λ elements. ends_or_breaks c.args.part.octets.now elements.0 all.0 elements.1 at [] m.0 elements.2 all.1,
    )

pub dump_part-returns-in-Refused-clause-prints : goal.dump_part-returns-in-Refused-clause-prints
dump_part-returns-in-Refused-clause-prints g n c =
    let i = c.loop-walk.invariant in
    let e = c.in_ok-write_fault-in-Refused.ensures in
    let part = c.args.part in
    let json : Bool = c.args.options.now.json in
    let at : ℕ = c.loop-walk.walk.offset in
    let m = subst (λ (s : Step). Moves s c.loop-walk.walk c.step.new.self) c.in-Refused.is c.in_ok-found.ensures.moves in
    let all = i.2 [] (refused at m.0) [] m.2
    (no_lines c.args.options.now c.args.strings part.offset part.depth) in
    let here : c.saturating_add-offset.result ≡ sum_within at part.offset =
    c.saturating_add-offset.ensures ∙ ap (λ k. sum_within k part.offset) (c.offset.ensures ∙ m.3) in
    let line : IsRefusalLine json (sum_within at part.offset) (refusal_text (ber_refusal m.0)) e.0 =
    subst (λ r. IsRefusalLine json (sum_within at part.offset) (refusal_text r) e.0) m.1
    (subst (λ k. IsRefusalLine json k (refusal_text c.in-Refused.refusal) e.0) here e.1) in (
      i.0 ++ e.0,
      record {
        lines = all.0;
        outcome = refused at m.0;
        row = all.1;
        shown = i.0 ++ [];
        prints = all.2;
        end = e.0;
        ends = line;
        is = ap (λ l. l ++ e.0) (sym (append-nil i.0));
      },
      told_twice (g.W.Write.contents c.args.out.now) (g.W.Write.contents c.loop-walk.out) (g.W.Write.contents c.write_fault.new.out) i.0 e.0 i.1 e.2,
    )

pub write_element-returns-in_ok-write_line-in-None : goal.write_element-returns-in_ok-write_line-in-None
write_element-returns-in_ok-write_line-in-None g n c =
    let e = c.in_ok-write_line-in-None.ensures in
    let line = c.placed-line.result in
    let not_entered : IsNotEntered c.args.options.now c.args.strings line =
    subst (λ found. IfNone found (IsNotEntered c.args.options.now c.args.strings line)) c.in-None.is c.in_ok-within.ensures.none in (
      e.0,
      subst (λ line. IsShown c.args.options.now c.args.strings line e.0) c.placed-line.ensures
          (plain c.args.options.now c.args.strings line e.0 not_entered e.1),
      e.2,
    )

pub write_element-returns-in_ok-dump_part-in-Some : goal.write_element-returns-in_ok-dump_part-in-Some
write_element-returns-in_ok-dump_part-in-Some g n c =
    let options = c.args.options.now in
    let line = c.placed-line.result in
    let within = c.in-Some.within in
    let strings : ℕ = c.args.strings - 1 in
    let some : 1 ≤ c.args.strings = subst (λ found. IfSome found (λ (part : Part). 1 ≤ c.args.strings)) c.in-Some.is c.in_ok-within.ensures.some in
    let next : suc strings ≡ c.args.strings = omega arith in
    let h : (count : ℕ) × AreStringOctets line count within.octets.now × HoldsElements within.octets.now ×
    (within.offset ≡ inner_offset line count) × (within.depth ≡ inner_depth line) =
    subst (λ found. IfSome found (λ (part : Part). (count : ℕ) × AreStringOctets line count part.octets.now ×
    HoldsElements part.octets.now × (part.offset ≡ inner_offset line count) × (part.depth ≡ inner_depth line)))
    c.in-Some.is c.in_ok-within.ensures.held in
    let inner : options.inner ≡ true =
    subst (λ found. IfSome found (λ (part : Part). options.inner ≡ true)) c.in-Some.is c.in_ok-within.ensures.inner in
    let e = c.in_ok-write_line-in-Some.ensures in
    let t = c.in_ok-dump_part-in-Some.ensures.prints in
    let tree = t.1 in
    let shown : AreShown options strings (inner_offset line h.0) (inner_depth line) tree.lines tree.shown =
    subst (λ k. AreShown options strings k (inner_depth line) tree.lines tree.shown) h.3
    (subst (λ k. AreShown options strings within.offset k tree.lines tree.shown) h.4 tree.prints) in
    let end : IsEndText options.json (inner_offset line h.0) tree.outcome tree.end =
    subst (λ k. IsEndText options.json k tree.outcome tree.end) h.3 tree.ends in
    let both : IsShown options (suc strings) line (e.0 ++ tree.shown ++ tree.end) =
    holds options strings line h.0 within.octets.now e.0 tree.lines tree.outcome tree.shown tree.end inner h.1 h.2 e.1
    tree.row shown end in (
      e.0 ++ t.0,
      subst (λ l. IsShown options c.args.strings l (e.0 ++ t.0)) c.placed-line.ensures
          (subst (λ k. IsShown options k line (e.0 ++ t.0)) next
          (subst (λ text. IsShown options (suc strings) line (e.0 ++ text)) (sym tree.is)
          (subst (IsShown options (suc strings) line) (append_assoc e.0 tree.shown tree.end) both))),
      told_twice (g.W.Write.contents c.args.out.now) (g.W.Write.contents c.write_line.new.out) (g.W.Write.contents c.dump_part.new.out) e.0 t.0 e.2 t.2,
    )
