use Rattle.std.proofs.Common.{◌≡◌, ℕ, suc, ◌+◌, ◌-◌, [], ◌++◌, length, drop, length-drop, drop-drop, ap, sym, subst}
use Rattle.std.proofs.Common.{◌∙◌, arith, append_assoc}
use Rattle.std.proofs.lemmas.List.{drop_all, append-nil}
use Rattle.asn1_engine.specs.Texts.{Shows}
use Rattle.asn1_engine.proofs.Shown.{shows_more, shows_no_more, shows_nothing}
use Rattle.asn1_engine.proofs.texts.push_characters.Goals as goal

pub loop-left-init : goal.loop-left-init
loop-left-init c = (omega arith, ([], sym (append-nil c.args.text.now.items), (λ more rest s. s)))

pub loop-left-preserved : goal.loop-left-preserved
loop-left-preserved c =
    let octets = c.args.octets.now in
    let i = c.loop-left.invariant in
    let left = c.behind.result.now in
    let here : left ≡ drop c.loop-left.at octets = c.behind.ensures in
    let first = c.in_ok-at.ensures.shows in
    let count : ℕ = c.in_ok-at.field-0 in
    let next : drop count left ≡ drop (c.loop-left.at + count) octets =
    ap (drop count) here ∙ drop-drop count c.loop-left.at octets in
    let one : suc (c.loop-left.left - 1) ≡ c.loop-left.left = omega arith in
    let room : length left ≡ length octets - c.loop-left.at = ap length here ∙ length-drop c.loop-left.at octets in (
      omega (arith, room, c.in_ok-at.ensures.within),
      (
        i.1.0 ++ first.0,
        first.2 ∙ ap (λ l. l ++ first.0) i.1.1 ∙ append_assoc c.args.text.now.items i.1.0 first.0,
        (λ more rest s.
            let t : Shows c.args.coding (suc (c.loop-left.left - 1)) left (first.0 ++ more) rest =
            shows_more c.args.coding (c.loop-left.left - 1) left first.0 (drop count left) more rest (omega (arith, room)) first.1
            (subst (λ l. Shows c.args.coding (c.loop-left.left - 1) l more rest) (sym next) s) in
            subst (λ l. Shows c.args.coding c.args.width octets l rest) (sym (append_assoc i.1.0 first.0 more))
            (i.1.2 (first.0 ++ more) rest (subst (λ l. Shows c.args.coding c.loop-left.left l (first.0 ++ more) rest) here
            (subst (λ w. Shows c.args.coding w left (first.0 ++ more) rest) one t)))),
      ),
    )

pub returns-else-at-octets-clause-shows : goal.returns-else-at-octets-clause-shows
returns-else-at-octets-clause-shows c =
    let i = c.loop-left.invariant in
    let none = drop_all c.loop-left.at c.args.octets.now (omega arith) in
    let s = i.1.2 [] (drop c.loop-left.at c.args.octets.now)
    (shows_nothing c.args.coding c.loop-left.left (drop c.loop-left.at c.args.octets.now) none) in
    (i.1.0, subst (λ l. Shows c.args.coding c.args.width c.args.octets.now l (drop c.loop-left.at c.args.octets.now)) (append-nil i.1.0) s, i.1.1)

pub returns-after-loop-left-clause-shows : goal.returns-after-loop-left-clause-shows
returns-after-loop-left-clause-shows c =
    let i = c.loop-left.invariant in
    let left = drop c.loop-left.at c.args.octets.now in
    let none : c.loop-left.left ≡ 0 = omega arith in
    let s = i.1.2 [] left (subst (λ w. Shows c.args.coding w left [] left) (sym none) (shows_no_more c.args.coding left)) in
    (i.1.0, subst (λ l. Shows c.args.coding c.args.width c.args.octets.now l left) (append-nil i.1.0) s, i.1.1)
