use Rattle.std.proofs.Common.{◌≡◌, ◌<◌, ◌∷◌, ◌++◌, ◌∙◌, ap, sym, subst, ℕ, List, [], Result, Ok, Err, Bool, true, false}
use Rattle.std.proofs.Common.{if◌then◌else◌, map, get_or, length, lit<}
use Rattle.std.specs.List.{All}
use Rattle.std.specs.Str.Parse.{ParsesUnsigned}
use Rattle.std.proofs.lemmas.Bool.{false≢true}
use Rattle.std.proofs.lemmas.Iterator.Consumers.{YieldsList-turn, YieldsList-end}
use Rattle.std.proofs.lemmas.Iterator.Splits.{YieldsList-from_str_split}
use Rattle.std.proofs.lemmas.List.{map-append}
use Rattle.std.proofs.lemmas.List.Elements.{All-push}
use denote.Ref.{Bor}
use Rattle.asn1_rs.specs.Oid.Making.{SaysArc, arc_said, parts_between_points}
use Rattle.asn1_rs.proofs.asn1_types.oid.making.arcs_of_text.Goals as goal

abbrev texts : List (Bor (List ℕ)) → List (List ℕ)
texts parts = map (λ part. part.now) parts

read : {E : Type 0} (part : List ℕ) (r : Result ℕ E) (arc : ℕ) → ParsesUnsigned 64 10 part r → r ≡ Ok arc →
    SaysArc part × (arc ≡ arc_said part)
read part (Ok n) arc p e = let same : n ≡ arc = cc in (p.0, sym same ∙ p.1)
read part (Err x) arc p e = absurd cc

unread : {E : Type 0} (part : List ℕ) (r : Result ℕ E) (x : E) → ParsesUnsigned 64 10 part r → r ≡ Err x →
    ¬ (SaysArc part)
unread part (Ok n) x p e = absurd cc
unread part (Err y) x p e = p

all_more : (parts : List (Bor (List ℕ))) (part : Bor (List ℕ)) → All SaysArc (texts parts) → SaysArc part.now →
    All SaysArc (texts (parts ++ part ∷ []))
all_more parts part a s =
    subst (All SaysArc) (sym (map-append (λ p. p.now) parts (part ∷ []))) (All-push SaysArc (texts parts) part.now a s)

arcs_more : (parts : List (Bor (List ℕ))) (part : Bor (List ℕ)) (arcs : List ℕ) (arc : ℕ) →
    arcs ≡ map arc_said (texts parts) → arc ≡ arc_said part.now →
    arcs ++ arc ∷ [] ≡ map arc_said (texts (parts ++ part ∷ []))
arcs_more parts part arcs arc e f =
    let more = ap (map arc_said) (map-append (λ p. p.now) parts (part ∷ []))
    ∙ map-append arc_said (texts parts) (part.now ∷ []) in
    cc

pushed : (ok kept : Bool) (old new : List ℕ) (arc : ℕ) → new ≡ (if ok then old ++ arc ∷ [] else old) → kept ≡ ok →
    kept ≡ true → new ≡ old ++ arc ∷ []
pushed true kept old new arc e is k = e
pushed false kept old new arc e is k = absurd (false≢true (sym is ∙ k))

not_all : (parts : List (List ℕ)) (n : ℕ) (part : List ℕ) → (n < length parts) × (part ≡ get_or parts n part) →
    ¬ (SaysArc part) → ¬ (All SaysArc parts)
not_all parts n part at unsaid all = unsaid (subst SaysArc (sym at.1) (all n part at.0))

pub returns-in_default : goal.returns-in_default
returns-in_default c =
    let at = YieldsList-turn (YieldsList-from_str_split 46 c.args.s.now (lit< tt) (cc) (cc) (cc)) c.loop-part.yielded _
    c.loop-part.yielded_by _ _ c.in-Some.part c.in-Some.is c.next.ensures.steps in
    not_all (parts_between_points c.args.s.now) (length c.loop-part.yielded) c.in-Some.part.now at
    (unread c.in-Some.part.now c.parse.result c.in_default.field-0 c.parse.ensures.value.0 c.in_default.is)

pub loop-part-preserved-then-kept : goal.loop-part-preserved-then-kept
loop-part-preserved-then-kept c =
    let got = read c.in-Some.part.now c.parse.result c.in-Ok.arc c.parse.ensures.value.0 c.in-Ok.is in (
      tt,
      tt,
      all_more c.loop-part.yielded c.in-Some.part c.loop-part.invariant.2 got.0,
      λ kept. pushed _ c.is_ok-kept.result c.loop-part.arcs.items c.push.new.self.items c.in-Ok.arc
          c.push.ensures.items c.is_ok-kept.ensures.value kept
          ∙ arcs_more c.loop-part.yielded c.in-Some.part c.loop-part.arcs.items c.in-Ok.arc
          (c.loop-part.invariant.3 c.if-kept.true) got.1,
    )

pub loop-part-preserved : goal.loop-part-preserved
loop-part-preserved c =
    let got = read c.in-Some.part.now c.parse.result c.in-Ok.arc c.parse.ensures.value.0 c.in-Ok.is in (
      tt,
      tt,
      all_more c.loop-part.yielded c.in-Some.part c.loop-part.invariant.2 got.0,
      λ kept. absurd (false≢true (sym c.if-kept.false ∙ kept)),
    )

pub returns-then-kept-2 : goal.returns-then-kept-2
returns-then-kept-2 c =
    let all = (YieldsList-end (YieldsList-from_str_split 46 c.args.s.now (lit< tt) (cc) (cc) (cc)) c.loop-part.yielded _
    c.loop-part.yielded_by _ _ c.in-None.is c.next.ensures.steps).0 in
    (subst (All SaysArc) all c.loop-part.invariant.2, c.loop-part.invariant.3 c.if-kept-2.true ∙ ap (map arc_said) all)

pub returns-else-kept-2 : goal.returns-else-kept-2
returns-else-kept-2 c =
    let all = (YieldsList-end (YieldsList-from_str_split 46 c.args.s.now (lit< tt) (cc) (cc) (cc)) c.loop-part.yielded _
    c.loop-part.yielded_by _ _ c.in-None.is c.next.ensures.steps).0 in
    subst (All SaysArc) all c.loop-part.invariant.2
