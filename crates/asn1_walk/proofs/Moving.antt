-- What a step finds tells what is to come.
use Rattle.std.proofs.Common.{◌≡◌, ℕ, suc, ◌+◌, List, [], ◌≤◌, length, reverse, inl, inr, refl, sym, ap, arith}
use Rattle.std.proofs.Common.{subst, length-append}
use Rattle.asn1_walk.specs.declared.line.Line.{Line}
use Rattle.asn1_walk.specs.declared.state.Frame.{Frame}
use Rattle.asn1_walk.specs.declared.state.Walk.{Walk}
use Rattle.asn1_walk.specs.declared.walk.Step.{Step}
use Rattle.asn1_walk.specs.declared.walk.Step.TheVariants.{Line as an_element, Closed, End, Refused}
use Rattle.asn1_walk.specs.Rooms.{octets_behind}
use Rattle.asn1_walk.specs.Rows.{Outcome, ended}
use Rattle.asn1_walk.specs.Walks.{Finds, Moves, AreLinesToCome, steps_left}
use Rattle.asn1_walk.proofs.Coming.{all_end, fault_next, leaf_next}
use Rattle.asn1_walk.proofs.Steps.{closed, closed_fewer, header_passed, opened, opened_fewer}

-- the same is to come where a walk stands at the same place
goes_alike : (frames others : List Frame) (offset place : ℕ) (view octets : List ℕ) → frames ≡ others →
    offset ≡ place → view ≡ octets → (lines : List Line) (outcome : Outcome) →
    AreLinesToCome frames offset view lines outcome →
    AreLinesToCome others place octets lines outcome
goes_alike frames others offset place view octets f o v lines outcome g =
    subst (λ (fs : List Frame). AreLinesToCome fs place octets lines outcome) f
    (subst (λ (n : ℕ). AreLinesToCome frames n octets lines outcome) o
    (subst (λ (w : List ℕ). AreLinesToCome frames offset w lines outcome) v g))

pub moves : (step : Step) (old new : Walk) → Finds step old new → Moves step old new
moves (an_element line) old new (inl p) = (
  omega (
    arith,
    header_passed _ _ old.offset old.view.now line _ p.0.0,
    length-append line.content.now new.view.now,
    ap (λ (fs : List Frame). octets_behind (reverse fs)) p.2,
    ap length p.2,
  ),
  λ lines outcome g. leaf_next (reverse old.frames.items) old.offset old.view.now line new.view.now _ p.0.0 p.0.1
      p.0.2 p.1 lines outcome
      (goes_alike _ (reverse old.frames.items) _ new.offset _ new.view.now (ap reverse p.2) refl refl lines outcome g),
)
moves (an_element line) old new (inr e) =
    let can = e.1 in (
      subst (λ (v : List ℕ). suc (length v + octets_behind (reverse new.frames.items) + length new.frames.items) ≤ steps_left old)
          (sym e.2)
          (opened_fewer old.frames.items new.frames.items e.0 old.offset old.view.now line can.0 e.4 can.1 can.3),
      λ lines outcome g. opened old.frames.items new.frames.items e.0 old.offset old.view.now line can.0 e.4 can.1 can.2
          can.3 lines outcome
          (goes_alike _ (reverse new.frames.items) _ (old.offset + line.header_len) _ line.content.now refl e.3 e.2 lines
          outcome g),
    )
moves Closed old new l = (
  closed_fewer old.frames.items new.frames.items l.0 old.view.now l.1 new.view.now l.5 l.2 l.3,
  λ lines outcome g. closed old.frames.items new.frames.items l.0 old.offset new.offset old.view.now l.1 new.view.now
      l.5 l.2 l.3 l.4 lines outcome g,
)
moves End old new e =
    goes_alike [] (reverse old.frames.items) old.offset old.offset old.view.now old.view.now (ap reverse (sym e.0)) refl
    refl [] (ended old.offset []) (all_end old.offset old.view.now e.1)
moves (Refused r) old new f = (
  f.0,
  f.2,
  fault_next (reverse old.frames.items) old.offset old.view.now f.0 f.1.0 f.1.1,
  f.3.1,
)
