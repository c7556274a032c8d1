use Rattle.std.proofs.Common.{◌≡◌, ◌∙◌, ap, arith, subst, sym, refl, false, [], ◌∷◌, ◌++◌, map, pos}
use Rattle.std.specs.Prelude.{Ok}
use Rattle.std.proofs.lemmas.List.{map-append}
use Rattle.x690.specs.Octets.{IsOctets}
use Rattle.asn1_rs.specs.Traits.{OfParts, DerGives}
use Rattle.asn1_rs.specs.Integer.{IntegerCheckGives, UnsignedGives}
use Rattle.asn1_rs.specs.Sequence.Iterator.{octets_left, TellsNoWord, IsMemory, WalkSteps}
use Rattle.asn1_rs_uses.specs.Numbers.{NumberByDer}
use Rattle.asn1_rs_uses.proofs.Collected.{collected, refused}
use Rattle.asn1_rs_uses.proofs.JoinedNumbers.{same, no_memory_next, no_word}
use Rattle.asn1_rs_uses.proofs.joined.check_numbers.Goals as goal

pub loop-number-init : goal.loop-number-init
loop-number-init c = ([], refl)

pub loop-number-preserved : goal.loop-number-preserved
loop-number-preserved c =
    let before = c.loop-number.invariant in (
      before.0 ++ c.in-Ok.field-0 ∷ [],
      rw c.in-Ok.is
          (ap (λ xs. xs ++ Ok c.in-Ok.field-0 ∷ []) before.1 ∙ sym (map-append Ok before.0 (c.in-Ok.field-0 ∷ []))),
    )

pub returns-clause-joined : goal.returns-clause-joined
returns-clause-joined c =
    let begins : octets_left c.into_iter-number-iterator.result ≡ c.args.content.now =
    ap octets_left c.into_iter-number-iterator.ensures.into_iter_gives ∙ c.new-number-items.ensures in
    let octets : IsOctets (octets_left c.into_iter-number-iterator.result) =
    subst IsOctets (sym begins) (λ k. omega (arith, c.type_inv.content k)) in (
      map pos c.loop-number.invariant.0,
      collected (DerGives IntegerCheckGives (OfParts (UnsignedGives 8)) same) same NumberByDer pos
          c.into_iter-number-iterator.result c.args.content.now begins
          (TellsNoWord NumberByDer (IsMemory false same))
          (λ t answers y. c.walks_take_words.ensures.calls c.into_iter-number-iterator.result t answers octets y)
          c.loop-number.number-iterator c.next.new.self c.loop-number.yielded c.loop-number.invariant.0
          c.loop-number.invariant.1 c.loop-number.yielded_by (rw c.in-None.is at c.next.ensures.steps),
    )

pub returns-in-Err-clause-refused : goal.returns-in-Err-clause-refused
returns-in-Err-clause-refused c =
    let begins : octets_left c.into_iter-number-iterator.result ≡ c.args.content.now =
    ap octets_left c.into_iter-number-iterator.ensures.into_iter_gives ∙ c.new-number-items.ensures in
    let octets : IsOctets (octets_left c.into_iter-number-iterator.result) =
    subst IsOctets (sym begins) (λ k. omega (arith, c.type_inv.content k)) in
    no_word NumberByDer c.args.content.now (map pos c.loop-number.invariant.0) c.in-Err.e
    (refused (DerGives IntegerCheckGives (OfParts (UnsignedGives 8)) same) same NumberByDer pos
    c.into_iter-number-iterator.result c.args.content.now begins
    (TellsNoWord NumberByDer (IsMemory false same))
    (λ t answers y. c.walks_take_words.ensures.calls c.into_iter-number-iterator.result t answers octets y)
    c.loop-number.number-iterator c.next.new.self c.loop-number.yielded c.loop-number.invariant.0 c.in-Err.e
    c.loop-number.invariant.1 c.loop-number.yielded_by (rw c.in-Err.is at c.in-Some.ensures.steps))

pub returns-in-Err-clause-asks_no_memory : goal.returns-in-Err-clause-asks_no_memory
returns-in-Err-clause-asks_no_memory c =
    no_memory_next (WalkSteps (DerGives IntegerCheckGives (OfParts (UnsignedGives 8)) same) same)
    c.loop-number.number-iterator c.next.new.self c.in-Err.e (rw c.in-Err.is at c.in-Some.ensures.steps)
    (λ answers y. c.walks_take_words.ensures.asks_no_memory c.loop-number.number-iterator c.next.new.self answers refl
    y)
