use Rattle.std.proofs.Common.{◌≡◌, ◌∙◌, ap, arith, subst, sym, List, ℕ}
use Rattle.x690.specs.Octets.{IsOctets}
use Rattle.x690.specs.Joined.{AreConcatenatedWords}
use Rattle.asn1_rs.specs.Sequence.Iterator.{octets_left, TellsNoWord, TellsMemoryAlone, IsMemory}
use Rattle.asn1_rs_uses.proofs.Collected.{collected, refused, why_refused}
use Rattle.asn1_rs_uses.proofs.items.items_in.Goals as goal

pub returns-in-Err-clause-refused : goal.returns-in-Err-clause-refused
returns-in-Err-clause-refused g c =
    let begins : octets_left c.into_iter-item-iterator.result ≡ c.args.content.now =
    ap octets_left c.into_iter-item-iterator.ensures.into_iter_gives ∙ c.new-item-items.ensures in
    let octets : IsOctets (octets_left c.into_iter-item-iterator.result) =
    subst IsOctets (sym begins) (λ k. omega (arith, c.type_inv.content k)) in
    why_refused g.E.From.from_gives g.F.ReadsWords.Words g.F.ReadsWords.allocates c.args.content.now _ c.in-Err.e
    (refused g.F.ReadsItems.item_gives g.E.From.from_gives g.F.ReadsWords.Words g.F.ReadsWords.value
    c.into_iter-item-iterator.result c.args.content.now begins
    (TellsNoWord g.F.ReadsWords.Words (IsMemory g.F.ReadsWords.allocates g.E.From.from_gives))
    (λ t answers y. c.walks_take_words.ensures.calls c.into_iter-item-iterator.result t answers octets y)
    c.loop-item.item-iterator c.next.new.self c.loop-item.yielded c.loop-item.items.items c.in-Err.e
    c.loop-item.invariant c.loop-item.yielded_by (rw c.in-Err.is at c.in-Some.ensures.steps))

pub returns-in-Err-clause-whole : goal.returns-in-Err-clause-whole
returns-in-Err-clause-whole g c = λ j.
    let begins : octets_left c.into_iter-item-iterator.result ≡ c.args.content.now =
    ap octets_left c.into_iter-item-iterator.ensures.into_iter_gives ∙ c.new-item-items.ensures in
    let octets : IsOctets (octets_left c.into_iter-item-iterator.result) =
    subst IsOctets (sym begins) (λ k. omega (arith, c.type_inv.content k)) in
    let joined : AreConcatenatedWords g.F.ReadsWords.Words (octets_left c.into_iter-item-iterator.result) =
    subst (λ (o : List ℕ). AreConcatenatedWords g.F.ReadsWords.Words o) (sym begins) j in
    let ended = refused g.F.ReadsItems.item_gives g.E.From.from_gives g.F.ReadsWords.Words g.F.ReadsWords.value
    c.into_iter-item-iterator.result c.args.content.now begins
    (TellsMemoryAlone (IsMemory g.F.ReadsWords.allocates g.E.From.from_gives))
    (λ t answers y. c.walks_take_words.ensures.whole c.into_iter-item-iterator.result t answers octets joined y)
    c.loop-item.item-iterator c.next.new.self c.loop-item.yielded c.loop-item.items.items c.in-Err.e
    c.loop-item.invariant c.loop-item.yielded_by (rw c.in-Err.is at c.in-Some.ensures.steps) in
    ended.tells.1

pub returns-clause-joined : goal.returns-clause-joined
returns-clause-joined g c =
    let begins : octets_left c.into_iter-item-iterator.result ≡ c.args.content.now =
    ap octets_left c.into_iter-item-iterator.ensures.into_iter_gives ∙ c.new-item-items.ensures in
    let octets : IsOctets (octets_left c.into_iter-item-iterator.result) =
    subst IsOctets (sym begins) (λ k. omega (arith, c.type_inv.content k)) in
    collected g.F.ReadsItems.item_gives g.E.From.from_gives g.F.ReadsWords.Words g.F.ReadsWords.value
    c.into_iter-item-iterator.result c.args.content.now begins
    (TellsNoWord g.F.ReadsWords.Words (IsMemory g.F.ReadsWords.allocates g.E.From.from_gives))
    (λ t answers y. c.walks_take_words.ensures.calls c.into_iter-item-iterator.result t answers octets y)
    c.loop-item.item-iterator c.next.new.self c.loop-item.yielded c.loop-item.items.items c.loop-item.invariant
    c.loop-item.yielded_by (rw c.in-None.is at c.next.ensures.steps)
