use Rattle.std.proofs.Common.{◌≡◌, ◌∙◌, ap, arith, ℕ, length, List, [], ◌∷◌, ◌++◌, map}
use Rattle.asn1_schema.specs.Tape.{mark}
use Rattle.asn1_schema.specs.Owned.{lent, placed_mark}
use Rattle.asn1_schema.specs.declared.owned.Placed.{Placed}
use Rattle.asn1_schema.proofs.Appended.{item_more}
use Rattle.asn1_schema.proofs.owned.OwnedTape.push.Goals as goal

pub returns : goal.returns
returns c =
    let front = c.args.self.now.octets.items in
    let own = c.octets_lent-octets.result.now in
    let items = c.args.self.now.items.items in
    let start : c.len-start.result ≡ length front = omega (arith, c.len-start.ensures) in
    record {
      octets = lent c.args.item.now;
      behind = c.in_ok-extend_from_slice.ensures.items ∙ ap (λ (o : List ℕ). front ++ o) c.octets_lent-octets.ensures;
      marks = λ more.
          ap (λ (o : List ℕ). map (placed_mark (o ++ more)) c.push.new.self.items) c.in_ok-extend_from_slice.ensures.items
          ∙ ap (λ (l : List Placed). map (placed_mark ((front ++ own) ++ more)) l) c.in_ok-push.ensures.items
          ∙ item_more front own more items _ c.args.item.now start (omega arith) c.octets_lent-octets.ensures c.with_octets.ensures.same
          ∙ ap (λ (o : List ℕ). map (placed_mark (front ++ (o ++ more))) items ++ mark c.args.item.now ∷ []) c.octets_lent-octets.ensures;
    }
