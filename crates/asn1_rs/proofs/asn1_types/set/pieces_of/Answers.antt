use Rattle.std.proofs.Common.{◌≡◌, ◌∙◌, ap, refl, [], ◌∷◌, length, min, get_or, arith}
use Rattle.std.proofs.lemmas.List.{length-map, map-append, take_more, take_all}
use Rattle.asn1_rs.proofs.Sets.{length_at, piece_front, piece_back}
use Rattle.asn1_rs.proofs.asn1_types.set.pieces_of.Goals as goal

pub loop-length-preserved : goal.loop-length-preserved
loop-length-preserved c = λ strings e.
    let at = length_at strings c.args.lengths.now c.loop-length.length-index
    e.1 c.loop-length-test.true in
    let held = c.loop-length.invariant strings e in
    let truncated : c.min.result ≡
    min (length (get_or strings c.loop-length.length-index [])) (length c.loop-length.rest.now) =
    c.min.ensures ∙ ap (λ n. min n (length c.loop-length.rest.now)) at.1 in (
      rw c.in_ok-push.ensures.items (rw (map-append (λ s. s.now) c.loop-length.pieces.items (_ ∷ []))
          (rw (take_more strings c.loop-length.length-index [] at.0) (rw (
            held.0,
            c.split_at.ensures.front,
            piece_front strings c.loop-length.length-index at.0 c.loop-length.rest.now held.1 c.min.result truncated,
          ) refl))),
      c.split_at.ensures.back
          ∙ piece_back strings c.loop-length.length-index at.0 c.loop-length.rest.now held.1 c.min.result truncated,
    )

pub returns : goal.returns
returns c = λ strings e.
    let long = ap length e.1 ∙ length-map strings length in
    (c.loop-length.invariant strings e).0
    ∙ take_all c.loop-length.length-index strings (omega (arith, long, c.loop-length-test.false))
