use Rattle.std.proofs.Common.{◌∙◌, ◌≡◌, ap, ℕ, List, ◌++◌, append-nil}
use Rattle.asn1_schema.proofs.JoinedBits.{holds_content, appended}
use Rattle.asn1_schema.proofs.cursor.join_bits.Goals as goal

pub returns-in-Ok : goal.returns-in-Ok
returns-in-Ok c = λ kept bs m v.
    let h = c.piece_places-start.ensures.pieces kept bs m v in
    let p = c.in-Ok.ensures in
    let said = holds_content c.args.value.now c.piece_places-start.result.0 c.piece_places-start.result.1 bs _ _ h p in
    appended bs c.push_behind_first.result c.args.octets.now.items c.push_behind_first.new.octets.items c.as_bytes.result.now
    p.content said
    (c.as_bytes.ensures ∙ (p.put ∙ (ap (λ (z : List ℕ). p.content ++ z) c.new-content.ensures ∙ append-nil p.content)))
    c.push_behind_first.ensures

pub returns-in-Err-Refused : goal.returns-in-Err-Refused
returns-in-Err-Refused c = λ kept bs m v.
    let h = c.piece_places-start.ensures.pieces kept bs m v in
    c.in-Err-Refused.ensures.0 (λ e. let f = c.in-Err-Refused.field-0-is in absurd (cc)) h.pieces h.stand

pub returns : goal.returns
returns c = λ kept bs m v.
    let h = c.piece_places-start.ensures.pieces kept bs m v in
    c.in-Err-TooDeep.ensures.0 (λ e. let f = c.in-Err-TooDeep.field-0-is in absurd (cc)) h.pieces h.stand
