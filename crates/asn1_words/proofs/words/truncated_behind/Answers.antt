use Rattle.std.proofs.Common.{◌≡◌, ◌≤◌, ◌<◌, ◌+◌, ℕ, true, List, ◌++◌, length, take, drop, ap, sym, ◌∙◌, arith, length-drop}
use Rattle.std.proofs.Common.{take-append-drop, append_assoc, nat_lt, refl}
use Rattle.std.proofs.Math.Seq.{take-append-add}
use Rattle.std.proofs.lemmas.Bool.{lt-ltb}
use Rattle.std.proofs.lemmas.List.{length-take-le}
use Rattle.asn1_words.specs.Words.{truncated_text, left_out_text}
use Rattle.asn1_words.proofs.words.truncated_behind.Goals as goal

-- more octets in two parts
in_parts : (xs : List ℕ) (n m : ℕ) → n ≤ length xs → take (n + m) xs ≡ take n xs ++ take m (drop n xs)
in_parts xs n m within =
    ap (λ k. take (k + m) xs) (sym (length-take-le n xs within)) ∙ ap (take (length (take n xs) + m)) (sym (take-append-drop n xs))
    ∙ take-append-add (take n xs) (drop n xs) m

-- a text of more columns is cut
truncated : (width count : ℕ) (text : List ℕ) → width < length text →
    truncated_text width count text ≡ take width text ++ left_out_text count
truncated width count text more = let e : nat_lt width (length text) ≡ true = lt-ltb width (length text) more in rw e refl

pub returns : goal.returns
returns c =
    let old = c.args.text.now.items in
    let start : ℕ = c.args.start in
    let width : ℕ = c.args.width in
    let count : ℕ = c.args.count in
    let more : width < length (drop start old) = omega (arith, length-drop start old, c.if-len-start.false, c.len.ensures) in
    c.in_ok-push_left_out.ensures
    ∙ ap (λ l. l ++ left_out_text count) (c.truncate.ensures.items ∙ in_parts old start width c.requires)
    ∙ append_assoc (take start old) (take width (drop start old)) (left_out_text count)
    ∙ ap (λ l. take start old ++ l) (sym (truncated width count (drop start old) more))
