use Rattle.std.proofs.Common.{◌≡◌, ℕ, List, ◌++◌, length, drop, refl, ap, ◌∙◌, append_assoc, codes}
use Rattle.asn1_engine.specs.Texts.{end_text}
use Rattle.asn1_engine.proofs.texts.push_quoted.Goals as goal

-- the three parts are one text
joined : (old mark inner end text more : List ℕ) → text ≡ (old ++ mark) ++ inner → more ≡ text ++ end →
    more ≡ old ++ (mark ++ (inner ++ end))
joined old mark inner end text more e f =
    f ∙ ap (λ l. l ++ end) e ∙ append_assoc (old ++ mark) inner end ∙ append_assoc old mark (inner ++ end)

pub returns : goal.returns
returns c =
    let s = c.in_ok-count.ensures.shows in
    let left = drop c.in_ok-count.count c.args.octets.now in
    let told : c.push_characters.new.text.items ≡ (c.args.text.now.items ++ codes "\"") ++ s.0 =
    s.2 ∙ ap (λ l. l ++ s.0) c.in_ok-push_str.ensures in
    let end : c.push_end.new.text.items ≡ c.push_characters.new.text.items ++ end_text (length c.args.octets.now) left =
    c.in_ok-push_end.ensures ∙ ap (λ l. c.push_characters.new.text.items ++ end_text (length c.args.octets.now) l) c.behind.ensures in (
      codes "\"" ++ (s.0 ++ end_text (length c.args.octets.now) left),
      (s.0, left, s.1, refl),
      joined c.args.text.now.items (codes "\"") s.0 (end_text (length c.args.octets.now) left) c.push_characters.new.text.items
          c.push_end.new.text.items told end,
    )
