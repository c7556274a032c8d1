use Rattle.std.proofs.Common.{◌++◌, sym, ap, ◌∙◌, encode_utf8}
use Rattle.x690.proofs.CodedTexts.{chars_before_char}
use Rattle.x690.proofs.characters.last_character.Goals as goal

pub returns-in-Some-clause-characters : goal.returns-in-Some-clause-characters
returns-in-Some-clause-characters c =
    let last = c.in-Some.character in
    let front = c.as_str.result.now in
    chars_before_char c.args.text.now front last c.utf8.text c.as_str.utf8
    (sym c.chars-characters.ensures.rest ∙ c.in-Some.ensures.steps
    ∙ ap (λ xs. xs ++ encode_utf8 last) (sym c.as_str.ensures))
