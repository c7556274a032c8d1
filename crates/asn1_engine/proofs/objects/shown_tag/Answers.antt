use Rattle.std.proofs.Common.{◌≡◌, ℕ, zero, suc, Bool, true, ◌&&◌, List, [], ◌∷◌, ◌++◌, get_or, codes, IsUtf8, refl, ap, sym, subst, ◌∙◌}
use Rattle.std.proofs.lemmas.Bool.{and_parts}
use Rattle.json.proofs.Printed.Utf8.{are_ascii, IsUtf8-are_ascii}
use Rattle.asn1_headers.specs.Tag.{text_or}
use Rattle.asn1_headers.specs.declared.class.Class.{Class}
use Rattle.asn1_headers.specs.declared.class.Class.TheVariants.{Universal, Application, ContextSpecific, Private}
use Rattle.asn1_engine.specs.Heads.{tag_text, type_name, type_names}
use Rattle.asn1_words.specs.Words.{number_text}
use Rattle.asn1_engine.proofs.Utf8Texts.{IsAsciiText, both, number_is_ascii}
use Rattle.asn1_engine.proofs.objects.shown_tag.Goals as goal

abbrev all_ascii : List (List ℕ) → Bool
all_ascii [] = true
all_ascii (text ∷ texts) = are_ascii text && all_ascii texts

each_ascii : (texts : List (List ℕ)) → all_ascii texts ≡ true → (i : ℕ) → IsAsciiText (get_or texts i [])
each_ascii [] e i = refl
each_ascii (text ∷ texts) e zero = (and_parts (are_ascii text) (all_ascii texts) e).0
each_ascii (text ∷ texts) e (suc i) = each_ascii texts (and_parts (are_ascii text) (all_ascii texts) e).1 i

text_or_ascii : (text other : List ℕ) → IsAsciiText text → IsAsciiText other → IsAsciiText (text_or text other)
text_or_ascii [] other h k = k
text_or_ascii (x ∷ xs) other h k = h

tag_is_ascii : (class : Class) (number : ℕ) → IsAsciiText (tag_text class number)
tag_is_ascii Universal number = text_or_ascii (type_name number) (codes "UNIVERSAL " ++ number_text number)
    (each_ascii type_names refl number) (both (codes "UNIVERSAL ") (number_text number) refl (number_is_ascii number))
tag_is_ascii Application number = both (codes "APPLICATION ") (number_text number) refl (number_is_ascii number)
tag_is_ascii ContextSpecific number =
    both (codes "[" ++ number_text number) (codes "]") (both (codes "[") (number_text number) refl (number_is_ascii number)) refl
tag_is_ascii Private number = both (codes "PRIVATE ") (number_text number) refl (number_is_ascii number)

pub returns : goal.returns
returns c =
    let tag = tag_text c.args.class c.args.number in
    let is : c.as_slice.result.now ≡ tag =
    c.as_slice.ensures.value ∙ c.in_ok-push_tag.ensures ∙ ap (λ l. l ++ tag) c.new-text.ensures.items in
    let utf8 : IsUtf8 c.as_slice.result.now = subst IsUtf8 (sym is) (IsUtf8-are_ascii tag (tag_is_ascii c.args.class c.args.number)) in
    c.in_ok-name.ensures.ok utf8 ∙ is
