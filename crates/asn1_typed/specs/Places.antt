-- Places in texts, and what is told of them.
use Rattle.std.specs.Prelude.{ℕ, ◌≡◌, List, ◌++◌, ◌+◌, codes, take, count_by, Option, Some, None, slice_get}
use Rattle.std.specs.List.{suffix_len}
use Rattle.asn1_module.specs.Mistakes.{is_line_feed, is_in_line}
use Rattle.asn1_module.specs.declared.mistake.Place.{Place}
use Rattle.asn1_module.specs.declared.syntax.LeftOut.{LeftOut}
use Rattle.asn1_module.specs.declared.syntax.LeftOut.TheVariants as left_out
use Rattle.asn1_module.specs.declared.syntax.Note.{Note}
use Rattle.asn1_words.specs.Words.{number_text}
use Rattle.asn1_typed.specs.declared.source.Source.{Source}

-- the name of a text, and the line and the column of an octet, both from 1
abbrev pub position_text : Source → ℕ → List ℕ
position_text source octet = source.name.now ++ codes ":" ++
    number_text (1 + count_by is_line_feed (take octet source.text.now)) ++ codes ":" ++
    number_text (1 + suffix_len is_in_line (take octet source.text.now))

abbrev pub place_in : Option Source → ℕ → List ℕ
place_in None octet = codes "octet " ++ number_text octet
place_in (Some source) octet = position_text source octet

abbrev pub place_text : List Source → Place → List ℕ
place_text sources place = place_in (slice_get sources place.text) place.octet

-- what is left out of a table
abbrev pub table_left_out_text : LeftOut → List ℕ
table_left_out_text left_out.Constraint = codes "a constraint is not judged"
table_left_out_text left_out.Open = codes "any element is read"
table_left_out_text left_out.Default = codes "a default is not read, and the component may be left out"
table_left_out_text left_out.Middle = codes "no unknown elements are read before these components"

-- the line of a note
abbrev pub note_text : List Source → Note → List ℕ
note_text sources note = place_text sources note.place ++ codes ": " ++ table_left_out_text note.what ++ codes "\n"

-- the line of a mistake, whatever the words for what is wrong are
abbrev pub IsMistakeLine : List Source → Place → List ℕ → Type 0
IsMistakeLine sources place text =
    (wrong : List ℕ) × (text ≡ place_text sources place ++ codes ": " ++ wrong ++ codes "\n")
