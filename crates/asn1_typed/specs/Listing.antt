-- What is written of the types of modules.
use Rattle.std.specs.Prelude.{ℕ, ◌≡◌, ◌⊎◌, true, false, List, [], ◌++◌, codes, flat_map, Option, Some, None, slice_get}
use Rattle.asn1_schema.specs.declared.schema.Node.{Node}
use Rattle.asn1_schema.specs.declared.names.TypeNames.{TypeNames}
use Rattle.asn1_schema.specs.Sound.{is_sound}
use Rattle.asn1_module.specs.declared.modules.ModuleType.{ModuleType}
use Rattle.asn1_module.specs.declared.mistake.Place.{Place}
use Rattle.asn1_module.specs.declared.syntax.Note.{Note}
use Rattle.asn1_engine.specs.declared.error.Finding.{Finding}
use Rattle.asn1_engine.specs.declared.error.Finding.TheVariants.{Holds, Refused}
use Rattle.asn1_typed.specs.declared.source.Source.{Source}
use Rattle.asn1_typed.specs.Kinds.{type_text}
use Rattle.asn1_typed.specs.Places.{IsMistakeLine, note_text}
use Rattle.asn1_typed.specs.Tags.{tags_text}

-- sound, or not
abbrev pub TellsSound : List Node → Finding → Type 0
TellsSound table Holds = is_sound table ≡ true
TellsSound table Refused = is_sound table ≡ false

-- the tags of a type
abbrev pub node_tags_text : Option Node → List ℕ
node_tags_text None = []
node_tags_text (Some node) = tags_text node.tags

-- the line of a type: its module and its name, its tags, and its kind by sixteen types that it leads to
abbrev pub type_line : List Node → List TypeNames → ModuleType → List ℕ
type_line table names named = named.module.now ++ codes "." ++ named.name.now ++ codes ":" ++
    node_tags_text (slice_get table named.of) ++ codes " " ++ type_text 16 table names named.of ++ codes "\n"

-- a line for each type, in their order
abbrev pub type_lines : List Node → List TypeNames → List ModuleType → List ℕ
type_lines table names types = flat_map (λ named. type_line table names named) types

-- a line for each note, in their order
abbrev pub note_lines : List Source → List Note → List ℕ
note_lines sources notes = flat_map (λ note. note_text sources note) notes

-- why the table is not sound
abbrev pub unsound_text : List ℕ → List ℕ
unsound_text why = codes "not sound: " ++ why ++ codes "\n"

-- whether the table is sound, and if not, why, in whatever words
abbrev pub IsSoundLine : List Node → List ℕ → Type 0
IsSoundLine table text = ((is_sound table ≡ true) × (text ≡ codes "sound\n")) ⊎
    ((is_sound table ≡ false) × (why : List ℕ) × (text ≡ unsound_text why))

-- the lines of types, of what is left out, and whether the table is sound
abbrev pub IsListing : List Source → List Node → List TypeNames → List ModuleType → List Note → List ℕ → Type 0
IsListing sources table names types notes text = (verdict : List ℕ) × IsSoundLine table verdict ×
    (text ≡ type_lines table names types ++ note_lines sources notes ++ verdict)

-- the line of a mistake; or the lines of a table of types
abbrev pub IsListingOrMistake : List Source → Finding → List ℕ → Type 0
IsListingOrMistake sources finding text = ((finding ≡ Refused) × (place : Place) × IsMistakeLine sources place text) ⊎
    ((table : List Node) × (names : List TypeNames) × (types : List ModuleType) × (notes : List Note) ×
    TellsSound table finding × IsListing sources table names types notes text)
