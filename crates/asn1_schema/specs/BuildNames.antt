-- Which names the calls that build a table put beside it.
use Rattle.std.specs.Prelude.{ℕ, ℤ, pos, List, [], ◌∷◌, ◌++◌, ◌≡◌, length, map, Some, Result, Ok, Err, slice_get, slice_set}
use Rattle.std.specs.List.{enumerate_from}
use Rattle.asn1_schema.specs.declared.names.PartName.{PartName}
use Rattle.asn1_schema.specs.declared.names.TypeNames.{TypeNames}
use Rattle.asn1_schema.specs.declared.parts.Part.{Part}
use Rattle.asn1_schema.specs.declared.parts.ChoiceArm.{ChoiceArm}
use Rattle.asn1_schema.specs.declared.build.Schema.{Schema}

-- what a label says: a name, and the number that it stands for
abbrev pub label_of : PartName → List ℕ × ℤ
label_of label = (label.name.now, label.number)

-- each name with its place, from this one on
abbrev pub placed_from : ℕ → List (List ℕ) → List (List ℕ × ℤ)
placed_from place names = map (λ p. (p.1, pos p.0)) (enumerate_from place names)

-- these labels, in this order
abbrev pub AreLabels : List (List ℕ × ℤ) → List PartName → Type 0
AreLabels told labels = map label_of labels ≡ told

-- the labels of parts that have these names, in this order: each name with its place
abbrev pub ArePlaced : List (List ℕ) → List PartName → Type 0
ArePlaced names = AreLabels (placed_from 0 names)

-- the name of a type, and its labels
abbrev pub HasNames : List ℕ → List (List ℕ × ℤ) → TypeNames → Type 0
HasNames name told names = (names.name.now ≡ name) × AreLabels told names.labels.items

-- the name of a type, and no labels
abbrev pub HasName : List ℕ → TypeNames → Type 0
HasName name = HasNames name []

-- the name of a type, and the same labels as these
abbrev pub HasLabels : List ℕ → List PartName → TypeNames → Type 0
HasLabels name labels = HasNames name (map label_of labels)

-- the name of a sequence or a set, and those of its parts with their places
abbrev pub HasPartNames : List ℕ → List Part → TypeNames → Type 0
HasPartNames name parts = HasNames name (placed_from 0 (map (λ p. p.name.now) parts))

-- the name of a choice, and those of its arms with their places
abbrev pub HasArms : List ℕ → List ChoiceArm → TypeNames → Type 0
HasArms name arms = HasNames name (placed_from 0 (map (λ a. a.name.now) arms))

-- the names of the type at a place
abbrev pub AreNamesAt : List TypeNames → ℕ → TypeNames → Type 0
AreNamesAt all of names =
    (was : TypeNames) × (slice_get all of ≡ Some was) × HasLabels was.name.now was.labels.items names

-- such names stand behind those that were there
pub record AreAdded (old new : List TypeNames) (P : TypeNames → Type 0) : Type 0 where
  pub names : TypeNames
  pub all : new ≡ old ++ names ∷ []
  pub are : P names

-- Such names are put behind the others; or all stay.
abbrev pub PutsNames : {E : Type 0} → Schema → Schema → (TypeNames → Type 0) → Result ℕ E → Type 0
PutsNames old new P (Ok place) = AreAdded old.names.items new.names.items P
PutsNames old new P (Err e) = new.names.items ≡ old.names.items

-- Such names stand behind those that were there, and those of unknown elements right before them, which are empty.
pub record AreAddedOpen (old new : List TypeNames) (P : TypeNames → Type 0) : Type 0 where
  pub unknown : TypeNames
  pub empty : HasName [] unknown
  pub added : AreAdded (old ++ unknown ∷ []) new P

-- These two are put behind the others; or all stay, or the first of them is there.
abbrev pub PutsOpenNames : {E : Type 0} → Schema → Schema → (TypeNames → Type 0) → Result ℕ E → Type 0
PutsOpenNames old new P (Ok place) = AreAddedOpen old.names.items new.names.items P
PutsOpenNames old new P (Err e) = (more : List TypeNames) × (new.names.items ≡ old.names.items ++ more)

-- The last names are those of the type at a place.
pub record AreUnder (old new : List TypeNames) (of : ℕ) : Type 0 where
  pub front : List TypeNames
  pub names : TypeNames
  pub all : new ≡ front ++ names ∷ []
  pub same : AreNamesAt old of names

-- A declared type keeps its name, and has the labels of the type at a place.
pub record AreDefined (old new : List TypeNames) (place of : ℕ) : Type 0 where
  pub declared : TypeNames
  pub was : TypeNames
  pub names : TypeNames
  pub hole : slice_get old place ≡ Some declared
  pub known : slice_get old of ≡ Some was
  pub are : HasLabels declared.name.now was.labels.items names
  pub all : new ≡ slice_set old place names

-- each type has its names beside it
abbrev pub HasNamesBeside : Schema → Type 0
HasNamesBeside schema = length schema.names.items ≡ length schema.nodes.items
