-- In what two answers to one line may differ. One of them may tell that memory was refused. A buffer of the engine that
-- cannot grow ends the run, and no answer tells it.
use Rattle.std.specs.Prelude.{◌≡◌, ℕ, List, ◌++◌, codes, true, false, ◌⊎◌}
use Rattle.asn1vec_answers.specs.declared.request.Rule.{Rule}
use Rattle.asn1vec_answers.specs.declared.types.TypeName.{TypeName}
use Rattle.asn1vec_answers.specs.Request.{IsRequest}
use Rattle.asn1vec_answers.specs.Meaning.{Meaning}
use Rattle.asn1vec_answers.specs.Types.{name_allocates, meaning_of, Names}

-- The text tells that memory was refused where the other text goes on. This is in reading, or in writing behind the
-- same value and rest.
abbrev pub TellsRefusedMemory : Meaning → List ℕ → List ℕ → Type 0
TellsRefusedMemory m text other =
    ((m.reading_allocates ≡ true) × (text ≡ codes "err OutOfMemory")) ⊎
    ((m.writing_allocates ≡ true) × ((front rest : List ℕ) ×
    (text ≡ front ++ codes " enc err OutOfMemory") × (other ≡ front ++ (codes " enc " ++ rest))))

-- one of them does
abbrev pub DifferByMemory : Meaning → List ℕ → List ℕ → Type 0
DifferByMemory m text other = TellsRefusedMemory m text other ⊎ TellsRefusedMemory m other text

-- the line asks for a value of the type
abbrev pub AsksFor : List ℕ → TypeName → Type 0
AsksFor line t = (rule : Rule) × ((name octets : List ℕ) × IsRequest line rule name octets × Names rule name t)

-- the answers are the same except when out of memory, as far as the type allocates
abbrev pub AreAlike : List ℕ → List ℕ → List ℕ → Type 0
AreAlike line text other =
    (text ≡ other) ⊎ ((t : TypeName) × AsksFor line t × DifferByMemory (meaning_of t) text other)

-- no type that the line asks for allocates
abbrev pub TakesNoMemory : List ℕ → Type 0
TakesNoMemory line =
    (t : TypeName) → AsksFor line t →
    ((meaning_of t).reading_allocates ≡ false) × ((meaning_of t).writing_allocates ≡ false)

-- it asks for none whose name allocates
abbrev pub AsksForNoneThatAllocates : List ℕ → Type 0
AsksForNoneThatAllocates line = (t : TypeName) → AsksFor line t → name_allocates t ≡ false
