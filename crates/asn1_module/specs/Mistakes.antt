-- Where mistakes stand.
use Rattle.std.specs.Prelude.{ℕ, Bool, not, ◌==◌, List, length, ◌≤◌, ◌≡◌, slice_get, Some}
use Rattle.std.specs.Borrow.{Bor}
use Rattle.asn1_module.specs.declared.mistake.ModuleError.{ModuleError}
use Rattle.asn1_module.specs.declared.mistake.ModuleError.TheVariants.{OutOfMemory, Mistake}

-- a mistake stands within its text, or at its end
abbrev pub StandsWithin : List (Bor (List ℕ)) → ModuleError → Type 0
StandsWithin texts OutOfMemory = Unit {0}
StandsWithin texts (Mistake m) = (text : Bor (List ℕ)) → slice_get texts m.place.text ≡ Some text → m.place.octet ≤ length text.now

-- an octet ends a line
abbrev pub is_line_feed : ℕ → Bool
is_line_feed octet = octet == 10

-- an octet ends no line
abbrev pub is_in_line : ℕ → Bool
is_in_line octet = not (octet == 10)
