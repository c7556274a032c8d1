-- Common object identifiers and their names.
use Rattle.std.specs.Prelude.{ℕ, ◌≡◌, List, [], ◌∷◌, ◌++◌, Option, Some, None, nat_eq, if◌then◌else◌, map}
use Rattle.std.specs.Borrow.{Bor}
use Rattle.std.specs.Str.{bytes_eq}
use Rattle.asn1_names.specs.declared.tables.TheConstants.{TABLES}

-- the name of the last arc below 128, in a table of these
abbrev pub named : List (ℕ × List ℕ) → ℕ → Option (List ℕ)
named [] last = None
named (row ∷ rows) last = if nat_eq last row.0 then Some row.1 else named rows last

-- the name of what stands below the arc with these contents octets, in a table for each arc
abbrev pub name_in : List (List ℕ × List (ℕ × List ℕ)) → List ℕ → ℕ → Option (List ℕ)
name_in [] front last = None
name_in (row ∷ rows) front last = if bytes_eq front row.0 then named row.1 last else name_in rows front last

-- tables as functions take them
abbrev pub plain_rows : List (ℕ × Bor (List ℕ)) → List (ℕ × List ℕ)
plain_rows rows = map (λ row. (row.0, row.1.now)) rows

abbrev pub plain_table : List (Bor (List ℕ) × Bor (List (ℕ × Bor (List ℕ)))) → List (List ℕ × List (ℕ × List ℕ))
plain_table rows = map (λ row. (row.0.now, plain_rows row.1.now)) rows

-- the tables of src/tables.rt
abbrev pub tables : List (List ℕ × List (ℕ × List ℕ))
tables = map (λ row. (row.0.now, map (λ name. (name.0, name.1.now)) row.1.now)) TABLES

-- the name of what stands below the arc with these contents octets
unfoldable pub name_under : List ℕ → ℕ → Option (List ℕ)
name_under front last = name_in tables front last

-- the contents octets are those of the identifier of this name (X.690 8.19)
abbrev pub IsNameOf : List ℕ → List ℕ → Type 0
IsNameOf content name =
    (front : List ℕ) × (last : ℕ) × (content ≡ front ++ last ∷ []) × (name_under front last ≡ Some name)
