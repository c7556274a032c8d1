-- Which type has a name.
use Rattle.std.specs.Prelude.{ℕ, Bool, true, ◌&&◌, if◌then◌else◌, bytes_eq, List, [], ◌∷◌, ◌++◌, codes, filter, flat_map}
use Rattle.std.specs.Prelude.{Option, Some, None}
use Rattle.std.specs.Borrow.{Bor}
use Rattle.asn1_module.specs.declared.modules.ModuleType.{ModuleType}
use Rattle.asn1_typed.specs.declared.sought.Sought.{Sought}
use Rattle.asn1_typed.specs.declared.sought.Sought.TheVariants as answers
use Rattle.asn1_typed.specs.declared.sought.TypeName.{TypeName}

-- a type is of the module that is named, if one is
abbrev pub is_of_module : Option (Bor (List ℕ)) → ModuleType → Bool
is_of_module None named = true
is_of_module (Some asked) named = bytes_eq asked.now named.module.now

-- a type has a name
abbrev pub bears : TypeName → ModuleType → Bool
bears name named = bytes_eq named.name.now name.name.now && is_of_module name.module named

-- one more type has the name
abbrev pub and_at : Sought → ℕ → Sought
and_at answers.Missing of = answers.At of
and_at (answers.At other) of = answers.Several
and_at answers.Several of = answers.Several

-- the one of these types
abbrev pub the_one : List ModuleType → Sought
the_one [] = answers.Missing
the_one (named ∷ []) = answers.At named.of
the_one (named ∷ other ∷ others) = answers.Several

-- the one of all types that has a name
abbrev pub sought : TypeName → List ModuleType → Sought
sought name types = the_one (filter (bears name) types)

-- its place in the table
abbrev pub place_of : Sought → Option ℕ
place_of (answers.At of) = Some of
place_of answers.Missing = None
place_of answers.Several = None

-- the name of a module, and a point
abbrev pub module_text : Option (Bor (List ℕ)) → List ℕ
module_text None = []
module_text (Some asked) = asked.now ++ codes "."

-- a name as it is spelled
abbrev pub spelled : TypeName → List ℕ
spelled name = module_text name.module ++ name.name.now

-- the name of a type with its module, where it has the name that is asked for
abbrev pub bearer_text : TypeName → ModuleType → List ℕ
bearer_text name named =
    if bears name named then codes " " ++ named.module.now ++ codes "." ++ named.name.now else []

abbrev pub bearers_text : TypeName → List ModuleType → List ℕ
bearers_text name types = flat_map (bearer_text name) types

abbrev pub missing_text : TypeName → List ℕ
missing_text name = codes "no type " ++ spelled name ++ codes " in the modules\n"

abbrev pub several_text : List ModuleType → TypeName → List ℕ
several_text types name = codes "more than one type " ++ spelled name ++ codes ":" ++ bearers_text name types ++ codes "\n"

-- the line that tells that no one type has a name
abbrev pub sought_text : List ModuleType → TypeName → Sought → List ℕ
sought_text types name (answers.At of) = []
sought_text types name answers.Missing = missing_text name
sought_text types name answers.Several = several_text types name
