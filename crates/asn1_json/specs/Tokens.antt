-- Values as tokens of JSON (ITU-T X.697).
use Rattle.std.specs.Prelude.{ℕ, zero, suc, List, [], ◌∷◌, ◌++◌, length, codes, Option, Some, None, slice_get, nat_lt}
use Rattle.std.specs.Prelude.{option_map, option_and_then, if◌then◌else◌}
use Rattle.json.specs.Token.{Token, begin_object, end_object, begin_array, end_array, key}
use Rattle.asn1_schema.specs.declared.schema.Node.{Node}
use Rattle.asn1_schema.specs.declared.names.TypeNames.{TypeNames}
use Rattle.asn1_schema.specs.Values.{Value, Values, leaf, row, chosen, none, absent, more}
use Rattle.asn1_json.specs.declared.types.Types.{Types as Given}
use Rattle.asn1_json.specs.Leaves.{leaf_tokens}
use Rattle.asn1_json.specs.Types.{kind_at, resolved, labels_at, member_type, fields_of, unknown_type, arms_of, field_name, arm_name}

-- A table, and the names beside it.
pub record Types : Type 0 where
  pub table : List Node
  pub names : List TypeNames

abbrev pub given_types : Given → Types
given_types given = record { table = given.table.now; names = given.names.now }

-- the type of a value of an arm
abbrev pub type_of_arm : Types → Option ℕ → ℕ → Option ℕ
type_of_arm types at arm = slice_get (arms_of (kind_at types.table at)) arm

abbrev pub name_of_arm : Types → Option ℕ → ℕ → List ℕ
name_of_arm types at arm =
    arm_name (labels_at types.names at) arm (kind_at types.table (type_of_arm types at arm))

-- the type and the name of a field
abbrev pub type_of_field : Types → Option ℕ → ℕ → Option ℕ
type_of_field types at place = option_map (λ field. field.of) (slice_get (fields_of (kind_at types.table at)) place)

abbrev pub name_of_field : Types → Option ℕ → ℕ → List ℕ
name_of_field types at place = field_name (labels_at types.names at) place

abbrev pub count_of_fields : Types → Option ℕ → ℕ
count_of_fields types at = length (fields_of (kind_at types.table at))

abbrev pub type_of_unknown : Types → Option ℕ → Option ℕ
type_of_unknown types at = option_and_then unknown_type (kind_at types.table at)

abbrev pub type_of_members : Types → Option ℕ → Option ℕ
type_of_members types at = option_and_then member_type (kind_at types.table at)

-- the tokens of an object, and of an array
abbrev pub object : List Token → List Token
object inner = begin_object ∷ (inner ++ end_object ∷ [])

abbrev pub array : List Token → List Token
array inner = begin_array ∷ (inner ++ end_array ∷ [])

-- a row of members, where it is known that they are members of a list
abbrev pub row_tokens : (of : Option ℕ) → (Option ℕ → List Token) → List Token → List Token
row_tokens None items members = object members
row_tokens (Some t) items members = array (items (Some t))

-- The tokens of a value of the type at a place, if one is given. Where the type does not fit the value, fields and arms
-- are named by their places.
abbrev mutual
  pub tokens_of : Types → Option ℕ → Value → List Token
  tokens_of types of (leaf l) = leaf_tokens (labels_at types.names (resolved types.table of)) l
  tokens_of types of (row vs) =
      row_tokens (type_of_members types (resolved types.table of)) (λ t. tokens_of_items types t vs)
      (tokens_of_fields types (resolved types.table of) zero vs)
  tokens_of types of (chosen arm v) =
      object (key (name_of_arm types (resolved types.table of) arm) ∷
      tokens_of types (type_of_arm types (resolved types.table of) arm) v)

  -- the members of a list
  pub tokens_of_items : Types → Option ℕ → Values → List Token
  tokens_of_items types of none = []
  tokens_of_items types of (absent vs) = tokens_of_items types of vs
  tokens_of_items types of (more v vs) = tokens_of types of v ++ tokens_of_items types of vs

  -- The fields from a place on, each behind its name; those that are left out have no tokens. What follows them are
  -- unknown elements, in an array.
  pub tokens_of_fields : Types → Option ℕ → ℕ → Values → List Token
  tokens_of_fields types at place none = []
  tokens_of_fields types at place (absent vs) = tokens_of_fields types at (suc place) vs
  tokens_of_fields types at place (more v vs) =
      if nat_lt place (count_of_fields types at)
      then key (name_of_field types at place) ∷
      (tokens_of types (type_of_field types at place) v ++ tokens_of_fields types at (suc place) vs)
      else key (codes "...") ∷
      array (tokens_of types (type_of_unknown types at) v ++ tokens_of_items types (type_of_unknown types at) vs)
