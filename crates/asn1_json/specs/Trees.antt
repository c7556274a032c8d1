-- Values as documents of JSON (ITU-T X.697): the trees whose tokens `tokens_of` has.
use Rattle.std.specs.Prelude.{ℕ, zero, suc, ℤ, List, [], ◌∷◌, length, codes, Option, Some, None, nat_lt, if◌then◌else◌, encode_utf8_all}
use Rattle.hex.specs.Hex.{encode_lower}
use Rattle.json.specs.Json.{Json, array, object, string, number, Items, no_items, item, Members, no_members, member}
use Rattle.json.specs.Json as json
use Rattle.asn1_words.specs.Words.{number_text, integer_text}
use Rattle.asn1_schema.specs.declared.names.PartName.{PartName}
use Rattle.asn1_schema.specs.Values.{LeafValue, boolean, null, integer, enumerated, bits, octets, identifier, text}
use Rattle.asn1_schema.specs.Values.{time, any}
use Rattle.asn1_schema.specs.Values.{Value, Values, leaf, row, chosen, none, absent, more}
use Rattle.asn1_json.specs.Texts.{text_of}
use Rattle.asn1_json.specs.Leaves.{name_of, octets_of_bits, arcs_or_hexadecimal, element_text}
use Rattle.asn1_json.specs.Types.{resolved, labels_at}
use Rattle.asn1_json.specs.Tokens.{Types, name_of_arm, name_of_field, type_of_arm, type_of_field, type_of_members, type_of_unknown, count_of_fields}

-- a name, or the number where there is none
abbrev pub listed_tree : List ℕ → ℤ → Json
listed_tree [] n = number (integer_text n)
listed_tree (c ∷ cs) n = string (c ∷ cs)

-- the document of a value without parts
abbrev pub leaf_tree : List PartName → LeafValue → Json
leaf_tree labels (boolean b) = json.boolean b
leaf_tree labels null = json.null
leaf_tree labels (integer n) = number (integer_text n)
leaf_tree labels (enumerated n) = listed_tree (name_of labels n) n
leaf_tree labels (bits bs) =
    object (member (codes "value") (string (encode_lower (octets_of_bits bs)))
    (member (codes "length") (number (number_text (length bs))) no_members))
leaf_tree labels (octets o) = string (encode_lower o)
leaf_tree labels (identifier relative o) = string (arcs_or_hexadecimal relative o)
leaf_tree labels (text kind o) = string (text_of kind o)
leaf_tree labels (time kind o) = string (encode_utf8_all o)
leaf_tree labels (any id o) = string (element_text id o)

-- a row of members, where it is known that they are members of a list
abbrev pub row_tree : (of : Option ℕ) → (Option ℕ → Items) → Members → Json
row_tree None items ms = object ms
row_tree (Some t) items ms = array (items (Some t))

-- the document of a value of the type at a place, if one is given
abbrev mutual
  pub tree_of : Types → Option ℕ → Value → Json
  tree_of types of (leaf l) = leaf_tree (labels_at types.names (resolved types.table of)) l
  tree_of types of (row vs) =
      row_tree (type_of_members types (resolved types.table of)) (λ t. items_of types t vs)
      (members_of types (resolved types.table of) zero vs)
  tree_of types of (chosen arm v) =
      object (member (name_of_arm types (resolved types.table of) arm)
      (tree_of types (type_of_arm types (resolved types.table of) arm) v) no_members)

  -- the members of a list
  pub items_of : Types → Option ℕ → Values → Items
  items_of types of none = no_items
  items_of types of (absent vs) = items_of types of vs
  items_of types of (more v vs) = item (tree_of types of v) (items_of types of vs)

  -- the fields from a place on, and unknown elements behind them
  pub members_of : Types → Option ℕ → ℕ → Values → Members
  members_of types at place none = no_members
  members_of types at place (absent vs) = members_of types at (suc place) vs
  members_of types at place (more v vs) =
      if nat_lt place (count_of_fields types at)
      then member (name_of_field types at place) (tree_of types (type_of_field types at place) v)
      (members_of types at (suc place) vs)
      else member (codes "...")
      (array (item (tree_of types (type_of_unknown types at) v) (items_of types (type_of_unknown types at) vs)))
      no_members
