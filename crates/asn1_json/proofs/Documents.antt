-- The tokens of a document of a value are the tokens of the value.
use Rattle.std.proofs.Common.{◌≡◌, ◌∙◌, ap, sym, refl, ℕ, zero, suc, ℤ, Bool, true, false, List, [], ◌∷◌, ◌++◌, append_assoc, codes, Option, Some, None, nat_lt, if◌then◌else◌}
use Rattle.json.specs.Json.{Json, array, object, Items, item, Members, member, no_members}
use Rattle.json.specs.Token.{Token, begin_object, end_object, begin_array, end_array, key}
use Rattle.json.specs.Tree.{json_tokens, items_tokens, members_tokens}
use Rattle.asn1_schema.specs.declared.names.PartName.{PartName}
use Rattle.asn1_schema.specs.Values.{LeafValue, boolean, null, integer, enumerated, bits, octets, identifier, text, time, any}
use Rattle.asn1_schema.specs.Values.{Value, Values, leaf, row, chosen, none, absent, more}
use Rattle.asn1_json.specs.Leaves.{leaf_tokens, listed_token, name_of}
use Rattle.asn1_json.specs.Types.{resolved, labels_at}
use Rattle.asn1_json.specs.Tokens.{Types, tokens_of, tokens_of_items, tokens_of_fields, row_tokens}
use Rattle.asn1_json.specs.Tokens.{name_of_arm, name_of_field, type_of_arm, type_of_field, type_of_members, type_of_unknown, count_of_fields}
use Rattle.asn1_json.specs.Trees.{tree_of, items_of, members_of, leaf_tree, listed_tree, row_tree}

listed_tokens : (name : List ℕ) (n : ℤ) → json_tokens (listed_tree name n) ≡ listed_token name n ∷ []
listed_tokens [] n = refl
listed_tokens (c ∷ cs) n = refl

leaf_is : (labels : List PartName) (l : LeafValue) → json_tokens (leaf_tree labels l) ≡ leaf_tokens labels l
leaf_is labels (boolean b) = refl
leaf_is labels null = refl
leaf_is labels (integer n) = refl
leaf_is labels (enumerated n) = listed_tokens (name_of labels n) n
leaf_is labels (bits bs) = refl
leaf_is labels (octets o) = refl
leaf_is labels (identifier relative o) = refl
leaf_is labels (text kind o) = refl
leaf_is labels (time kind o) = refl
leaf_is labels (any id o) = refl

row_is : (of : Option ℕ) (items : Option ℕ → Items) (shown : Option ℕ → List Token) (ms : Members) (inner : List Token) →
    ((t : Option ℕ) → items_tokens (items t) ≡ shown t ++ end_array ∷ []) →
    members_tokens ms ≡ inner ++ end_object ∷ [] →
    json_tokens (row_tree of items ms) ≡ row_tokens of shown inner
row_is None items shown ms inner list members = ap (λ (ts : List Token). begin_object ∷ ts) members
row_is (Some t) items shown ms inner list members = ap (λ (ts : List Token). begin_array ∷ ts) (list (Some t))

-- a field more, or the unknown elements
field_is : (here : Bool) (name : List ℕ) (j k : Json) (js : Items) (ms : Members) (own others first rest : List Token) →
    json_tokens j ≡ own → members_tokens ms ≡ others ++ end_object ∷ [] →
    json_tokens k ≡ first → items_tokens js ≡ rest ++ end_array ∷ [] →
    members_tokens (if here then member name j ms else member (codes "...") (array (item k js)) no_members) ≡
    (if here then key name ∷ (own ++ others)
    else key (codes "...") ∷ begin_array ∷ ((first ++ rest) ++ end_array ∷ [])) ++ end_object ∷ []
field_is true name j k js ms own others first rest a b c d =
    ap (λ (ts : List Token). key name ∷ (ts ++ members_tokens ms)) a
    ∙ ap (λ (ts : List Token). key name ∷ (own ++ ts)) b
    ∙ ap (λ (ts : List Token). key name ∷ ts) (sym (append_assoc own others (end_object ∷ [])))
field_is false name j k js ms own others first rest a b c d =
    ap (λ (ts : List Token). key (codes "...") ∷ (begin_array ∷ ts) ++ end_object ∷ [])
    (ap (λ (ts : List Token). ts ++ items_tokens js) c ∙ ap (λ (ts : List Token). first ++ ts) d
    ∙ sym (append_assoc first rest (end_array ∷ [])))

mutual
  pub tree_tokens : (types : Types) (of : Option ℕ) (v : Value) → json_tokens (tree_of types of v) ≡ tokens_of types of v
  tree_tokens types of (leaf l) = leaf_is (labels_at types.names (resolved types.table of)) l
  tree_tokens types of (row vs) =
      row_is (type_of_members types (resolved types.table of)) (λ t. items_of types t vs) (λ t. tokens_of_items types t vs)
      (members_of types (resolved types.table of) zero vs) (tokens_of_fields types (resolved types.table of) zero vs)
      (λ t. items_are types t vs) (members_are types (resolved types.table of) zero vs)
  tree_tokens types of (chosen arm v) =
      ap (λ (ts : List Token). begin_object ∷ key (name_of_arm types (resolved types.table of) arm) ∷ (ts ++ end_object ∷ []))
      (tree_tokens types (type_of_arm types (resolved types.table of) arm) v)

  items_are : (types : Types) (of : Option ℕ) (vs : Values) →
      items_tokens (items_of types of vs) ≡ tokens_of_items types of vs ++ end_array ∷ []
  items_are types of none = refl
  items_are types of (absent vs) = items_are types of vs
  items_are types of (more v vs) =
      ap (λ (ts : List Token). ts ++ items_tokens (items_of types of vs)) (tree_tokens types of v)
      ∙ ap (λ (ts : List Token). tokens_of types of v ++ ts) (items_are types of vs)
      ∙ sym (append_assoc (tokens_of types of v) (tokens_of_items types of vs) (end_array ∷ []))

  members_are : (types : Types) (at : Option ℕ) (place : ℕ) (vs : Values) →
      members_tokens (members_of types at place vs) ≡ tokens_of_fields types at place vs ++ end_object ∷ []
  members_are types at place none = refl
  members_are types at place (absent vs) = members_are types at (suc place) vs
  members_are types at place (more v vs) =
      field_is (nat_lt place (count_of_fields types at)) (name_of_field types at place)
      (tree_of types (type_of_field types at place) v) (tree_of types (type_of_unknown types at) v)
      (items_of types (type_of_unknown types at) vs) (members_of types at (suc place) vs)
      (tokens_of types (type_of_field types at place) v) (tokens_of_fields types at (suc place) vs)
      (tokens_of types (type_of_unknown types at) v) (tokens_of_items types (type_of_unknown types at) vs)
      (tree_tokens types (type_of_field types at place) v) (members_are types at (suc place) vs)
      (tree_tokens types (type_of_unknown types at) v) (items_are types (type_of_unknown types at) vs)
