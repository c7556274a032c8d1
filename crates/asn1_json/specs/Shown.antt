-- Texts of JSON.
use Rattle.std.specs.Prelude.{ℕ, Bool, List, if◌then◌else◌}
use Rattle.json.specs.Token.{Token}
use Rattle.json.specs.Print.{print}
use Rattle.json.specs.Layout.{pretty}
use Rattle.asn1_schema.specs.declared.build.Schema.{Schema}
use Rattle.asn1_json.specs.Tokens.{Types}

-- on one line, or with a line for each member
abbrev pub layout : Bool → List Token → List ℕ
layout with_lines tokens = if with_lines then pretty tokens else print tokens

abbrev pub of_schema : Schema → Types
of_schema schema = record { table = schema.nodes.items; names = schema.names.items }
