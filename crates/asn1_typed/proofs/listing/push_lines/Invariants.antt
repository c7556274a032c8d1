use Rattle.std.proofs.Common.{◌≡◌, ◌++◌, take}
use Rattle.asn1_typed.specs.Listing.{type_lines}
use Rattle.asn1_typed.proofs.listing.push_lines.Given as goal

-- the lines so far
abbrev pub invariant-loop-named : goal.invariant-loop-named
invariant-loop-named l = l.text.items ≡ l.fn.text.items ++
    type_lines l.schema.nodes.items l.schema.names.items (take l.named-index l.types)
