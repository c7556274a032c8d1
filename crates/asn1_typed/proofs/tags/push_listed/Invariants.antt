use Rattle.std.proofs.Common.{◌≡◌, ◌++◌, take}
use Rattle.asn1_typed.specs.Tags.{listed_text}
use Rattle.asn1_typed.proofs.tags.push_listed.Given as goal

-- the tags so far
abbrev pub invariant-loop-tag : goal.invariant-loop-tag
invariant-loop-tag l = l.text.items ≡ l.fn.text.items ++ listed_text (take l.tag-index l.tags)
