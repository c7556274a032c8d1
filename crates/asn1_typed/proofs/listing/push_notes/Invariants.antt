use Rattle.std.proofs.Common.{◌≡◌, ◌++◌, take}
use Rattle.asn1_typed.specs.Listing.{note_lines}
use Rattle.asn1_typed.proofs.listing.push_notes.Given as goal

-- the lines so far
abbrev pub invariant-loop-note : goal.invariant-loop-note
invariant-loop-note l = l.text.items ≡ l.fn.text.items ++ note_lines l.sources (take l.note-index l.notes)
