use Rattle.std.proofs.Common.{◌≡◌, ◌++◌, length, map}
use Rattle.std.specs.Vec.Iter.{into_iter_items, into_iter_len}
use Rattle.asn1_engine.specs.Documents.{said_of, said_of_block}
use Rattle.asn1_engine.proofs.documents.documents_of.Given as goal

-- the documents so far, and those of the blocks that are left, are those of all
abbrev pub invariant-loop-block : goal.invariant-loop-block
invariant-loop-block l =
    (map said_of l.found.items ++ map (said_of_block l.name) (into_iter_items l.block-iterator) ≡
    map (said_of_block l.name) l.fn.blocks.items) ×
    (into_iter_len l.block-iterator ≡ length (into_iter_items l.block-iterator))
