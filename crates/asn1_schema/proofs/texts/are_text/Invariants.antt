use Rattle.std.proofs.Common.{length}
use Rattle.asn1_schema.specs.Grammar.{IsText}
use Rattle.asn1_schema.specs.Joined.{said}
use Rattle.asn1_schema.proofs.texts.are_text.Given as goal

abbrev pub invariant-loop-source : goal.invariant-loop-source
invariant-loop-source l = record {
  less : IsText l.kind (said l.fn.source) → IsText l.kind (said l.source);
  more : IsText l.kind (said l.source) → IsText l.kind (said l.fn.source);
}

abbrev pub decreases-loop-source : goal.decreases-loop-source
decreases-loop-source l = length (said l.source)
