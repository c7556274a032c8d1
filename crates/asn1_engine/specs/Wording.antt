-- The words of each requirement, as they stand in src/wording.rt: the section of X.690, what is wrong, and what would be
-- right.
use Rattle.std.specs.Prelude.{ℕ, List}
use Rattle.asn1_strict.specs.declared.requirement.Requirement.{Requirement}
use Rattle.asn1_strict.specs.declared.requirement.Requirement.TheVariants as requirements
use Rattle.asn1_engine.specs.declared.wording.TheConstants.{WHOLE, IDENTIFIER, SHORTEST_IDENTIFIER, LENGTH, SHORTEST_LENGTH}
use Rattle.asn1_engine.specs.declared.wording.TheConstants.{DEFINITE_LENGTH, TYPED_TAG, FORM, BOOLEAN, SHORTEST_INTEGER}
use Rattle.asn1_engine.specs.declared.wording.TheConstants.{UNUSED_BITS, NULL, SHORTEST_ARCS, CHARACTERS, SET_ORDER}
use Rattle.asn1_engine.specs.declared.wording.TheConstants.{UTC_TIME, GENERALIZED_TIME, NOTHING_BEHIND}

-- a text of a constant
abbrev Text : Type 0
Text = record { now : List ℕ }

abbrev said : Text × Text × Text → List ℕ × List ℕ × List ℕ
said words = (words.0.now, words.1.now, words.2.now)

abbrev pub words_of : Requirement → List ℕ × List ℕ × List ℕ
words_of requirements.Whole = said WHOLE
words_of requirements.Identifier = said IDENTIFIER
words_of requirements.ShortestIdentifier = said SHORTEST_IDENTIFIER
words_of requirements.Length = said LENGTH
words_of requirements.ShortestLength = said SHORTEST_LENGTH
words_of requirements.DefiniteLength = said DEFINITE_LENGTH
words_of requirements.TypedTag = said TYPED_TAG
words_of requirements.Form = said FORM
words_of requirements.Boolean = said BOOLEAN
words_of requirements.ShortestInteger = said SHORTEST_INTEGER
words_of requirements.UnusedBits = said UNUSED_BITS
words_of requirements.Null = said NULL
words_of requirements.ShortestArcs = said SHORTEST_ARCS
words_of requirements.Characters = said CHARACTERS
words_of requirements.SetOrder = said SET_ORDER
words_of requirements.UtcTime = said UTC_TIME
words_of requirements.GeneralizedTime = said GENERALIZED_TIME
words_of requirements.NothingBehind = said NOTHING_BEHIND
