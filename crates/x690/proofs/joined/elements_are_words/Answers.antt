use Rattle.x690.specs.Laws.Words.{definite_words, nested_words}
use Rattle.x690.proofs.joined.elements_are_words.Goals as goal

pub returns : goal.returns
returns c = record { definite = definite_words; nested = nested_words }
