use Rattle.std.proofs.Common.{refl}
use Rattle.std.specs.List.{concat}
use Rattle.x690.specs.Laws.Joined.{joined_words, joined_from_words, words_joined, joined_same, ends_unjoined}
use Rattle.x690.proofs.joined.joined_octets_are_words.Goals as goal

pub returns-clause-words : goal.returns-clause-words
returns-clause-words g c = joined_words g.G.Words.Word

pub returns-clause-joined : goal.returns-clause-joined
returns-clause-joined g c = joined_from_words g.G.Words.Word

pub returns-clause-values : goal.returns-clause-values
returns-clause-values g c = λ octets vs us i j. joined_same g.G.Words.Word g.G.Words.one octets octets vs us refl i j

pub returns-clause-left : goal.returns-clause-left
returns-clause-left g c = λ input rest ws vs us a n none j.
    ends_unjoined g.G.Words.Word g.G.Words.one input (concat ws) rest vs us a.is n none
    (words_joined g.G.Words.Word ws vs (concat ws) a.each refl) j
