use Rattle.std.proofs.Common.{sym, ◌∙◌}
use Rattle.x690.specs.Laws.Joined.{words_compared, as_many_words, last_words, no_front_of_nothing}
use Rattle.x690.proofs.joined.joinings_split_in_one_way.Goals as goal

pub returns-clause-whole : goal.returns-clause-whole
returns-clause-whole g c = λ input ws xs vs us a b.
    let one = g.G.Words.one in
    let none = no_front_of_nothing g.G.Words.Word one in
    let t = last_words g.G.Words.Word one ws xs vs us _ _ a.each b.each (sym a.is ∙ b.is) none none in
    (t.0, t.1)

pub returns-clause-as_many : goal.returns-clause-as_many
returns-clause-as_many g c = λ input r s ws xs vs us a b l.
    as_many_words g.G.Words.Word g.G.Words.one ws xs vs us r s a.each b.each (sym a.is ∙ b.is) l

pub returns-clause-all : goal.returns-clause-all
returns-clause-all g c = λ input r s ws xs vs us a n b m.
    last_words g.G.Words.Word g.G.Words.one ws xs vs us r s a.each b.each (sym a.is ∙ b.is) n m

pub returns-clause-more : goal.returns-clause-more
returns-clause-more g c = λ input r s ws xs vs us a b l.
    words_compared g.G.Words.Word g.G.Words.one ws xs vs us r s a.each b.each (sym a.is ∙ b.is) l
