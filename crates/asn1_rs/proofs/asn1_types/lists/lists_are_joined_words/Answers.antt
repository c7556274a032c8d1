use Rattle.std.proofs.Common.{rules}
use Rattle.asn1_rs.proofs.JoinedItems.{element_taken, element_not_taken}
use Rattle.asn1_rs.specs.Laws.Lists.{number_checks, constructed_checks}
use Rattle.asn1_rs.proofs.asn1_types.lists.lists_are_joined_words.Goals as goal

pub returns-clause-taken : goal.returns-clause-taken
returns-clause-taken g c = λ number p list o y. element_taken g.F.ReadsItems.item_gives g.E.From.from_gives
    g.F.ReadsWords.Words g.F.ReadsWords.value g.F.ReadsWords.allocates g.F.ReadsWords.IsTruncated
    (g.met.F.ReadsWords c.lifetimes (search rules)).exact (constructed_checks number) g.L.FromItems.holds p o list y

pub returns-clause-not_taken : goal.returns-clause-not_taken
returns-clause-not_taken g c = λ number p e o y. element_not_taken g.F.ReadsItems.item_gives g.E.From.from_gives
    g.F.ReadsWords.Words g.F.ReadsWords.value g.F.ReadsWords.allocates g.F.ReadsWords.IsTruncated
    (g.met.F.ReadsWords c.lifetimes (search rules)).exact (constructed_checks number) g.L.FromItems.holds p o e y

pub returns-clause-read : goal.returns-clause-read
returns-clause-read g c = λ number p list o y. element_taken g.F.ReadsItems.item_gives g.E.From.from_gives
    g.F.ReadsWords.Words g.F.ReadsWords.value g.F.ReadsWords.allocates g.F.ReadsWords.IsTruncated
    (g.met.F.ReadsWords c.lifetimes (search rules)).exact (number_checks number) g.L.FromItems.holds p o list y

pub returns-clause-not_read : goal.returns-clause-not_read
returns-clause-not_read g c = λ number p e o y. element_not_taken g.F.ReadsItems.item_gives g.E.From.from_gives
    g.F.ReadsWords.Words g.F.ReadsWords.value g.F.ReadsWords.allocates g.F.ReadsWords.IsTruncated
    (g.met.F.ReadsWords c.lifetimes (search rules)).exact (number_checks number) g.L.FromItems.holds p o e y
