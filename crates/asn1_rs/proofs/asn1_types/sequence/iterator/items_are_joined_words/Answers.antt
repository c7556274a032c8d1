use Rattle.std.proofs.Common.{rules}
use Rattle.asn1_rs.proofs.JoinedItems.{all_joined, alone_joined, none_joined}
use Rattle.asn1_rs.proofs.asn1_types.sequence.iterator.items_are_joined_words.Goals as goal

pub returns-clause-joined : goal.returns-clause-joined
returns-clause-joined g c =
    all_joined g.F.ReadsItems.item_gives g.E.From.from_gives g.F.ReadsWords.Words g.F.ReadsWords.value
    g.F.ReadsWords.allocates g.F.ReadsWords.IsTruncated (g.met.F.ReadsWords c.lifetimes (search rules)).exact

pub returns-clause-alone : goal.returns-clause-alone
returns-clause-alone g c =
    alone_joined g.F.ReadsItems.item_gives g.E.From.from_gives g.F.ReadsWords.Words g.F.ReadsWords.value
    g.F.ReadsWords.allocates g.F.ReadsWords.IsTruncated (g.met.F.ReadsWords c.lifetimes (search rules)).exact

pub returns-clause-refused : goal.returns-clause-refused
returns-clause-refused g c =
    none_joined g.F.ReadsItems.item_gives g.E.From.from_gives g.F.ReadsWords.Words g.F.ReadsWords.value
    g.F.ReadsWords.allocates g.F.ReadsWords.IsTruncated (g.met.F.ReadsWords c.lifetimes (search rules)).exact
