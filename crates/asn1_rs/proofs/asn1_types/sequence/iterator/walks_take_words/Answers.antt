use Rattle.std.proofs.Common.{rules}
use Rattle.asn1_rs.specs.Sequence.Iterator.{octets_left}
use Rattle.x690.specs.Octets.{IsOctets}
use Rattle.asn1_rs.specs.Laws.Sequence.Iterator.{octets_kept, lawful_walk, whole_walk, octets_walked, run_walked}
use Rattle.asn1_rs.proofs.JoinedItems.{walk_no_memory, run_no_memory}
use Rattle.asn1_rs.proofs.asn1_types.sequence.iterator.walks_take_words.Goals as goal

pub returns-clause-calls : goal.returns-clause-calls
returns-clause-calls g c = λ s t answers o y.
    lawful_walk _ g.E.From.from_gives g.F.ReadsWords.Words g.F.ReadsWords.value g.F.ReadsWords.allocates
    g.F.ReadsWords.IsTruncated (g.met.F.ReadsWords c.lifetimes (search rules)).exact.one_word IsOctets octets_kept
    (g.met.F.ReadsWords c.lifetimes (search rules)).exact.takes answers (octets_left s) (octets_left t) o
    (octets_walked g.F.ReadsItems.item_gives g.E.From.from_gives s t answers y)

pub returns-clause-whole : goal.returns-clause-whole
returns-clause-whole g c = λ s t answers o j y.
    whole_walk _ g.E.From.from_gives g.F.ReadsWords.Words g.F.ReadsWords.value g.F.ReadsWords.allocates
    g.F.ReadsWords.IsTruncated (g.met.F.ReadsWords c.lifetimes (search rules)).exact.one_word IsOctets octets_kept
    (g.met.F.ReadsWords c.lifetimes (search rules)).exact.takes answers (octets_left s) (octets_left t) o j
    (octets_walked g.F.ReadsItems.item_gives g.E.From.from_gives s t answers y)

pub returns-clause-run : goal.returns-clause-run
returns-clause-run g c = λ p o.
    run_walked g.F.ReadsItems.item_gives g.E.From.from_gives g.F.ReadsWords.Words g.F.ReadsWords.value _ p
    (λ left. lawful_walk _ g.E.From.from_gives g.F.ReadsWords.Words g.F.ReadsWords.value g.F.ReadsWords.allocates
    g.F.ReadsWords.IsTruncated (g.met.F.ReadsWords c.lifetimes (search rules)).exact.one_word IsOctets octets_kept
    (g.met.F.ReadsWords c.lifetimes (search rules)).exact.takes p.items (octets_left p.from) left o)

pub returns-clause-whole_run : goal.returns-clause-whole_run
returns-clause-whole_run g c = λ p o j.
    run_walked g.F.ReadsItems.item_gives g.E.From.from_gives g.F.ReadsWords.Words g.F.ReadsWords.value _ p
    (λ left. whole_walk _ g.E.From.from_gives g.F.ReadsWords.Words g.F.ReadsWords.value g.F.ReadsWords.allocates
    g.F.ReadsWords.IsTruncated (g.met.F.ReadsWords c.lifetimes (search rules)).exact.one_word IsOctets octets_kept
    (g.met.F.ReadsWords c.lifetimes (search rules)).exact.takes p.items (octets_left p.from) left o j)

pub returns-clause-asks_no_memory : goal.returns-clause-asks_no_memory
returns-clause-asks_no_memory g c = λ s t answers none y.
    walk_no_memory g.F.ReadsItems.item_gives g.E.From.from_gives
    ((g.met.F.ReadsWords c.lifetimes (search rules)).asks_no_memory none) answers (octets_left s) (octets_left t)
    (octets_walked g.F.ReadsItems.item_gives g.E.From.from_gives s t answers y)

pub returns-clause-no_memory_run : goal.returns-clause-no_memory_run
returns-clause-no_memory_run g c = λ p none. run_no_memory g.F.ReadsItems.item_gives g.E.From.from_gives
    ((g.met.F.ReadsWords c.lifetimes (search rules)).asks_no_memory none) p
