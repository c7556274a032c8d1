use Rattle.std.proofs.Common.{arith, rules}
use Rattle.std.specs.Prelude.{length}
use Rattle.asn1_headers.specs.Ber.{EndsWithin}
use Rattle.asn1_rs.specs.Grammar.Item.{ber_words}
use Rattle.asn1_rs.specs.Laws.Words.{ber_one}
use Rattle.asn1_rs.specs.Laws.Whole.{whole_exact}
use Rattle.asn1_rs_places.proofs.Alone.{refusal_told, exactly_told}
use Rattle.asn1_rs_places.proofs.calls.place_by_ber_whole.Goals as goal

pub returns-clause-refusal : goal.returns-clause-refusal
returns-clause-refusal g c =
    refusal_told g.T.FromBer.ber_gives c.args.octets.now g.L.LooksInto.silent g.L.LooksInto.tells
    (length c.args.octets.now) c.place_of_one.result c.place_of_one.ensures

pub returns-clause-exact : goal.returns-clause-exact
returns-clause-exact g c =
    exactly_told g.T.FromBer.ber_gives c.args.octets.now (ber_words g.T.Grammar.grammar) g.T.Grammar.grammar.value
    g.T.Grammar.grammar.allocates
    (whole_exact EndsWithin (ber_words g.T.Grammar.grammar) g.T.Grammar.grammar.value g.T.Grammar.grammar.allocates
    (ber_one g.T.Grammar.grammar g.met.T.LawfulItem.lawful_item) g.T.FromBer.ber_gives c.args.octets.now
    (λ answer given. (g.met.T.LawfulBer c.lifetimes (search rules)).ber_exact c.args.octets.now answer
    (λ k. omega (arith, c.type_inv.octets k)) given))
    c.place_of_one.result (returns-clause-refusal g c)
