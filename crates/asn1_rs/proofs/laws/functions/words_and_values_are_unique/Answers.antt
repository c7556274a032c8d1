use Rattle.x690.specs.Laws.Joined.{one_value_of, one_front}
use Rattle.asn1_rs.specs.Laws.Words.{one_strict, strict_apart, ber_one, strict_ber}
use Rattle.asn1_rs.proofs.laws.functions.words_and_values_are_unique.Goals as goal
use Rattle.asn1_rs.specs.Grammar.Item.{ber_words}

pub returns : goal.returns
returns g c = record {
  ber_value = one_value_of (ber_words g.T.Grammar.grammar) (ber_one g.T.Grammar.grammar g.met.T.LawfulItem.lawful_item);
  der_value = one_value_of g.T.Grammar.grammar.Der g.met.T.LawfulItem.lawful_item.der_one;
  ber_front = one_front (ber_words g.T.Grammar.grammar) (ber_one g.T.Grammar.grammar g.met.T.LawfulItem.lawful_item);
  der_front = one_front g.T.Grammar.grammar.Der g.met.T.LawfulItem.lawful_item.der_one;
  ber_some = (ber_one g.T.Grammar.grammar g.met.T.LawfulItem.lawful_item).some;
  der_some = g.met.T.LawfulItem.lawful_item.der_one.some;
  strict_word = λ v o s. (
    (strict_ber g.T.Grammar.grammar g.met.T.LawfulItem.lawful_item) v o s,
    g.met.T.LawfulItem.lawful_item.strict_der v o s,
  );
  strict = one_strict g.T.Grammar.grammar.Form g.met.T.LawfulItem.lawful_item.one_form;
  apart = λ o p r s v w x y e.
      strict_apart g.T.Grammar.grammar.Form g.met.T.LawfulItem.lawful_item.one_value v w o p r s x y e;
}
