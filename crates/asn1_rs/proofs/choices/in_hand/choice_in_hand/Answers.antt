use Rattle.std.proofs.Common.{rules}
use Rattle.asn1_rs.specs.Choices.{ChoiceReads, choice_grammar}
use Rattle.asn1_rs.specs.Choices.Data.{AnswersByDer}
use Rattle.asn1_rs.specs.Laws.Choices.InHand.{choice_in_hand, read_also}
use Rattle.asn1_rs.specs.Laws.Choices.Readers.{choice_reads}
use Rattle.asn1_rs.proofs.choices.in_hand.choice_in_hand.Goals as goal

pub returns : goal.returns
returns g c =
    let arms = g.met.A.ReadsArms c.lifetimes (search rules) in
    let decodes = g.met.A.DecodesArms c.lifetimes (search rules) in
    let grammar = g.A.ReadsArms.read_arms in
    read_also (ChoiceReads grammar.tags g.T.OfArms.as_arms g.A.ReadsArms.arms_give)
    (AnswersByDer (choice_grammar g.T.OfArms.as_arms grammar) grammar.tags)
    (choice_reads g.T.OfArms.as_arms grammar arms.arms_tagged g.A.ReadsArms.arms_give arms.exact_arms
    arms.never_oom_arms arms.other_arms) c.args.any c.arms_in_hand.result
    (choice_in_hand grammar.tags g.T.OfArms.as_arms g.A.ReadsArms.arms_give g.A.DecodesArms.arms_decode
    decodes.decodes_arms c.args.any c.arms_in_hand.result c.arms_in_hand.ensures)
