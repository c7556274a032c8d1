-- What a choice before other arms says, with its laws in the same record.
use Rattle.std.specs.Prelude.{◌&&◌}
use Rattle.asn1_rs.specs.Choices.{ChosenArm}
use Rattle.asn1_rs.specs.Choices.Data.{LawfulArmsOf, LawfulChoiceOf, grammar_of_choice}
use Rattle.asn1_rs.specs.Laws.Choices.{choice_lawful}
use Rattle.asn1_rs.specs.Laws.Structs.Rows.{first_holds, second_holds}
use Rattle.asn1_rs.specs.declared.choices.nested.OrChoice.{OrChoice}
use Rattle.asn1_rs.specs.Choices.Nested.{no_tag_in_common, or_choice, or_choice_chosen}
use Rattle.asn1_rs.specs.Laws.Choices.Nested.{or_choice_lawful, or_choice_puts}

-- A choice and the others behind it. None of the others has the class and the tag number of an arm of the choice.
abbrev pub choice_before : {A B : Type 0} → LawfulChoiceOf A → LawfulArmsOf B → LawfulArmsOf (OrChoice A B)
choice_before T R = record {
  grammar = or_choice T.arms.grammar.tags (grammar_of_choice T) R.grammar;
  arm_of = or_choice_chosen (λ x. T.arms.arm_of (T.as_arms x)) R.arm_of;
  told = no_tag_in_common T.arms.grammar.tags R.grammar.tags && R.told;
  lawful = λ t. or_choice_lawful T.arms.grammar.tags (grammar_of_choice T) R.grammar
      (choice_lawful T.as_arms T.arms.grammar T.lawful) T.lawful.tagged
      (R.lawful (second_holds (no_tag_in_common T.arms.grammar.tags R.grammar.tags) R.told t))
      (first_holds (no_tag_in_common T.arms.grammar.tags R.grammar.tags) R.told t);
  puts = λ t. or_choice_puts T.as_arms T.arms.grammar T.arms.arm_of T.puts T.arms.grammar.tags R.grammar R.arm_of
      (R.puts (second_holds (no_tag_in_common T.arms.grammar.tags R.grammar.tags) R.told t));
}

-- The arm that a value of a choice is of.
abbrev pub arm_of_choice : {T : Type 0} → LawfulChoiceOf T → T → ChosenArm
arm_of_choice L x = L.arms.arm_of (L.as_arms x)
