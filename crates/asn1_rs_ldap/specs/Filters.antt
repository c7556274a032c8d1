-- Filters of LDAP: which arm one is, and the laws of their choices. The laws go by names. The proofs of each choice
-- alone open its name. What holds a filter goes by the name. So the time of its check does not grow with what stands
-- below.
use Rattle.std.specs.Prelude.{ℕ, refl}
use Rattle.asn1_rs.specs.Prelude.{choice_of, choice_type, Error, items_of, struct_type}
use Rattle.asn1_rs.specs.declared.asn1_types.octet_string.OctetString.{OctetString}
use Rattle.asn1_rs.specs.declared.asn1_types.set.set_of.SetOf.{SetOf}
use Rattle.asn1_rs.specs.declared.asn1_types.tagged.Explicit.{Explicit}
use Rattle.asn1_rs.specs.declared.asn1_types.tagged.Implicit.{Implicit}
use Rattle.asn1_rs.specs.declared.asn1_types.tagged.TaggedValue.{TaggedValue}
use Rattle.asn1_rs.specs.declared.choices.arms.Never.{Never}
use Rattle.asn1_rs.specs.declared.choices.arms.Or.{Or}
use Rattle.asn1_rs.specs.declared.choices.arms.Or.TheVariants as arm
use Rattle.asn1_rs.specs.Choices.Data.{LawfulArmsOf, LawfulChoiceOf, arm_before, end_of_arms}
use Rattle.asn1_rs.specs.Laws.OctetString.{octet_string_lawful}
use Rattle.asn1_rs.specs.OctetString.{octet_string_leaf}
use Rattle.asn1_rs.specs.Structs.Data.{LawfulStructOf, LawfulTypeOf}
use Rattle.asn1_rs.specs.Structs.Types.{explicit_type, implicit_type, leaf_type, multiset_type}
use Rattle.asn1_rs.specs.Choices.Heap.{boxed}
use Rattle.asn1_rs.specs.Choices.Nested.Data.{choice_before}
use Rattle.asn1_rs.specs.declared.choices.nested.OrChoice.{OrChoice}
use Rattle.asn1_rs.specs.declared.choices.nested.OrChoice.TheVariants as part
use Rattle.asn1_rs.specs.declared.choices.boxed.Boxed.{Boxed}
use Rattle.asn1_rs_ldap.specs.contracts.assertion.AttributeValueAssertionLawfulStruct.TheImpl as value_assertion
use Rattle.asn1_rs_ldap.specs.contracts.assertion.MatchingRuleAssertionLawfulStruct.TheImpl as rule_assertion
use Rattle.asn1_rs_ldap.specs.contracts.substrings.SubstringFilterLawfulStruct.TheImpl as substring_filter
use Rattle.asn1_rs_ldap.specs.declared.assertion.AttributeValueAssertion.{AttributeValueAssertion}
use Rattle.asn1_rs_ldap.specs.declared.assertion.MatchingRuleAssertion.{MatchingRuleAssertion}
use Rattle.asn1_rs_ldap.specs.declared.combined.Combined.{Combined}
use Rattle.asn1_rs_ldap.specs.declared.combined.Combined.TheVariants as combined
use Rattle.asn1_rs_ldap.specs.declared.compared.Compared.{Compared}
use Rattle.asn1_rs_ldap.specs.declared.compared.Compared.TheVariants as compared
use Rattle.asn1_rs_ldap.specs.declared.filter.FilterOf.{FilterOf}
use Rattle.asn1_rs_ldap.specs.declared.filter.FilterOf.TheVariants as filters
use Rattle.asn1_rs_ldap.specs.declared.filter.SimpleFilter.{SimpleFilter}
use Rattle.asn1_rs_ldap.specs.declared.filter.SimpleFilter.TheVariants as simple
use Rattle.asn1_rs_ldap.specs.declared.matched.Matched.{Matched}
use Rattle.asn1_rs_ldap.specs.declared.matched.Matched.TheVariants as matched
use Rattle.asn1_rs_ldap.specs.declared.substrings.SubstringFilter.{SubstringFilter}

-- a value in place of whose tag a context-specific one stands
abbrev pub FilterUnder : Type 0 → ℕ → Type 0
FilterUnder T number = TaggedValue T Error Implicit 2 number

abbrev pub filter_under : {T : Type 0} (number : ℕ) → LawfulTypeOf T → LawfulTypeOf (FilterUnder T number)
filter_under number T = implicit_type 2 number (λ t. t.inner) T

-- Filters that compare the value of an attribute.

abbrev pub ComparedArms : Type 0
ComparedArms = Or (FilterUnder AttributeValueAssertion 3) (Or (FilterUnder AttributeValueAssertion 5)
    (Or (FilterUnder AttributeValueAssertion 6) (Or (FilterUnder AttributeValueAssertion 8) Never 2) 2) 2) 2

abbrev pub in_compared_arms : Compared → ComparedArms
in_compared_arms (compared.Equal x) = arm.This x
in_compared_arms (compared.AtLeast x) = arm.Other (arm.This x)
in_compared_arms (compared.AtMost x) = arm.Other (arm.Other (arm.This x))
in_compared_arms (compared.Approximate x) = arm.Other (arm.Other (arm.Other (arm.This x)))

abbrev pub asserted : (number : ℕ) → LawfulTypeOf (FilterUnder AttributeValueAssertion number)
asserted number = filter_under number (struct_type value_assertion.ghosts.laws)

abbrev pub compared_arms : LawfulArmsOf ComparedArms
compared_arms = arm_before 2 (asserted 3) (arm_before 2 (asserted 5) (arm_before 2 (asserted 6)
    (arm_before 2 (asserted 8) end_of_arms)))

unfoldable pub compared_laws : LawfulChoiceOf Compared
compared_laws = choice_of in_compared_arms compared_arms refl

-- Filters of parts of values, of attributes that are there, and of rules.

abbrev pub MatchedArms : Type 0
MatchedArms =
    Or (FilterUnder SubstringFilter 4) (Or (FilterUnder OctetString 7)
    (Or (FilterUnder MatchingRuleAssertion 9) Never 2) 2) 2

abbrev pub in_matched_arms : Matched → MatchedArms
in_matched_arms (matched.Substrings x) = arm.This x
in_matched_arms (matched.Present x) = arm.Other (arm.This x)
in_matched_arms (matched.Extensible x) = arm.Other (arm.Other (arm.This x))

abbrev pub matched_arms : LawfulArmsOf MatchedArms
matched_arms = arm_before 2 (filter_under 4 (struct_type substring_filter.ghosts.laws))
    (arm_before 2 (filter_under 7 (leaf_type octet_string_leaf octet_string_lawful))
    (arm_before 2 (filter_under 9 (struct_type rule_assertion.ghosts.laws)) end_of_arms))

unfoldable pub matched_laws : LawfulChoiceOf Matched
matched_laws = choice_of in_matched_arms matched_arms refl

-- Filters that hold others. They are lawful where these are.

-- a set of filters, in place of whose tag a context-specific one stands
abbrev pub Filters : Type 0 → ℕ → Type 0
Filters F number = FilterUnder (SetOf F) number

abbrev pub filters_type : {F : Type 0} (number : ℕ) → LawfulChoiceOf F → LawfulTypeOf (Filters F number)
filters_type number X = filter_under number (multiset_type items_of (choice_type X))

-- a filter on the heap, under a tag
abbrev pub Negated : Type 0 → Type 0
Negated F = TaggedValue (Boxed F) Error Explicit 2 2

abbrev pub negated_type : {F : Type 0} → LawfulChoiceOf F → LawfulTypeOf (Negated F)
negated_type X = explicit_type 2 2 (λ t. t.inner) (choice_type (boxed X))

abbrev pub CombinedArms : Type 0 → Type 0
CombinedArms F = Or (Filters F 0) (Or (Filters F 1) (Or (Negated F) Never 2) 2) 2

abbrev pub in_combined_arms : {F : Type 0} → Combined F → CombinedArms F
in_combined_arms (combined.And x) = arm.This x
in_combined_arms (combined.Or x) = arm.Other (arm.This x)
in_combined_arms (combined.Not x) = arm.Other (arm.Other (arm.This x))

abbrev pub combined_arms : {F : Type 0} → LawfulChoiceOf F → LawfulArmsOf (CombinedArms F)
combined_arms X = arm_before 2 (filters_type 0 X) (arm_before 2 (filters_type 1 X)
    (arm_before 2 (negated_type X) end_of_arms))

unfoldable pub combined_laws : {F : Type 0} → LawfulChoiceOf F → LawfulChoiceOf (Combined F)
combined_laws X = choice_of in_combined_arms (combined_arms X) refl

-- Filters: those that hold others of a type, and those of the other two parts.

abbrev pub FilterArms : Type 0 → Type 0
FilterArms F = OrChoice (Combined F) (OrChoice Compared (OrChoice Matched Never))

abbrev pub in_filter_arms : {F : Type 0} → FilterOf F → FilterArms F
in_filter_arms (filters.Combined x) = part.This x
in_filter_arms (filters.Compared x) = part.Other (part.This x)
in_filter_arms (filters.Matched x) = part.Other (part.Other (part.This x))

unfoldable pub filter_laws : {F : Type 0} → LawfulChoiceOf F → LawfulChoiceOf (FilterOf F)
unfolding combined_laws compared_laws matched_laws
filter_laws X = choice_of in_filter_arms (choice_before (combined_laws X) (choice_before compared_laws
    (choice_before matched_laws end_of_arms))) refl

-- Filters that hold none.

abbrev pub SimpleArms : Type 0
SimpleArms = OrChoice Compared (OrChoice Matched Never)

abbrev pub in_simple_arms : SimpleFilter → SimpleArms
in_simple_arms (simple.Compared x) = part.This x
in_simple_arms (simple.Matched x) = part.Other (part.This x)

unfoldable pub simple_laws : LawfulChoiceOf SimpleFilter
unfolding compared_laws matched_laws
simple_laws = choice_of in_simple_arms (choice_before compared_laws (choice_before matched_laws end_of_arms)) refl
