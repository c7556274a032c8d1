-- DER, strict DER and BER are lawful rules.
use Rattle.std.proofs.Common.{◌≡◌, refl, ℕ, Bool, true, false, List}
use Rattle.x690.specs.Rules.{der_rule}
use Rattle.x690.specs.Joined.{IsPrefixFree}
use Rattle.x690.specs.Laws.Words.{definite_words, nested_words}
use Rattle.asn1_schema.specs.declared.schema.Node.{Node}
use Rattle.asn1_schema.specs.Grammar.{Word}
use Rattle.asn1_schema.specs.Rules.{der, ber, strict, IsTruth, IsStrictTruth}
use Rattle.asn1_schema.specs.Sound.{is_sound}
use Rattle.asn1_schema.proofs.Strings.{AreLawfulRules}
use Rattle.asn1_schema.proofs.OneValue.{front_of_rules}

strict_truth_one : (c : List ℕ) (a b : Bool) → IsStrictTruth c a → IsStrictTruth c b → a ≡ b
strict_truth_one c true true s t = refl
strict_truth_one c false false s t = refl
strict_truth_one c true false s t = absurd (cc)
strict_truth_one c false true s t = absurd (cc)

pub der_lawful : AreLawfulRules der
der_lawful = record { one = definite_words der_rule; truth = strict_truth_one }

pub strict_lawful : AreLawfulRules strict
strict_lawful = record { one = definite_words der_rule; truth = strict_truth_one }

truth_one : (c : List ℕ) (a b : Bool) → IsTruth c a → IsTruth c b → a ≡ b
truth_one c true true s t = refl
truth_one c false false s t = refl
truth_one c true false s t = absurd (let e : s.0 ≡ 0 = cc (s.1, t) in s.2 e)
truth_one c false true s t = absurd (let e : t.0 ≡ 0 = cc (s, t.1) in t.2 e)

pub ber_lawful : (max : ℕ) → AreLawfulRules (ber max)
ber_lawful max = record { one = nested_words max; truth = truth_one }

pub front_der : (table : List Node) → is_sound table ≡ true → (depth t : ℕ) → IsPrefixFree (Word der table depth t)
front_der = front_of_rules der der_lawful

pub front_strict : (table : List Node) → is_sound table ≡ true → (depth t : ℕ) → IsPrefixFree (Word strict table depth t)
front_strict = front_of_rules strict strict_lawful

pub front_ber : (table : List Node) → is_sound table ≡ true →
    (max depth t : ℕ) → IsPrefixFree (Word (ber max) table depth t)
front_ber table sound max depth t = front_of_rules (ber max) (ber_lawful max) table sound depth t
