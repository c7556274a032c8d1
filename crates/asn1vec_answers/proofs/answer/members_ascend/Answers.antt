use Rattle.std.proofs.Common.{ℕ, List, Ok, refl}
use Rattle.std.specs.BTreeSet.{BTreeSet}
use Rattle.std.specs.List.Sorted.{IsStrictlySortedBy}
use Rattle.std.proofs.lemmas.Cmp.{int_cmp_total}
use Rattle.std.specs.Ordering.{int_cmp, nat_cmp}
use Rattle.asn1vec_answers.proofs.InOrder.{in_order_member, in_order_sorted}
use Rattle.std.proofs.lemmas.Map.Keys.{IsStrictlyIncreasing-from_sorted}
use Rattle.asn1vec_answers.specs.declared.request.Rule.{Rule}
use Rattle.asn1vec_answers.specs.declared.request.Rule.TheVariants.{Ber, Der}
use Rattle.asn1vec_answers.specs.declared.types.TypeName.TheVariants.{BTreeSetU8}
use Rattle.asn1vec_answers.specs.Types.{meaning_of}
use Rattle.asn1vec_answers.proofs.answer.members_ascend.Goals as goal

-- the set that is made of the items that were read is in order
ordered : (rule : Rule) (octets rest : List ℕ) (members : BTreeSet ℕ) →
    (meaning_of BTreeSetU8).Reads rule octets (Ok (rest, members)) → IsStrictlySortedBy nat_cmp members.keys
ordered Ber octets rest members h = h.1.3.1.1.1
ordered Der octets rest members h = h.1.3.1.1.1

pub returns-clause-ordered : goal.returns-clause-ordered
returns-clause-ordered c = λ rule octets rest members h. (
  refl,
  IsStrictlyIncreasing-from_sorted members.keys (ordered rule octets rest members h),
)

pub returns-clause-in_order : goal.returns-clause-in_order
returns-clause-in_order c =
    λ keys. (in_order_sorted int_cmp int_cmp_total keys, in_order_member int_cmp int_cmp_total keys)
