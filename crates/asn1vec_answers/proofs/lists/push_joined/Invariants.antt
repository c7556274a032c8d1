use Rattle.std.proofs.Common.{◌≡◌, ◌++◌, map}
use denote.Shadow.{shadow}
use denote.Text.{Utf8}
use Rattle.std.specs.List.{join_by}
use Rattle.asn1vec_answers.proofs.Walks.{before_next}
use Rattle.asn1vec_answers.proofs.lists.push_joined.Given as goal

abbrev pub invariant-loop-item : goal.invariant-loop-item
invariant-loop-item g l = record {
  can : (goal.iterator-loop-item g).can_next l.item-iterator;
  ends : (goal.iterator-loop-item g).is_finite l.item-iterator;
  words : shadow (Utf8 l.separator);
  separator : l.separator ≡ before_next l.fn.sign l.yielded;
  text : l.text.items ≡ l.fn.text.items ++ join_by g.T.Encoded.text_of l.fn.sign (map (λ r. r.now) l.yielded);
}
