use Rattle.std.proofs.Common.{refl, ◌≡◌, subst, sym, ℕ, ℤ, true, List}
use Rattle.std.specs.Prelude.{Result, ◌⊎◌, Contains}
use Rattle.x690.specs.Laws.Integers.{integer_content_one_value}
use Rattle.asn1_schema.specs.declared.fault.Fault.{Fault}
use Rattle.asn1_schema.specs.declared.tape.Item.{Item}
use Rattle.x690.specs.Digits.{twos_complement_value}
use Rattle.asn1_schema.specs.Values.{enumerated, leaf, Value}
use Rattle.asn1_schema.proofs.Depths.{told}
use Rattle.asn1_schema.specs.Reading.{IsListed, Judges, head_parts}
use Rattle.asn1_schema.specs.Writing.{primitive}
use Rattle.asn1_schema.proofs.WrittenLeaves.{leaf_written, no_leaf, wrong_leaf, same_grew}
use Rattle.asn1_schema.proofs.put_leaves.put_enumerated.Goals as goal

same_number : (m n : ℤ) → leaf (enumerated m) ≡ leaf (enumerated n) → m ≡ n
same_number m n e = cc

pub returns-in-Ok : goal.returns-in-Ok
returns-in-Ok c =
    let m = twos_complement_value c.in-Some.octets.now in
    let content = c.shortest_integer-content.result.now in
    let P = λ (o : List ℕ). IsListed c.args.numbers.now c.args.extensible (primitive o) in
    let j = subst (λ (r : Result Item Fault). Judges (IsListed c.args.numbers.now c.args.extensible
    (head_parts c.primitive_head.result content)) r) c.in-Ok.is c.enumerated_item.ensures in
    let h = j.2 in
    let same = integer_content_one_value h.0 m content h.3 c.shortest_integer-content.ensures in
    leaf_written P c.args.tape.now c.args.at c.args.buf.now c.put_at.new.buf content (enumerated m) c.put_at.result
    c.put_at.ensures.octets (
      m,
      refl,
      refl,
      c.shortest_integer-content.ensures,
      subst (λ (z : ℤ). (c.args.extensible ≡ true) ⊎ Contains c.args.numbers.now z) same h.4,
    )
    c.in-Some.ensures c.put_at.ensures.put

pub returns-in-Err : goal.returns-in-Err
returns-in-Err c = (
  λ is. let m = twos_complement_value c.in-Some.octets.now in
      let content = c.shortest_integer-content.result.now in
      let P = λ (o : List ℕ). IsListed c.args.numbers.now c.args.extensible (primitive o) in
      let Q = IsListed c.args.numbers.now c.args.extensible (head_parts c.primitive_head.result content) in
      let j = told c.in-Err.e is ((v : Value) → Q v → ⊥)
      (subst (λ (r : Result Item Fault). Judges Q r) c.in-Err.is c.enumerated_item.ensures) in
      wrong_leaf P c.args.tape.now c.args.at (enumerated m) c.in-Some.ensures.1
      (λ o h. let same = same_number m h.0 h.1 in
      j (leaf (enumerated m)) (
        m,
        refl,
        c.primitive_head.ensures,
        c.shortest_integer-content.ensures,
        subst (λ (z : ℤ). (c.args.extensible ≡ true) ⊎ Contains c.args.numbers.now z) (sym same) h.4,
      )),
  same_grew c.args.buf.now,
)

pub returns-in-None : goal.returns-in-None
returns-in-None c = no_leaf (λ content. IsListed c.args.numbers.now c.args.extensible (primitive content)) c.args.tape.now
    c.args.at enumerated (λ y. refl) (λ o v h. (h.0, h.1)) c.in-None.ensures c.args.buf.now
