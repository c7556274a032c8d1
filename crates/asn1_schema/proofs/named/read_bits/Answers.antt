use Rattle.std.proofs.Common.{◌≡◌, sym, subst, refl, true, false, ℕ, suc, ◌-◌, Bool, inl, arith}
use Rattle.std.specs.Prelude.{Err}
use Rattle.std.proofs.lemmas.Bool.{not-true, not-false}
use Rattle.asn1_schema.specs.declared.coding.Coding.{Coding}
use Rattle.asn1_schema.specs.declared.schema.Kind.TheVariants as kinds
use Rattle.asn1_schema.specs.declared.pieces.Sort.TheVariants as sorts
use Rattle.asn1_schema.specs.Grammar.{of_bits}
use Rattle.asn1_schema.specs.Reading.{rules_of, head_parts, IsOfKind, ReadsValue}
use Rattle.asn1_schema.specs.Pieces.{ArePieces, IsStringOf}
use Rattle.asn1_schema.specs.Bits.{IsNamedPrimitive, IsNamedConstructed}
use Rattle.asn1_schema.proofs.Taken.{leaf_read, no_value, reads_map}
use Rattle.asn1_schema.proofs.TakenPieces.{pieces_allowed, none_by_der, string_content, string_pieces, pieces_of_string}
use Rattle.asn1_schema.proofs.named.read_bits.Goals as goal

pub returns-then-not-named : goal.returns-then-not-named
returns-then-not-named c = λ nodes of d h.
    let p = head_parts c.args.head c.args.content.now in
    subst (λ (n : Bool). ReadsValue (IsOfKind c.args.coding nodes d of (kinds.Bits n) p) c.args.tape.now.items
    c.read_string.new.tape.items c.read_string.result) (sym c.if-not-named.true)
    (reads_map (IsStringOf c.args.coding sorts.Bits d p) (IsOfKind c.args.coding nodes d of (kinds.Bits false) p)
    (λ v a. (a.0, a.1, a.2, λ e. absurd (cc (e)))) (λ v a. (a.0, a.1, a.2, tt)) c.args.tape.now.items
    c.read_string.new.tape.items c.read_string.result (c.read_string.ensures d h))

pub returns-in-Ok : goal.returns-in-Ok
returns-in-Ok c = λ nodes of d h.
    let p = head_parts c.args.head c.args.content.now in
    let a = c.in-Ok.ensures in
    subst (λ (n : Bool). ReadsValue (IsOfKind c.args.coding nodes d of (kinds.Bits n) p) c.args.tape.now.items
    c.put_item.new.tape.items c.put_item.result) (sym c.if-not-named.false)
    (leaf_read (IsOfKind c.args.coding nodes d of (kinds.Bits true) p) c.args.tape.now.items
    c.put_item.new.tape.items c.in-Ok.item c.put_item.result
    (a.0, a.1, (a.2.0, a.2.1.0, inl (not-true c.args.head.constructed c.if-not-head.true, a.2.2), λ e. a.2.1.1))
    c.put_item.ensures.ok c.put_item.ensures.err)

pub returns-in-Err : goal.returns-in-Err
returns-in-Err c = λ nodes of d h.
    let p = head_parts c.args.head c.args.content.now in
    let named = c.if-not-named.false in
    subst (λ (n : Bool). ReadsValue {T = Unit {0}} (IsOfKind c.args.coding nodes d of (kinds.Bits n) p)
    c.args.tape.now.items c.args.tape.now.items (Err c.in-Err.e)) (sym named)
    (no_value (Unit {0}) (IsNamedPrimitive c.args.coding c.args.content.now)
    (IsOfKind c.args.coding nodes d of (kinds.Bits true) p)
    (λ v b. (
      b.0,
      (b.1, b.3 refl),
      string_content (rules_of c.args.coding) (of_bits (rules_of c.args.coding)) (suc d) p b.0
          (not-true c.args.head.constructed c.if-not-head.true) b.2,
    ))
    c.args.tape.now.items c.in-Err.e c.in-Err.ensures)

pub returns-in-Der : goal.returns-in-Der
returns-in-Der c = λ nodes of d h v b. none_by_der c.args.coding (of_bits (rules_of c.args.coding)) (suc d)
    (head_parts c.args.head c.args.content.now) b.0 c.in-Der.is (not-false c.args.head.constructed c.if-not-head.false) b.2

pub returns-in-Ber : goal.returns-in-Ber
returns-in-Ber c = λ nodes of d h.
    let S = of_bits (rules_of c.args.coding) in
    let p = head_parts c.args.head c.args.content.now in
    let constructed = not-false c.args.head.constructed c.if-not-head.false in
    let z : suc d - 1 ≡ d = omega arith in
    subst (λ (n : Bool). ReadsValue (IsOfKind c.args.coding nodes d of (kinds.Bits n) p) c.args.tape.now.items
    c.named_constructed.new.tape.items c.named_constructed.result) (sym c.if-not-named.false)
    (reads_map (IsNamedConstructed c.args.coding d c.args.content.now)
    (IsOfKind c.args.coding nodes d of (kinds.Bits true) p)
    (λ v a. (
      a.0,
      a.1.0,
      string_pieces c.args.coding S (suc d) p a.0 (λ e. absurd (omega (arith, e)))
          (pieces_allowed c.args.coding c.in-Ber.max c.in-Ber.is) constructed
          (subst (λ (n : ℕ). ArePieces c.args.coding S n c.args.content.now a.0) (sym z) a.2),
      λ e. a.1.1,
    ))
    (λ v a. (
      a.0,
      (a.1, a.3 refl),
      subst (λ (n : ℕ). ArePieces c.args.coding S n c.args.content.now a.0) z
          (pieces_of_string c.args.coding S (suc d) p a.0 constructed a.2).1,
    ))
    c.args.tape.now.items c.named_constructed.new.tape.items c.named_constructed.result
    (subst (λ (e : Coding). ReadsValue (IsNamedConstructed e d c.args.content.now) c.args.tape.now.items
    c.named_constructed.new.tape.items c.named_constructed.result) (sym c.in-Ber.is) (c.named_constructed.ensures d h)))
