use Rattle.std.proofs.Common.{◌≡◌, sym, subst, ℕ, suc, ◌-◌, inl, arith}
use Rattle.std.proofs.lemmas.Bool.{not-true, not-false}
use Rattle.asn1_schema.specs.declared.coding.Coding.{Coding}
use Rattle.asn1_schema.specs.Reading.{rules_of, head_parts, ReadsValue}
use Rattle.asn1_schema.specs.Pieces.{string_of, ArePieces, IsStringOf, IsPrimitiveOf, IsConstructedOf}
use Rattle.asn1_schema.proofs.Taken.{leaf_read, no_value, reads_map}
use Rattle.asn1_schema.proofs.TakenPieces.{pieces_allowed, none_by_der, string_content, string_pieces, pieces_of_string}
use Rattle.asn1_schema.proofs.pieces.read_string.Goals as goal

pub returns-in-Ok : goal.returns-in-Ok
returns-in-Ok c = λ d h.
    let a = c.in-Ok.ensures in
    leaf_read (IsStringOf c.args.coding c.args.sort d (head_parts c.args.head c.args.content.now))
    c.args.tape.now.items c.put_item.new.tape.items c.in-Ok.item c.put_item.result
    (a.0, a.1, (a.2.0, a.2.1, inl (not-true c.args.head.constructed c.if-not-head.true, a.2.2), a.2.3))
    c.put_item.ensures.ok c.put_item.ensures.err

pub returns-in-Err : goal.returns-in-Err
returns-in-Err c = λ d h.
    let p = head_parts c.args.head c.args.content.now in
    no_value (Unit {0}) (IsPrimitiveOf c.args.coding c.args.sort c.args.content.now)
    (IsStringOf c.args.coding c.args.sort d p)
    (λ v b. (
      b.0,
      b.1,
      string_content (rules_of c.args.coding) (string_of c.args.coding c.args.sort) (suc d) p b.0
          (not-true c.args.head.constructed c.if-not-head.true) b.2,
      b.3,
    ))
    c.args.tape.now.items c.in-Err.e c.in-Err.ensures

pub returns-in-Der : goal.returns-in-Der
returns-in-Der c = λ d h v b. none_by_der c.args.coding (string_of c.args.coding c.args.sort) (suc d)
    (head_parts c.args.head c.args.content.now) b.0 c.in-Der.is (not-false c.args.head.constructed c.if-not-head.false) b.2

pub returns-in-Ber : goal.returns-in-Ber
returns-in-Ber c = λ d h.
    let S = string_of c.args.coding c.args.sort in
    let p = head_parts c.args.head c.args.content.now in
    let constructed = not-false c.args.head.constructed c.if-not-head.false in
    let z : suc d - 1 ≡ d = omega arith in
    reads_map (IsConstructedOf c.args.coding c.args.sort d c.args.content.now)
    (IsStringOf c.args.coding c.args.sort d p)
    (λ v a. (
      a.0,
      a.1,
      string_pieces c.args.coding S (suc d) p a.0 (λ e. absurd (omega (arith, e)))
          (pieces_allowed c.args.coding c.in-Ber.max c.in-Ber.is) constructed
          (subst (λ (n : ℕ). ArePieces c.args.coding S n c.args.content.now a.0) (sym z) a.2),
      a.3,
    ))
    (λ v a. (
      a.0,
      a.1,
      subst (λ (n : ℕ). ArePieces c.args.coding S n c.args.content.now a.0) z
          (pieces_of_string c.args.coding S (suc d) p a.0 constructed a.2).1,
      a.3,
    ))
    c.args.tape.now.items c.read_constructed.new.tape.items c.read_constructed.result
    (subst (λ (e : Coding). ReadsValue (IsConstructedOf e c.args.sort d c.args.content.now) c.args.tape.now.items
    c.read_constructed.new.tape.items c.read_constructed.result) (sym c.in-Ber.is) (c.read_constructed.ensures d h))
