use Rattle.std.proofs.Common.{◌≡◌, sym, ap, subst, refl, true, ℕ, List, arith}
use Rattle.std.specs.Prelude.{nat_eq}
use Rattle.std.proofs.lemmas.Bool.{eqb-true}
use Rattle.asn1_schema.specs.declared.tape.Item.TheVariants as items
use Rattle.asn1_schema.specs.declared.pieces.Sort.{Sort}
use Rattle.asn1_schema.specs.Bits.{used_bits}
use Rattle.asn1_schema.specs.Pieces.{Elem, string_of, SaysPiece}
use Rattle.asn1_schema.proofs.BitsTaken.{bits_taken}
use Rattle.asn1_schema.proofs.pieces.piece_item.Goals as goal

pub returns-in-Octets-clause-some : goal.returns-in-Octets-clause-some
returns-in-Octets-clause-some c = subst (λ (s : Sort). SaysPiece c.args.coding s c.args.content.now
    (items.Octets c.args.content) true) (sym c.in-Octets.is)
    (record { said = c.args.content.now; content = refl; is = refl; whole = (λ a. tt, λ a. refl) })

pub returns-in-Text-clause-some : goal.returns-in-Text-clause-some
returns-in-Text-clause-some c = subst (λ (s : Sort). SaysPiece c.args.coding s c.args.content.now
    (items.Text c.in-Text.kind c.args.content) true) (sym c.in-Text.is)
    (record { said = c.args.content.now; content = refl; is = refl; whole = (λ a. tt, λ a. refl) })

pub returns-in-Some-clause-some : goal.returns-in-Some-clause-some
returns-in-Some-clause-some c =
    let u = c.in-Some.unused in
    let o = c.in-Some.octets in
    let l = bits_taken o.now u in
    let few = c.in-Some.ensures.few in
    subst (λ (s : Sort). SaysPiece c.args.coding s c.args.content.now (items.Bits u o) (nat_eq u 0)) (sym c.in-Bits.is)
    (record {
      said = used_bits u o.now;
      content = c.in-Some.ensures.some;
      is = refl;
      whole = (
        λ f. let z = eqb-true u 0 f in omega (arith, l, z, few),
        λ f. let z : u ≡ 0 = omega (arith, l, few, f) in ap (λ (n : ℕ). nat_eq n 0) z,
      );
    })

pub returns-in-None-clause-none : goal.returns-in-None-clause-none
returns-in-None-clause-none c = subst (λ (s : Sort). (xs : List (Elem s)) → (string_of c.args.coding s).Content c.args.content.now xs → ⊥)
    (sym c.in-Bits.is) c.in-None.ensures.none

pub returns-in-Time-clause-some : goal.returns-in-Time-clause-some
returns-in-Time-clause-some c = subst (λ (s : Sort). SaysPiece c.args.coding s c.args.content.now
    (items.Time c.in-Time.kind c.args.content) true) (sym c.in-Time.is)
    (record { said = c.args.content.now; content = refl; is = refl; whole = (λ a. tt, λ a. refl) })
