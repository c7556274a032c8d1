use Rattle.std.proofs.Common.{arith, map, pos}
use Rattle.std.specs.Prelude.{◌⊎◌, ◌≡◌}
use Rattle.x690.specs.Joined.{IsConcatenation}
use Rattle.asn1_headers.specs.declared.error.Error.TheVariants as errors
use Rattle.asn1_rs.specs.Lists.{HasNoConcatenation}
use Rattle.asn1_rs.specs.Traits.{OfParts, DerGives}
use Rattle.asn1_rs.specs.Integer.{IntegerCheckGives, UnsignedGives}
use Rattle.asn1_rs_uses.specs.Numbers.{NumberByDer}
use Rattle.asn1_rs_uses.proofs.JoinedNumbers.{same, when_taken, when_refused}
use Rattle.asn1_rs_uses.proofs.joined.numbers_of.Goals as goal

pub returns-clause-joined : goal.returns-clause-joined
returns-clause-joined c =
    when_taken (DerGives IntegerCheckGives (OfParts (UnsignedGives 8)) same) same c.args.content.now
    (λ items. IsConcatenation NumberByDer c.args.content.now (map pos items))
    (λ items g. c.items_are_joined_words.ensures.joined c.args.content.now items (λ k. omega (
      arith,
      c.type_inv.content k,
    )) g) c.into_der_sequence_of_ref.result (rw c.new-sequence.ensures at c.into_der_sequence_of_ref.ensures)

pub returns-clause-refused : goal.returns-clause-refused
returns-clause-refused c =
    when_refused (DerGives IntegerCheckGives (OfParts (UnsignedGives 8)) same) same c.args.content.now
    (λ e. (e ≡ errors.OutOfMemory) ⊎ HasNoConcatenation NumberByDer c.args.content.now)
    (λ e g. c.items_are_joined_words.ensures.refused c.args.content.now e (λ k. omega (arith, c.type_inv.content k)) g)
    c.into_der_sequence_of_ref.result (rw c.new-sequence.ensures at c.into_der_sequence_of_ref.ensures)
