use Rattle.std.proofs.Common.{◌≡◌, ◌∙◌, ap, subst, ℕ, Bool, List, [], ◌∷◌, ◌++◌, append_assoc, arith}
use Rattle.std.proofs.lemmas.List.{take_all}
use Rattle.asn1_schema.specs.Grammar.{bits_in, digits_2}
use Rattle.asn1_schema.specs.Bits.{first_bits}
use Rattle.asn1_schema.specs.Writing.{PushesBits}
use Rattle.asn1_schema.proofs.BitContents.{digits_length}
use Rattle.asn1_schema.proofs.WrittenLeaves.{grew_on}
use Rattle.asn1_schema.proofs.WrittenBits.{pushed_on}
use Rattle.asn1_schema.proofs.put_bits.push_octets.Goals as goal

pub returns-in-Err-push_octet : goal.returns-in-Err-push_octet
returns-in-Err-push_octet c =
    let s = c.loop-last.invariant.pushes in (
      c.in-Err-push_octet.ensures.0,
      grew_on c.args.buf.now c.loop-last.buf c.push_octet.new.buf (s.octets, s.put) c.in-Err-push_octet.ensures.1,
    )

whole_octet : (o : ℕ) → first_bits 0 o ≡ digits_2 8 o
whole_octet o = let l = digits_length 8 o in take_all 8 (digits_2 8 o) (omega (arith, l))

pub loop-last-preserved : goal.loop-last-preserved
loop-last-preserved c =
    let s = c.loop-last.invariant in
    let o = c.in-Some.last.now in
    record {
      done = o ∷ s.done;
      parts = s.parts ∙ (ap (λ (z : List ℕ). z ++ s.done) c.in-Some.ensures.cases.0
          ∙ append_assoc c.in-Some.others.now (o ∷ []) s.done);
      pushes = subst (λ (z : List Bool). PushesBits (z ++ bits_in s.done) c.args.pending c.args.buf.now c.push_octet.new.buf
          c.in-Ok-push_octet.next) (whole_octet o)
          (pushed_on (bits_in s.done) (first_bits 0 o) c.args.pending c.loop-last.so_far c.in-Ok-push_octet.next
          c.args.buf.now c.loop-last.buf c.push_octet.new.buf s.pushes c.in-Ok-push_octet.ensures);
    }
