use Rattle.std.proofs.Common.{◌≡◌, ◌∙◌, ap, arith, sym, subst, List, ℕ, pos}
use Rattle.x690.specs.Octets.{IsOctets}
use Rattle.x690.specs.Joined.{IsConcatenation, AreConcatenatedWords}
use Rattle.asn1_headers.specs.declared.error.Error.{Error}
use Rattle.asn1_rs.specs.Traits.{OfParts, DerGives}
use Rattle.asn1_rs.specs.Grammar.{DerWord}
use Rattle.asn1_rs.specs.Integer.{IntegerBody, IntegerCheck, IntegerCheckGives, IsUnsigned, UnsignedGives}
use Rattle.asn1_rs.specs.Sequence.Iterator.{octets_left}
use Rattle.asn1_rs_uses.proofs.Collected.{counted}
use Rattle.asn1_rs_uses.proofs.items.count_of_numbers.Goals as goal

abbrev same : Error → Error → Type 0
same e f = f ≡ e

pub returns : goal.returns
returns c = λ j.
    let run = c.count.ensures.runs in
    let begins : octets_left run.0.from ≡ c.args.content.now = ap octets_left run.1 ∙ c.new.ensures in
    let octets : IsOctets (octets_left run.0.from) =
    subst IsOctets (sym begins) (λ k. omega (arith, c.type_inv.content k)) in
    let joined : AreConcatenatedWords (DerWord IntegerCheck (IntegerBody (IsUnsigned 8))) (octets_left run.0.from) =
    subst (λ (o : List ℕ). AreConcatenatedWords (DerWord IntegerCheck (IntegerBody (IsUnsigned 8))) o) (sym begins) j in
    let all = counted (DerGives IntegerCheckGives (OfParts (UnsignedGives 8)) same) same
    (DerWord IntegerCheck (IntegerBody (IsUnsigned 8))) pos run.0
    (c.walks_take_words.ensures.whole_run run.0 octets joined) run.2 in (
      all.0,
      subst (λ (o : List ℕ). IsConcatenation (DerWord IntegerCheck (IntegerBody (IsUnsigned 8))) o all.0) begins all.1,
      run.3 ∙ all.2,
    )
