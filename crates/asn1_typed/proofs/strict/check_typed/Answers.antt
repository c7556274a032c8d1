use Rattle.std.proofs.Common.{◌∙◌, ap, sym, subst, inl, inr}
use Rattle.std.specs.Prelude.{Err}
use Rattle.asn1_schema.specs.Differing.{HasNoEncoding, HasOther, IsNotStrict}
use Rattle.asn1_schema.specs.Grammar.{Word}
use Rattle.asn1_schema.specs.Rules.{der}
use Rattle.asn1_schema.specs.Tape.{value_of}
use Rattle.asn1_schema.specs.Values.{Value}
use Rattle.asn1_typed.specs.Strict.{HasEncoding, IsByDer}
use Rattle.asn1_typed.proofs.strict.check_typed.Goals as goal

pub returns-in-Err-NotDer-clause-finds : goal.returns-in-Err-NotDer-clause-finds
returns-in-Err-NotDer-clause-finds c =
    subst (λ table. IsNotStrict table 64 c.args.of c.args.input.octets.now) c.deref.ensures.value
    (c.in-Err-NotDer.ensures.not_strict (λ e. let f = sym c.in-Err-NotDer.field-0-is ∙ e in absurd (cc (f))))

pub returns-in-Err-NotDer-clause-tells : goal.returns-in-Err-NotDer-clause-tells
returns-in-Err-NotDer-clause-tells c =
    let told = c.in_ok-push_refusal-in-Err-NotDer.ensures in
    let none = c.in-Err-NotDer.ensures.not_der c.in-Err-NotDer.field-0-0 (ap Err c.in-Err-NotDer.field-0-is) in (
      told.0,
      inl (
        (c.decode_strict.new.refusal, told.1),
        subst (λ table. (value : Value) → Word der table 64 c.args.of c.args.input.octets.now value → ⊥) c.deref.ensures.value none,
      ),
      told.2,
    )

pub returns-in-Err-Differs-clause-finds : goal.returns-in-Err-Differs-clause-finds
returns-in-Err-Differs-clause-finds c =
    subst (λ table. IsNotStrict table 64 c.args.of c.args.input.octets.now) c.deref.ensures.value
    (c.in-Err-Differs.ensures.not_strict (λ e. let f = sym c.in-Err-Differs.field-0-is ∙ e in absurd (cc (f))))

pub encoding_of-requires-clause-encoded : goal.encoding_of-requires-clause-encoded
encoding_of-requires-clause-encoded c =
    let other = c.in-Err-Differs.ensures.differs c.in-Err-Differs.octet (ap Err c.in-Err-Differs.field-0-is) in
    let has : HasEncoding c.deref.result.now c.args.of c.decode_strict.new.tape.items =
    (other.holds.other, other.kept, other.holds.strict_word, other.is) in
    subst (λ tape. HasEncoding c.args.schema.now.nodes.items c.args.of tape) (sym c.deref-in-Err-Differs.ensures.value)
    (subst (λ table. HasEncoding table c.args.of c.decode_strict.new.tape.items) c.deref.ensures.value has)

pub returns-in-Err-Differs-clause-tells : goal.returns-in-Err-Differs-clause-tells
returns-in-Err-Differs-clause-tells c =
    let told = c.in_ok-push_difference-in-Err-Differs.ensures in
    let octets = c.args.input.octets.now in
    let other = c.in-Err-Differs.ensures.differs c.in-Err-Differs.octet (ap Err c.in-Err-Differs.field-0-is) in (
      told.0,
      inr (inl (
        c.in-Err-Differs.octet,
        told.1,
        subst (λ table. IsByDer table c.args.of octets (HasOther table 64 c.args.of octets c.in-Err-Differs.octet)) c.deref.ensures.value
            (value_of other.kept, other.word, other.holds),
      )),
      told.2,
    )

pub returns-clause-finds : goal.returns-clause-finds
returns-clause-finds c =
    subst (λ table. IsNotStrict table 64 c.args.of c.args.input.octets.now) c.deref.ensures.value
    (c.in-Err-NoEncoding.ensures.not_strict (λ e. let f = sym c.in-Err-NoEncoding.field-0-is ∙ e in absurd (cc (f))))

pub returns-clause-tells : goal.returns-clause-tells
returns-clause-tells c =
    let told = c.in_ok-push_no_encoding-in-Err-NoEncoding.ensures in
    let octets = c.args.input.octets.now in
    let none = c.in-Err-NoEncoding.ensures.none (ap Err c.in-Err-NoEncoding.field-0-is) in (
      told.0,
      inr (inr (
        told.1,
        subst (λ table. IsByDer table c.args.of octets (HasNoEncoding table 64 c.args.of)) c.deref.ensures.value
            (value_of none.kept, none.word, none.holds),
      )),
      told.2,
    )
