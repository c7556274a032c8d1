use Rattle.std.proofs.Common.{Result, Ok, Err, ℕ}
use Rattle.std.specs.Prelude.{IfOk}
use Rattle.asn1_schema.specs.declared.build.Schema.{Schema}
use Rattle.asn1_schema.specs.Tape.{value_of}
use Rattle.asn1_json.specs.MadeFrom.{IsMadeFrom}
use Rattle.asn1_schema.specs.declared.owned.OwnedTape.{OwnedTape}
use Rattle.asn1_typed.specs.declared.encoding.Encoded.{Encoded}
use Rattle.asn1_typed.specs.declared.encoding.Encoded.TheVariants as answers
use Rattle.asn1_typed.specs.declared.input.Input.{Input}
use Rattle.asn1_typed.specs.Encodings.{IsEncoded, IsEncodedAs}
use Rattle.asn1_typed.proofs.encoding.encode.Goals as goal

encoded : {E : Type 0} (schema : Schema) (of : ℕ) (input : Input) (made : OwnedTape) (m : IsMadeFrom schema 64 of input.octets.now made)
    (r : Result Encoded E) → IfOk r (IsEncodedAs schema of (value_of m.kept)) → IfOk r (IsEncoded schema of input)
encoded schema of input made m (Ok (answers.Value octets)) w =
    record { json = m.json; value = value_of m.kept; utf8 = m.utf8; is = m.is; denotes = m.denotes; word = w }
encoded schema of input made m (Ok (answers.Refused line)) w = tt
encoded schema of input made m (Err e) w = tt

pub returns-in-Ok : goal.returns-in-Ok
returns-in-Ok c =
    let m = c.in-Ok.ensures.ok in
    encoded c.args.schema.now c.args.of c.args.input _ m c.written.result (c.written.ensures m.kept m.tape)

pub returns-in-Err-Refused : goal.returns-in-Err-Refused
returns-in-Err-Refused c = c.refused.ensures.encoded c.args.of
