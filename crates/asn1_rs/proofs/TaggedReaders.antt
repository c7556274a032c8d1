-- Readers that ask something of the header of what they read.
use Rattle.std.proofs.Common.{inr, ℕ, List, Result, Ok, Err}
use Rattle.asn1_rs.specs.declared.asn1_types.tagged.parser.TaggedParser.{TaggedParser}
use Rattle.asn1_headers.specs.declared.header.Header.{Header}
use Rattle.asn1_headers.specs.declared.error.Error.{Error}
use Rattle.asn1_headers.specs.declared.error.Err.{Err as Refusal}
use Rattle.asn1_rs.specs.Tagged.Parser.{Asks, Expects}

-- what asking it of what was read answers is what the reader answers
pub expects : {K T E : Type 0} (reads : List ℕ → Result (List ℕ × TaggedParser K T E) (Refusal E) → Type 0)
    (asks : Header → Result (Unit {0}) Error → Type 0) (from : Error → E → Type 0) (input rest : List ℕ)
    (parser : TaggedParser K T E) (answer : Result (List ℕ × TaggedParser K T E) (Refusal E)) →
    reads input (Ok (rest, parser)) → Asks asks from rest parser answer → Expects reads asks from input answer
expects reads asks from input rest parser (Ok x) read asked = (rest, parser, read, asked)
expects reads asks from input rest parser (Err r) read asked = inr (rest, parser, read, asked)
