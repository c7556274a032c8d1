use Rattle.asn1_headers.specs.Answers.{seen}
use Rattle.asn1_rs.specs.Traits.{OfParts, DerGives}
use Rattle.asn1_rs.specs.Integer.{IntegerCheckGives, UnsignedGives}
use Rattle.asn1_rs_uses.proofs.JoinedNumbers.{same, set_begins, set_refused}
use Rattle.asn1_rs_uses.proofs.joined.set_of_numbers.Goals as goal

pub returns-clause-numbers : goal.returns-clause-numbers
returns-clause-numbers c = set_begins (DerGives IntegerCheckGives (OfParts (UnsignedGives 8)) same) c.args.octets.now
    c.lists_are_joined_words.ensures.read (seen c.from_der.result) c.from_der.ensures

pub returns-clause-refused : goal.returns-clause-refused
returns-clause-refused c = set_refused (DerGives IntegerCheckGives (OfParts (UnsignedGives 8)) same) c.args.octets.now
    c.lists_are_joined_words.ensures.not_read (seen c.from_der.result) c.from_der.ensures
