use Rattle.asn1_headers.specs.Answers.{seen}
use Rattle.asn1_headers.specs.declared.error.Error.{Error}
use Rattle.asn1_headers.specs.declared.tag.Tag.{Tag}
use Rattle.asn1_rs.specs.Checks.{is_primitive}
use Rattle.asn1_rs.specs.Leaf.{LendsContent}
use Rattle.asn1_rs.specs.OctetString.{cow_of, octet_string_leaf, octet_string_number}
use Rattle.asn1_rs.specs.Tagged.{ThenByDer}
use Rattle.asn1_rs.specs.Tagged.Parser.{ChecksAndConverts, Expects, TagCheckGives, TakesImplicit}
use Rattle.asn1_rs.specs.declared.asn1_types.octet_string.OctetString.{OctetString}
use Rattle.asn1_rs.specs.declared.asn1_types.tagged.Implicit.{Implicit}
use Rattle.asn1_rs_uses.specs.TaggedOctets.{SameError}
use Rattle.asn1_rs_uses.proofs.TaggedOctets.{as_tag, refused_under}
use Rattle.asn1_rs_uses.proofs.tagged_octets.octets_under.Goals as goal

pub returns-clause-refused : goal.returns-clause-refused
returns-clause-refused c =
    let told = c.parse_der_tagged_implicit.ensures in
    refused_under (λ (t : Tag). Expects {K = Implicit} {T = OctetString} {E = Error} (ThenByDer SameError
    (TakesImplicit (as_tag octet_string_number)
    (ChecksAndConverts is_primitive (LendsContent octet_string_leaf cow_of) SameError))) (TagCheckGives t) SameError
    c.args.octets.now) (seen c.parse_der_tagged_implicit.result) told.0 (as_tag c.args.number) told.1 told.2
