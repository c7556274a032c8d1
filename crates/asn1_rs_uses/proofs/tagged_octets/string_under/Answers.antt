use Rattle.std.proofs.Common.{◌≡◌, ap, Ok}
use Rattle.asn1_headers.specs.Answers.{seen}
use Rattle.asn1_headers.specs.declared.error.Error.{Error}
use Rattle.asn1_headers.specs.declared.tag.Tag.{Tag}
use Rattle.asn1_rs.specs.Checks.{is_primitive}
use Rattle.asn1_rs.specs.Leaf.{LendsContent}
use Rattle.asn1_rs.specs.OctetString.{cow_of, octet_string_leaf, string_octets}
use Rattle.asn1_rs.specs.declared.asn1_types.octet_string.OctetString.{OctetString}
use Rattle.asn1_rs.specs.declared.asn1_types.tagged.Explicit.{Explicit}
use Rattle.asn1_rs.specs.Tagged.{ThenByDer}
use Rattle.asn1_rs.specs.Tagged.Parser.{Expects, TagCheckGives, TakesWholeContent}
use Rattle.asn1_rs.specs.Traits.{DerGives}
use Rattle.asn1_rs_uses.proofs.TaggedOctets.{as_tag, refused_under, string_found}
use Rattle.asn1_rs_uses.specs.TaggedOctets.{SameError}
use Rattle.asn1_rs_uses.proofs.tagged_octets.string_under.Goals as goal

pub returns-clause-string : goal.returns-clause-string
returns-clause-string c =
    let told = c.parse_der_tagged_explicit.ensures in
    string_found string_octets told.0 c.args.number
    (DerGives is_primitive (LendsContent octet_string_leaf cow_of) (λ e f. f ≡ e)) (ap (λ (z : Tag). z.0) told.1)
    (λ o left x are reads. c.reader_is_exact_by_der.ensures.exact o (Ok (left, x)) are reads) c.args.octets.now
    (seen c.parse_der_tagged_explicit.result) told.2

pub returns-clause-refused : goal.returns-clause-refused
returns-clause-refused c =
    let told = c.parse_der_tagged_explicit.ensures in
    refused_under (λ (t : Tag). Expects {K = Explicit} {T = OctetString} {E = Error} (ThenByDer SameError
    (TakesWholeContent (DerGives is_primitive (LendsContent octet_string_leaf cow_of) SameError) SameError))
    (TagCheckGives t)
    SameError c.args.octets.now) (seen c.parse_der_tagged_explicit.result) told.0 (as_tag c.args.number) told.1 told.2
