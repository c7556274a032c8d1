-- The strict header of a header whose length is definite.
use Rattle.std.proofs.Common.{◌≡◌, ℕ, Bool, ap}
use Rattle.x690.specs.Strict.{header_octets, length_form_octets}
use Rattle.x690.specs.Laws.StrictHeaders.{header_octets_are}
use Rattle.asn1_headers.specs.declared.class.Class.{Class}
use Rattle.asn1_headers.specs.declared.header.Header.{Header}
use Rattle.asn1_headers.specs.declared.length.Length.{Length}
use Rattle.asn1_headers.specs.declared.length.Length.TheVariants.{Definite}
use Rattle.asn1_headers.specs.declared.tag.Tag.{Tag}
use Rattle.asn1_headers.specs.Class.{class_number}
use Rattle.asn1_headers.specs.Length.{form_of}
use Rattle.asn1_headers.specs.Header.{class_of, is_constructed_of, tag_of, length_of}
use Rattle.asn1_headers.specs.Header.Writing.{strict_header}

-- The octets that are made of the parts of a header, as its methods tell them, are its strict header.
pub strict_header_is : (h : Header) (class : Class) (number : ℕ) (constructed : Bool) (tag : Tag) (form : Length)
    (n : ℕ) → class ≡ class_of h → number ≡ class_number class → constructed ≡ is_constructed_of h → tag ≡ tag_of h →
    form ≡ length_of h → form ≡ Definite n → header_octets number constructed tag.0 n ≡ strict_header h
strict_header_is h class number constructed tag form n class_is number_is constructed_is tag_is form_is definite_is =
    let class_same = ap class_number class_is in
    let tag_same = ap (λ t. t.0) tag_is in
    let length_same = ap (λ l. length_form_octets (form_of l)) form_is in
    let definite_same = ap (λ l. length_form_octets (form_of l)) definite_is in
    let all = header_octets_are number constructed tag.0 n in
    cc
