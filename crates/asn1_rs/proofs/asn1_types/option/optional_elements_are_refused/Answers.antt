use Rattle.std.proofs.Common.{◌≡◌}
use Rattle.x690.specs.Elements.{IsDerElement}
use Rattle.x690.specs.Faults.{DerElementFault}
use Rattle.x690.specs.Identifiers.{IsTruncatedIdentifier}
use Rattle.x690.specs.Nested.{IsElement, ElementFault}
use Rattle.asn1_headers.specs.Ber.{max_depth, EndsWithin}
use Rattle.asn1_headers.specs.Header.Reading.{ber_violation, der_violation}
use Rattle.asn1_rs.specs.Any.{IsDefiniteOr, IsTheElement}
use Rattle.asn1_rs.specs.Optional.{IsAtEnd}
use Rattle.asn1_rs.specs.Traits.{BerGives, DerGives}
use Rattle.asn1_rs.specs.Laws.Any.{ber_any, der_any}
use Rattle.asn1_rs.specs.Laws.Optional.{element_is_refused, element_stays_in}
use Rattle.asn1_rs.specs.Laws.Readers.{ber_elements, der_elements}
use Rattle.asn1_rs.proofs.asn1_types.option.optional_elements_are_refused.Goals as goal

pub returns-clause-ber : goal.returns-clause-ber
returns-clause-ber c = element_is_refused (IsElement max_depth) (ElementFault max_depth) EndsWithin ber_elements
    ber_violation IsAtEnd (BerGives IsTheElement (λ e f. f ≡ e)) ber_any

pub returns-clause-der : goal.returns-clause-der
returns-clause-der c = element_is_refused IsDerElement DerElementFault IsTruncatedIdentifier der_elements
    der_violation IsAtEnd (DerGives IsDefiniteOr IsTheElement (λ e f. f ≡ e)) der_any

pub returns-clause-ber_stays : goal.returns-clause-ber_stays
returns-clause-ber_stays c = element_stays_in (BerGives IsTheElement (λ e f. f ≡ e))

pub returns-clause-der_stays : goal.returns-clause-der_stays
returns-clause-der_stays c = element_stays_in (DerGives IsDefiniteOr IsTheElement (λ e f. f ≡ e))
