use Rattle.std.proofs.Common.{◌≡◌, sym, subst, refl}
use Rattle.asn1_schema.specs.declared.pieces.Sort.{Sort}
use Rattle.asn1_schema.specs.Pieces.{string_of}
use Rattle.asn1_schema.proofs.pieces.piece_number.Goals as goal

pub returns-in-Octets : goal.returns-in-Octets
returns-in-Octets c = λ e. subst (λ (s : Sort). 4 ≡ (string_of e s).number) (sym c.in-Octets.is) refl

pub returns-in-Text : goal.returns-in-Text
returns-in-Text c = λ e. subst (λ (s : Sort). 4 ≡ (string_of e s).number) (sym c.in-Text.is) refl

pub returns-in-Bits : goal.returns-in-Bits
returns-in-Bits c = λ e. subst (λ (s : Sort). 3 ≡ (string_of e s).number) (sym c.in-Bits.is) refl

pub returns-in-Time : goal.returns-in-Time
returns-in-Time c = λ e. subst (λ (s : Sort). 4 ≡ (string_of e s).number) (sym c.in-Time.is) refl
