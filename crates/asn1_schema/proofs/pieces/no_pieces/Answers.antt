use Rattle.std.proofs.Common.{◌≡◌, sym, subst, refl, []}
use Rattle.asn1_schema.specs.declared.pieces.Sort.{Sort}
use Rattle.asn1_schema.specs.Values.{octets, text, time, bits}
use Rattle.asn1_schema.specs.Tape.{leaf_mark}
use Rattle.asn1_schema.specs.Pieces.{piece_mark}
use Rattle.asn1_schema.proofs.pieces.no_pieces.Goals as goal

pub returns-in-Octets : goal.returns-in-Octets
returns-in-Octets c = subst (λ (s : Sort). leaf_mark (octets []) ≡ piece_mark s []) (sym c.in-Octets.is) refl

pub returns-in-Text : goal.returns-in-Text
returns-in-Text c = subst (λ (s : Sort). leaf_mark (text c.in-Text.kind []) ≡ piece_mark s []) (sym c.in-Text.is) refl

pub returns-in-Bits : goal.returns-in-Bits
returns-in-Bits c = subst (λ (s : Sort). leaf_mark (bits []) ≡ piece_mark s []) (sym c.in-Bits.is) refl

pub returns-in-Time : goal.returns-in-Time
returns-in-Time c = subst (λ (s : Sort). leaf_mark (time c.in-Time.kind []) ≡ piece_mark s []) (sym c.in-Time.is) refl
