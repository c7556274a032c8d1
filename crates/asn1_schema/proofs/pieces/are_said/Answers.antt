use Rattle.std.proofs.Common.{◌≡◌, ◌∙◌, ◌↔◌, sym, ap, subst, refl, List, ℕ, [], ◌∷◌, ◌++◌, IsTrue}
use Rattle.std.specs.Prelude.{map}
use Rattle.asn1_schema.specs.declared.coding.Coding.TheVariants as codings
use Rattle.asn1_schema.specs.declared.schema.TextKind.{TextKind}
use Rattle.asn1_schema.specs.declared.pieces.Sort.{Sort}
use Rattle.asn1_schema.specs.declared.pieces.Sort.TheVariants as sorts
use Rattle.asn1_schema.specs.Values.{joined}
use Rattle.asn1_schema.specs.declared.schema.TimeKind.{TimeKind}
use Rattle.asn1_schema.specs.Rules.{IsTime}
use Rattle.asn1_schema.specs.Grammar.{IsText}
use Rattle.asn1_schema.specs.Tape.{marks}
use Rattle.asn1_schema.specs.Joined.{all_octets}
use Rattle.asn1_schema.specs.Pieces.{Elem, piece_mark, IsSaid}
use Rattle.asn1_schema.proofs.pieces.are_said.Goals as goal

octets_joined : (kind : TextKind) (xs : List (List ℕ)) → all_octets (map (piece_mark (sorts.Text kind)) xs) ≡ joined xs
octets_joined kind [] = refl
octets_joined kind (x ∷ xs) = ap (λ (z : List ℕ). x ++ z) (octets_joined kind xs)

pub returns-in-Text : goal.returns-in-Text
returns-in-Text c = λ max.
    subst (λ (s : Sort). (xs : List (List (Elem s))) → marks c.args.pieces.now ≡ map (piece_mark s) xs →
    IsTrue c.are_text.result ↔ IsSaid (codings.Ber max) s (joined xs)) (sym c.in-Text.is)
    (λ xs m. subst (λ (o : List ℕ). IsTrue c.are_text.result ↔ IsText c.in-Text.kind o)
    (c.of_pieces.ensures ∙ ap all_octets m ∙ octets_joined c.in-Text.kind xs) c.are_text.ensures)

times_joined : (kind : TimeKind) (xs : List (List ℕ)) → all_octets (map (piece_mark (sorts.Time kind)) xs) ≡ joined xs
times_joined kind [] = refl
times_joined kind (x ∷ xs) = ap (λ (z : List ℕ). x ++ z) (times_joined kind xs)

pub returns-in-Time : goal.returns-in-Time
returns-in-Time c = λ max.
    subst (λ (s : Sort). (xs : List (List (Elem s))) → marks c.args.pieces.now ≡ map (piece_mark s) xs →
    IsTrue c.is_time_text.result ↔ IsSaid (codings.Ber max) s (joined xs)) (sym c.in-Time.is)
    (λ xs m. subst (λ (o : List ℕ). IsTrue c.is_time_text.result ↔ IsTime c.in-Time.kind o)
    (c.of_pieces-in-Time.ensures ∙ ap all_octets m ∙ times_joined c.in-Time.kind xs) c.is_time_text.ensures)
