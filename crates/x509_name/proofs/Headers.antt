-- Headers of counted elements, and the refusals of counts.
use Rattle.std.proofs.Common.{◌≡◌, ◌≢◌, ◌∙◌, ap, refl, subst, sym, ℕ, ◌≤◌}
use Rattle.std.proofs.Common.{Bool, true, false, List, [], length, inl, inr, arith}
use Rattle.std.proofs.lemmas.Bool.{false≢true}
use Rattle.std.specs.Prelude.{◌==◌, None, Result}
use Rattle.x690.specs.Laws.StrictHeaders.{header_octets_are}
use Rattle.x690.specs.Strict.{header_octets}
use Rattle.asn1_headers.specs.Error.{written_refusal}
use Rattle.asn1_headers.specs.Header.{HasParts}
use Rattle.asn1_headers.specs.Header.Writing.{strict_header}
use Rattle.asn1_headers.specs.Prepended.{Prepended}
use Rattle.asn1_headers.specs.Writer.{MayRefuse}
use Rattle.asn1_headers.specs.declared.class.Class.TheVariants as classes
use Rattle.asn1_headers.specs.declared.error.Error.{Error}
use Rattle.asn1_headers.specs.declared.error.Error.TheVariants as errors
use Rattle.asn1_headers.specs.declared.error.SerializeError.{SerializeError}
use Rattle.asn1_headers.specs.declared.header.Header.{Header}
use Rattle.asn1_headers.specs.declared.length.Length.TheVariants as forms
use Rattle.asn1_headers.specs.declared.tag.Tag.{Tag}
use Rattle.asn1_rs.specs.ToDer.{MayRefuseCount, Refuses, RefusesCount, WrittenRefusal}

-- A header of these parts is the strict one.
pub strict_of : (h : Header) (tag : Tag) (n : ℕ) → HasParts h classes.Universal true tag (forms.Definite n) None →
    strict_header h ≡ header_octets 0 true tag.0 n
strict_of h tag n p =
    rw (p.class_is, p.constructed_is, p.tag_is, p.length_is) (sym (header_octets_are 0 true tag.0 n))

-- A refused count of fewer octets, as it comes out of a writing.
pub counted_may : (e : Error) (m n : ℕ) → m ≤ n → MayRefuseCount false m e → MayRefuse false n (written_refusal e)
counted_may errors.InvalidLength m n l h = omega arith
counted_may errors.OutOfMemory m n l h = h
counted_may _ m n l h = absurd h

pub counted_refuses : (e : Error) (own : Error → Type 0) (m n : ℕ) → m ≤ n → RefusesCount false m own e →
    Refuses false n (WrittenRefusal own) (written_refusal e)
counted_refuses e own m n l (inl h) = inl (counted_may e m n l h)
counted_refuses e own m n l (inr o) = inr (e, o, refl)

-- Octets that are the same are put in front alike.
pub put_same : (o p old new : List ℕ) (r : Result ℕ SerializeError) → o ≡ p → Prepended o old new r →
    Prepended p old new r
put_same o p old new r e q = subst (λ (z : List ℕ). Prepended z old new r) e q

-- Octets that are not none are some.
pub some_left : (octets : List ℕ) (b : Bool) → b ≡ false → b ≡ (length octets == 0) → octets ≢ []
some_left octets b f g e =
    let k : (length octets == 0) ≡ true = ap (λ (o : List ℕ). length o == 0) e in
    absurd (false≢true (sym f ∙ g ∙ k))
