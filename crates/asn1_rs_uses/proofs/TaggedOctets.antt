-- A string under a tag whose number is told at run time.
use Rattle.std.proofs.Common.{◌≡◌, ◌∙◌, ap, sym, subst, ℕ, List, ◌++◌}
use Rattle.std.specs.Prelude.{Result, Ok, Err, IfOk, IfErr}
use Rattle.x690.specs.Octets.{IsOctets}
use Rattle.asn1_headers.specs.declared.error.Err.{Err as Refusal}
use Rattle.asn1_headers.specs.declared.error.Err.TheVariants.{Incomplete as truncated, Error as refused, Failure as failed}
use Rattle.asn1_headers.specs.Error.{Converted}
use Rattle.asn1_headers.specs.declared.error.Error.{Error}
use Rattle.asn1_headers.specs.declared.tag.Tag.{Tag}
use Rattle.asn1_headers.specs.Answers.{HasPrefix}
use Rattle.asn1_headers.specs.Header.{tag_of}
use Rattle.asn1_rs.specs.declared.asn1_types.tagged.parser.TaggedParser.{TaggedParser}
use Rattle.asn1_rs.specs.Any.{parts_of}
use Rattle.asn1_rs.specs.Laws.Tagged.{front_whole}
use Rattle.asn1_rs.specs.Tagged.{ThenByDer}
use Rattle.asn1_rs.specs.Tagged.Parser.{TakesWholeContent, TagCheckGives, Expects}
use Rattle.asn1_rs_uses.specs.Borrowed.{StringByDer}
use Rattle.asn1_rs_uses.specs.TaggedOctets.{BeginsUnderNumber, SameError}

-- a string that was read under an explicit tag of the number
pub string_found : {K T : Type 0} (value : T → List ℕ) (number : Tag) (n : ℕ)
    (reads : List ℕ → Result (List ℕ × T) (Refusal Error) → Type 0) → number.0 ≡ n →
    ((o left : List ℕ) (x : T) → IsOctets o → reads o (Ok (left, x)) → HasPrefix StringByDer o (value x) left)
    → (octets : List ℕ) (answer : Result (List ℕ × TaggedParser K T Error) (Refusal Error)) →
    Expects (ThenByDer (λ e f. f ≡ e) (TakesWholeContent reads (λ e f. f ≡ e))) (TagCheckGives number) (λ e f. f ≡ e)
    octets
    answer
    → IfOk answer (λ x. BeginsUnderNumber n octets (value x.1.inner) x.0)
string_found value number n reads is front octets (Err e) gives = tt
string_found value number n reads is front octets (Ok (rest, parser))
    (after, read, (any, tail, begins, (ends, head, (Err own, r, none))), told) = absurd none
string_found {K} {T} value number n reads is front octets (Ok (rest, parser))
    (after, read, (any, tail, begins, (ends, head, (Ok (left, x), r, (none, inner)))), (asks, same_rest, same)) = (
      parts_of any,
      record {
        word = begins.front.word;
        element = begins.front.fits;
        is = begins.front.is ∙ ap (λ (o : List ℕ). begins.front.word ++ o) (sym (same_rest ∙ ends));
        number_is = ap (λ (z : Tag). z.0) (ap tag_of (sym head) ∙ asks) ∙ is;
      },
      subst (λ (t : T). StringByDer any.content.now (value t))
          (sym inner ∙ sym (ap (λ (p : TaggedParser K T Error). p.inner) same))
          (front_whole StringByDer any.content.now left (value x)
          (front any.content.now left x begins.front.fits.content_octets r) none),
    )

-- a refusal whose error stays as it is
pub same_refusal : (q r : Refusal Error) → Converted SameError q r → r ≡ q
same_refusal (truncated n) r c = c
same_refusal (refused e) r c = c.2 ∙ ap refused c.1
same_refusal (failed e) r c = c.2 ∙ ap failed c.1

abbrev pub as_tag : ℕ → Tag
as_tag n = record { 0 = n }

-- a refusal is what the call may answer, at the tag that was given
pub refused_under : {T E : Type 0} (gives : Tag → Result T E → Type 0) (answer : Result T E) (number tag : Tag) →
    number ≡ tag → gives number answer → IfErr answer (λ e. gives tag (Err e))
refused_under gives (Ok x) number tag is g = tt
refused_under gives (Err e) number tag is g = subst (λ (t : Tag). gives t (Err e)) is g
