-- Readers of values with the header that they were read under are exact.
use Rattle.std.specs.Prelude.{◌≡◌, ◌≢◌, ℕ, Bool, List, ◌++◌, Result, Ok, Err, IfErr}
use Rattle.std.proofs.Common.{◌∙◌, ap, sym, subst, refl, inl, inr}
use Rattle.x690.specs.Octets.{IsOctets}
use Rattle.x690.specs.Identifiers.{Identifier}
use Rattle.x690.specs.Elements.{Parts}
use Rattle.x690.specs.Faults.{Violation, Fault}
use Rattle.x690.specs.Joined.{IsPrefixFree}
use Rattle.asn1_rs.specs.declared.asn1_types.any.Any.{Any}
use Rattle.asn1_rs.specs.declared.asn1_types.tagged.parser.TaggedParser.{TaggedParser}
use Rattle.asn1_headers.specs.declared.error.Err.{Err as Refusal}
use Rattle.asn1_headers.specs.declared.error.Error.{Error}
use Rattle.asn1_headers.specs.declared.error.Error.TheVariants.{OutOfMemory}
use Rattle.asn1_headers.specs.declared.tag.Tag.{Tag}
use Rattle.asn1_headers.specs.Answers.{HasPrefix, Exactly, TellsMemory, IsOther}
use Rattle.asn1_rs.specs.Any.{parts_of, BeginsWithAny}
use Rattle.asn1_rs.specs.Checks.{CheckGives}
use Rattle.asn1_headers.specs.Error.{ErrorIs}
use Rattle.asn1_rs.specs.Grammar.{ElementWord, NoCheck, TakesBody}
use Rattle.asn1_headers.specs.Header.{identifier_of}
use Rattle.asn1_headers.specs.Header.Reading.{refusal_of}
use Rattle.asn1_rs.specs.Kinds.{IsExactCheck}
use Rattle.asn1_rs.specs.Laws.Readers.{AreLawfulElements, none_now, prefix_more, speaks_fault, fault_no_memory}
use Rattle.asn1_rs.specs.Laws.Readers.{element_exact}
use Rattle.asn1_rs.specs.Laws.Readers.{element_no_memory, passes_all, all_pass}
use Rattle.asn1_rs.specs.Laws.Tagged.{whole_is, whole_refused, whole_no_memory}
use Rattle.asn1_rs.specs.Laws.Tagged.Implicit.{parts_under}
use Rattle.asn1_rs.specs.Tagged.{ThenGives}
use Rattle.asn1_rs.specs.Tagged.Headed.{HeadedBody, HeadedWhole, UnderBody, CheckedBody, headed_value}
use Rattle.asn1_rs.specs.Tagged.Parser.{IsUnder, TakesExplicit, TakesWholeContent, TakesImplicit, ChecksAndConverts}
use Rattle.asn1_rs.specs.Tagged.Parser.{parser_header, inner_of}
use Rattle.asn1_rs.specs.Traits.{ElementGives, PassesAll}

-- Explicit tags.

-- the identifier of the header in hand, and the value within
abbrev parser_value : {K T V E : Type 0} → (T → V) → TaggedParser K T E → Identifier × V
parser_value value = headed_value (λ t. identifier_of (parser_header t)) inner_of value

-- the element that was read is the one of any word at the front
word_body : {V : Type 0} (ElementOf : List ℕ → Parts → Type 0) → IsPrefixFree ElementOf →
    (Body : Parts → V → Type 0) (input more rest w r : List ℕ) (p : Parts) (v : V) →
    HasPrefix ElementOf input p rest → input ++ more ≡ w ++ r → ElementWord ElementOf NoCheck Body w v → Body p v
word_body ElementOf one Body input more rest w r p v f h d =
    let front = prefix_more ElementOf input p rest more f in
    let same = one.one front.word w (rest ++ more) r p d.0 front.fits d.1 (sym front.is ∙ h) in
    subst (λ (q : Parts). Body q v) (sym same.1) d.3

module _ {K T V E : Type 0} (ElementOf : List ℕ → Parts → Type 0) (FaultOf : List ℕ → Fault → Type 0)
    (IsTruncated : List ℕ → Type 0) (elements : AreLawfulElements ElementOf FaultOf IsTruncated)
    (refuses : Violation → Error)
    (reads : List ℕ → Result (List ℕ × T) (Refusal E) → Type 0) (from : Error → E → Type 0) (G : List ℕ → V → Type 0)
    (value : T → V) (allocates : Bool)
    (exact : (octets : List ℕ) (answer : Result (List ℕ × T) (Refusal E)) → IsOctets octets → reads octets answer →
    Exactly IsTruncated G value (TellsMemory allocates from) octets answer) where
  -- A reader of values with the header of an explicit tag is exact where the value's reader is.
  pub explicit_parser_exact : (input : List ℕ) (answer : Result (List ℕ × TaggedParser K T E) (Refusal E)) →
      ThenGives ElementOf FaultOf (refusal_of refuses) from (TakesExplicit reads) input answer → Exactly IsTruncated
      (ElementWord ElementOf NoCheck (HeadedBody G)) (parser_value value) (TellsMemory allocates from) input answer
  explicit_parser_exact input (Ok x) (any, rest, begins, (same, header, (left, read))) = record {
    word = begins.front.word;
    fits = (
      parts_of any,
      begins.front.fits,
      tt,
      record {
        id = ap identifier_of header;
        rest = left;
        inner = exact any.content.now (Ok (left, inner_of x.1))
            (elements.possible begins.front.word (parts_of any) begins.front.fits).content read;
      },
    );
    is = begins.front.is ∙ ap (λ (r : List ℕ). begins.front.word ++ r) (sym same);
  }
  explicit_parser_exact input (Err r) (inl (fault, f, c)) = inr (λ more s w rest v e d.
      elements.final input more w rest d.0 fault f
      (speaks_fault refuses from fault r (IsTruncated input) more (elements.counts input fault f) c s) d.1 e)
  explicit_parser_exact input (Err r) (inr (any, rest, begins, read)) =
      elim (exact any.content.now (Err r)
      (elements.possible begins.front.word (parts_of any) begins.front.fits).content read) [
        | inl m ↦ inl m
        | inr n ↦ inr (λ more s w tail v h d.
            let b = word_body ElementOf elements.one (HeadedBody G) input more rest w tail (parts_of any) v begins.front
            h d in
            none_now (IsTruncated any.content.now) r G any.content.now n b.inner.word b.rest v.1 b.inner.is b.inner.fits)
      ]

  -- One that wants the value to be all of the contents octets is exact, too, where one word alone begins an input.
  pub whole_parser_exact : IsPrefixFree G → (input : List ℕ)
      (answer : Result (List ℕ × TaggedParser K T E) (Refusal E)) →
      ThenGives ElementOf FaultOf (refusal_of refuses) from (TakesWholeContent reads from) input answer →
      Exactly IsTruncated
      (ElementWord ElementOf NoCheck (HeadedWhole G)) (parser_value value) (TellsMemory allocates from) input answer
  whole_parser_exact one input (Ok x) (any, rest, begins, (same, header, read)) = record {
    word = begins.front.word;
    fits = (
      parts_of any,
      begins.front.fits,
      tt,
      record {
        id = ap identifier_of header;
        inner = whole_is reads from G value allocates IsTruncated exact any.content.now (inner_of x.1)
            (elements.possible begins.front.word (parts_of any) begins.front.fits).content read;
      },
    );
    is = begins.front.is ∙ ap (λ (r : List ℕ). begins.front.word ++ r) (sym same);
  }
  whole_parser_exact one input (Err r) (inl (fault, f, c)) = inr (λ more s w rest v e d.
      elements.final input more w rest d.0 fault f
      (speaks_fault refuses from fault r (IsTruncated input) more (elements.counts input fault f) c s) d.1 e)
  whole_parser_exact one input (Err r) (inr (any, rest, begins, read)) =
      elim (whole_refused reads from G value allocates IsTruncated exact one any.content.now r
      (elements.possible begins.front.word (parts_of any) begins.front.fits).content read) [
        | inl m ↦ inl m
        | inr none ↦ inr (λ more s w tail v h d.
            none v.1 (word_body ElementOf elements.one (HeadedWhole G) input more rest w tail (parts_of any) v
            begins.front h d).inner)
      ]

-- where the value's reader does not allocate, no refusal reports out of memory
pub explicit_parser_no_memory : {K T E : Type 0} (ElementOf : List ℕ → Parts → Type 0)
    (FaultOf : List ℕ → Fault → Type 0)
    (refuses : Violation → Error) → ((violation : Violation) → refuses violation ≢ OutOfMemory) →
    (reads : List ℕ → Result (List ℕ × T) (Refusal E) → Type 0) (from : Error → E → Type 0) →
    ((octets : List ℕ) (answer : Result (List ℕ × T) (Refusal E)) → reads octets answer →
    IfErr answer (ErrorIs (IsOther from))) →
    (input : List ℕ) (answer : Result (List ℕ × TaggedParser K T E) (Refusal E)) →
    ThenGives ElementOf FaultOf (refusal_of refuses) from (TakesExplicit reads) input answer →
    IfErr answer (ErrorIs (IsOther from))
explicit_parser_no_memory ElementOf FaultOf refuses other reads from asks_no_memory input (Ok x) g = tt
explicit_parser_no_memory ElementOf FaultOf refuses other reads from asks_no_memory input (Err r) (inl (fault, f, c)) =
    fault_no_memory from refuses other fault r c
explicit_parser_no_memory ElementOf FaultOf refuses other reads from asks_no_memory input (Err r)
    (inr (any, rest, begins, read)) =
    asks_no_memory any.content.now (Err r) read

-- nor where the value is to be all of the contents octets
pub whole_parser_no_memory : {K T E : Type 0} (ElementOf : List ℕ → Parts → Type 0) (FaultOf : List ℕ → Fault → Type 0)
    (refuses : Violation → Error) → ((violation : Violation) → refuses violation ≢ OutOfMemory) →
    (reads : List ℕ → Result (List ℕ × T) (Refusal E) → Type 0) (from : Error → E → Type 0) →
    ((octets : List ℕ) (answer : Result (List ℕ × T) (Refusal E)) → reads octets answer →
    IfErr answer (ErrorIs (IsOther from))) →
    (input : List ℕ) (answer : Result (List ℕ × TaggedParser K T E) (Refusal E)) →
    ThenGives ElementOf FaultOf (refusal_of refuses) from (TakesWholeContent reads from) input answer →
    IfErr answer (ErrorIs (IsOther from))
whole_parser_no_memory ElementOf FaultOf refuses other reads from asks_no_memory input (Ok x) g = tt
whole_parser_no_memory ElementOf FaultOf refuses other reads from asks_no_memory input (Err r) (inl (fault, f, c)) =
    fault_no_memory from refuses other fault r c
whole_parser_no_memory ElementOf FaultOf refuses other reads from asks_no_memory input (Err r)
    (inr (any, rest, begins, read)) =
    whole_no_memory reads from asks_no_memory any.content.now r read

-- Implicit tags.

-- what converting an element under that tag number may answer: the value with the element's own header, or the refusal
abbrev ConvertsToHeaded : {K T E : Type 0} → Tag → (Any → Result T E → Type 0) → Any →
    Result (TaggedParser K T E) E → Type 0
ConvertsToHeaded own converts any (Ok t) =
    (parser_header t ≡ any.header) × ((other : Any) × IsUnder own any other × converts other (Ok (inner_of t)))
ConvertsToHeaded own converts any (Err e) = (other : Any) × IsUnder own any other × converts other (Err e)

-- so it is the conversion of an element that was read
as_conversion : {K T E : Type 0} (ElementOf : List ℕ → Parts → Type 0) (FaultOf : List ℕ → Fault → Type 0)
    (refusal : Fault → Refusal Error) (own : Tag) (converts : Any → Result T E → Type 0) (from : Error → E → Type 0)
    (input : List ℕ) (answer : Result (List ℕ × TaggedParser K T E) (Refusal E)) →
    ThenGives ElementOf FaultOf refusal from (TakesImplicit own converts) input answer →
    ElementGives ElementOf FaultOf refusal PassesAll (ConvertsToHeaded own converts) from input answer
as_conversion ElementOf FaultOf refusal own converts from input (Ok x) (any, rest, begins, (same, header, under)) =
    (any, subst (BeginsWithAny ElementOf input any) (sym same) begins, refl, (header, under))
as_conversion ElementOf FaultOf refusal own converts from input (Err r) (inl fault) = inl fault
as_conversion ElementOf FaultOf refusal own converts from input (Err r)
    (inr (any, rest, begins, (other, under, (e, c, is)))) = inr (
      any,
      rest,
      begins,
      inr (refl, (e, (other, under, c), is)),
    )

-- the check and the conversion are exact together
pub checked_exact : {T V E : Type 0} (check : CheckGives) (Check : Parts → Type 0) → IsExactCheck check Check →
    (converts : Any → Result T E → Type 0) (from : Error → E → Type 0) (Body : Parts → V → Type 0) (value : T → V)
    (allocates : Bool) →
    ((any : Any) (answer : Result T E) → IsOctets any.content.now → converts any answer →
    TakesBody Body value allocates from (parts_of any) answer) →
    (any : Any) (answer : Result T E) → IsOctets any.content.now → ChecksAndConverts check converts from any answer →
    TakesBody (CheckedBody Check Body) value allocates from (parts_of any) answer
checked_exact check Check l converts from Body value allocates exact any (Ok x) o (c, g) =
    (l.exact (parts_of any) (Ok tt) c, exact any (Ok x) o g)
checked_exact check Check l converts from Body value allocates exact any (Err e) o (inl (refusal, c, f)) =
    inr (λ v b. l.exact (parts_of any) (Err refusal) c b.0)
checked_exact check Check l converts from Body value allocates exact any (Err e) o (inr (c, g)) =
    elim (exact any (Err e) o g) [
      | inl m ↦ inl m
      | inr none ↦ inr (λ v b. none v b.1)
    ]

-- Where check and conversion do not report out of memory, both together do not.
pub checked_no_memory : {T E : Type 0} (check : CheckGives) → ((p : Parts) → check p (Err OutOfMemory) → ⊥) →
    (converts : Any → Result T E → Type 0) (from : Error → E → Type 0) →
    ((any : Any) (e : E) → converts any (Err e) → IsOther from e) →
    (any : Any) (e : E) → ChecksAndConverts check converts from any (Err e) → IsOther from e
checked_no_memory check checked converts from asks_no_memory any e (inl (refusal, c, f)) =
    inl (refusal, λ q. checked (parts_of any) (subst (λ (x : Error). check (parts_of any) (Err x)) q c), f)
checked_no_memory check checked converts from asks_no_memory any e (inr (c, g)) = asks_no_memory any e g

module _ {K T E : Type 0} (ElementOf : List ℕ → Parts → Type 0) (FaultOf : List ℕ → Fault → Type 0)
    (refuses : Violation → Error) (own : Tag) (converts : Any → Result T E → Type 0) (from : Error → E → Type 0) where
  module _ {V : Type 0} (IsTruncated : List ℕ → Type 0) (elements : AreLawfulElements ElementOf FaultOf IsTruncated)
      (Body : Parts → V → Type 0) (value : T → V) (allocates : Bool)
      (exact : (any : Any) (answer : Result T E) → IsOctets any.content.now → converts any answer →
      TakesBody Body value allocates from (parts_of any) answer) where
    -- The conversion under that tag number is exact where the value's is.
    under_exact : (any : Any) (answer : Result (TaggedParser K T E) E) → IsOctets any.content.now →
        ConvertsToHeaded own converts any answer →
        TakesBody (UnderBody own.0 Body) (parser_value value) allocates from (parts_of any) answer
    under_exact any (Ok t) o (header, (other, u, g)) = record {
      id = ap identifier_of header;
      body = subst (λ (p : Parts). Body p (value (inner_of t))) (parts_under own any other u)
          (exact other (Ok (inner_of t)) (subst IsOctets (sym u.content) o) g);
    }
    under_exact any (Err e) o (other, u, g) =
        elim (exact other (Err e) (subst IsOctets (sym u.content) o) g) [
          | inl m ↦ inl m
          | inr none ↦
              inr (λ v b. none v.1 (subst (λ (p : Parts). Body p v.1) (sym (parts_under own any other u)) b.body))
        ]

    -- A reader of values with the header of an implicit tag is exact where the value's conversion is.
    pub implicit_parser_exact : (input : List ℕ) (answer : Result (List ℕ × TaggedParser K T E) (Refusal E)) →
        ThenGives ElementOf FaultOf (refusal_of refuses) from (TakesImplicit own converts) input answer →
        Exactly IsTruncated (ElementWord ElementOf NoCheck (UnderBody own.0 Body)) (parser_value value)
        (TellsMemory allocates from) input answer
    implicit_parser_exact input answer g =
        element_exact ElementOf FaultOf IsTruncated elements refuses PassesAll (ConvertsToHeaded own converts) from NoCheck
        (UnderBody own.0 Body) (parser_value value) allocates (ElementWord ElementOf NoCheck (UnderBody own.0 Body))
        passes_all under_exact (λ o v w. w) (λ o v w. w) input answer
        (as_conversion ElementOf FaultOf (refusal_of refuses) own converts from input answer g)

  -- Where the value's conversion does not allocate, no refusal reports out of memory.
  pub implicit_parser_no_memory : ((violation : Violation) → refuses violation ≢ OutOfMemory) →
      ((any : Any) (e : E) → converts any (Err e) → IsOther from e) →
      (input : List ℕ) (answer : Result (List ℕ × TaggedParser K T E) (Refusal E)) →
      ThenGives ElementOf FaultOf (refusal_of refuses) from (TakesImplicit own converts) input answer →
      IfErr answer (ErrorIs (IsOther from))
  implicit_parser_no_memory other asks_no_memory input answer g =
      element_no_memory ElementOf FaultOf refuses other PassesAll (ConvertsToHeaded own converts) from all_pass
      (λ any e c. asks_no_memory c.0 e c.2) input answer
      (as_conversion ElementOf FaultOf (refusal_of refuses) own converts from input answer g)
