-- What readers of elements refuse before all else: octets that no header begins, and elements that are cut.
use Rattle.std.proofs.Common.{◌≡◌, ◌⊎◌, ◌∙◌, ap, sym, subst, zero, suc, ℕ, List, [], inl, inr, append-nil}
use Rattle.std.specs.Prelude.{Result, Ok, Err}
use Rattle.x690.specs.Identifiers.{IsTruncatedIdentifier}
use Rattle.x690.specs.Rules.{Rule, der_rule, ber_rule}
use Rattle.x690.specs.Elements.{Parts, IsDerElement}
use Rattle.x690.specs.Faults.{Violation, Fault, missing, tag_fault, length_fault, rule_fault, depth_fault, HeaderFault}
use Rattle.x690.specs.Faults.{DerElementFault}
use Rattle.x690.specs.Nested.{IsElement, ElementFault}
use Rattle.x690.specs.Laws.Faults.{CountsSome, speaks_now}
use Rattle.asn1_rs.specs.declared.asn1_types.any.Any.{Any}
use Rattle.asn1_headers.specs.declared.error.Err.{Err as Refusal}
use Rattle.asn1_headers.specs.declared.error.Err.TheVariants.{Incomplete as truncated}
use Rattle.asn1_headers.specs.declared.error.Needed.{Needed}
use Rattle.asn1_headers.specs.declared.error.Needed.TheVariants.{Size}
use Rattle.asn1_headers.specs.declared.error.Error.{Error}
use Rattle.asn1_headers.specs.Answers.{HasPrefix}
use Rattle.asn1_headers.specs.Ber.{max_depth, EndsWithin}
use Rattle.asn1_headers.specs.Error.{Converted}
use Rattle.asn1_headers.specs.Header.Reading.{HeaderGives, refusal_of, der_violation, ber_violation}
use Rattle.asn1_rs.specs.Any.{parts_of}
use Rattle.asn1_rs.specs.Laws.Readers.{AreLawfulElements, ber_elements, der_elements}
use Rattle.asn1_headers.specs.declared.tag.Tag.{Tag}
use Rattle.asn1_rs.specs.Tagged.{OfElement, ReadsWhole, ThenGives, ThenByBer, ThenByDer}
use Rattle.asn1_rs.specs.Tagged.Explicit.{ExplicitGives}
use Rattle.asn1_rs.specs.Tagged.Parser.{TakesExplicit, TakesWholeContent, TakesImplicit}
use Rattle.asn1_rs.specs.Faults.{TellsHeaderFirst, LacksOctets, TruncationsAreCounted, TruncationsAreCountedOrWithin}
use Rattle.asn1_rs.specs.Traits.{BerGives, DerGives, ElementGives, PassesAll}

-- a fault of the header is one of the element by BER
ber_header_fault : (depth : ℕ) (octets : List ℕ) (fault : Fault) → HeaderFault ber_rule octets fault →
    ElementFault depth octets fault
unfolding ElementFault
ber_header_fault zero octets fault why = inl why
ber_header_fault (suc depth) octets fault why = inl why

module _ (ElementOf : List ℕ → Parts → Type 0) (FaultOf : List ℕ → Fault → Type 0) (IsTruncated : List ℕ → Type 0)
    (elements : AreLawfulElements ElementOf FaultOf IsTruncated) (rule : Rule) (refuses : Violation → Error)
    (is_fault : (octets : List ℕ) (fault : Fault) → HeaderFault rule octets fault → FaultOf octets fault)
    (E : Type 0) (from : Error → E → Type 0) where
  -- the refusal of a fault of the element, or an element that begins the octets
  abbrev FaultOrElement : List ℕ → Refusal E → Type 0
  FaultOrElement octets r = ((fault : Fault) × FaultOf octets fault × Converted from (refusal_of refuses fault) r) ⊎
      ((p : Parts) × (rest : List ℕ) × HasPrefix ElementOf octets p rest)

  -- where no header begins the octets, it is the refusal of the header
  pub header_first : (octets : List ℕ) (q : Refusal Error) (r : Refusal E) →
      HeaderGives rule (refusal_of refuses) octets (Err q) → FaultOrElement octets r → Converted from q r
  header_first octets q r h (inl (fault, f, c)) =
      let same : fault ≡ h.0 = elements.alone octets fault h.0 f (is_fault octets h.0 h.1) in
      subst (λ (z : Refusal Error). Converted from z r) (ap (refusal_of refuses) same ∙ sym h.2) c
  header_first octets q r h (inr (p, rest, front)) =
      let why : FaultOf octets h.0 = is_fault octets h.0 h.1 in
      absurd (elements.final octets [] front.word rest p h.0 why
      (speaks_now (IsTruncated octets) h.0 (elements.counts octets h.0 why)) front.fits (append-nil octets ∙ front.is))

  -- so refuses a reader that reads an element first
  pub element_first : {T : Type 0} (check : Parts → Result (Unit {0}) Error → Type 0)
      (convert : Any → Result T E → Type 0) →
      TellsHeaderFirst rule refuses from (ElementGives ElementOf FaultOf (refusal_of refuses) check convert from)
  element_first check convert octets q r h (inl f) = header_first octets q r h (inl f)
  element_first check convert octets q r h (inr (any, rest, begins, why)) =
      header_first octets q r h (inr (parts_of any, rest, begins.front))

  -- a fault that is told by `Incomplete` is that octets are missing
  pub truncated_of_fault : (octets : List ℕ) (needed : Needed) (fault : Fault) → FaultOf octets fault →
      Converted from (refusal_of refuses fault) (truncated needed) → LacksOctets FaultOf octets needed
  truncated_of_fault octets needed (missing n) f c =
      let same : needed ≡ Size n = cc in
      let some : CountsSome (missing n) = elements.counts octets (missing n) f in
      (n, same, some, f)
  truncated_of_fault octets needed tag_fault f c = let e = c.2 in cc
  truncated_of_fault octets needed length_fault f c = let e = c.2 in cc
  truncated_of_fault octets needed (rule_fault violation) f c = let e = c.2 in cc
  truncated_of_fault octets needed depth_fault f c = let e = c.2 in cc

  -- A reader that reads an element first tells no other cut.
  pub element_truncations : {T : Type 0} (check : Parts → Result (Unit {0}) Error → Type 0)
      (convert : Any → Result T E → Type 0) →
      TruncationsAreCounted FaultOf (ElementGives ElementOf FaultOf (refusal_of refuses) check convert from)
  element_truncations check convert octets needed (inl (fault, f, c)) = truncated_of_fault octets needed fault f c
  element_truncations check convert octets needed (inr (any, rest, begins, inl (e, checked, (f, m, is)))) = cc
  element_truncations check convert octets needed (inr (any, rest, begins, inr (checked, (e, v, is)))) = cc

  -- the refusal of a fault, or that of what is called on the element, which is one of its contents octets
  pub then_truncations : {S T : Type 0} (within : List ℕ → Result (List ℕ × S) (Refusal E) → Type 0)
      (takes : OfElement (Result (List ℕ × T) (Refusal E))) →
      ((any : Any) (rest : List ℕ) (needed : Needed) → takes any rest (Err (truncated needed)) →
      within any.content.now (Err (truncated needed))) →
      TruncationsAreCountedOrWithin FaultOf ElementOf within (ThenGives ElementOf FaultOf (refusal_of refuses) from takes)
  then_truncations within takes told octets needed (inl (fault, f, c)) = inl (truncated_of_fault octets needed fault f c)
  then_truncations within takes told octets needed (inr (any, rest, begins, taken)) =
      inr (parts_of any, rest, begins.front, told any rest needed taken)

  -- or none, where what is called tells no cut
  pub then_no_truncations : {T : Type 0} (takes : OfElement (Result (List ℕ × T) (Refusal E))) →
      ((any : Any) (rest : List ℕ) (needed : Needed) → takes any rest (Err (truncated needed)) → ⊥) →
      TruncationsAreCounted FaultOf (ThenGives ElementOf FaultOf (refusal_of refuses) from takes)
  then_no_truncations takes none octets needed (inl (fault, f, c)) = truncated_of_fault octets needed fault f c
  then_no_truncations takes none octets needed (inr (any, rest, begins, taken)) = absurd (none any rest needed taken)

-- By DER so do readers of types with a check, of lists, and of values under implicit tags.
pub der_header_first : {T E : Type 0} (check : Parts → Result (Unit {0}) Error → Type 0)
    (convert : Any → Result T E → Type 0) (from : Error → E → Type 0) →
    TellsHeaderFirst der_rule der_violation from (DerGives check convert from)
der_header_first {T} {E} check convert from =
    element_first IsDerElement DerElementFault IsTruncatedIdentifier der_elements der_rule der_violation (λ o f why. inl why) E
    from check convert

-- They tell no other cut than that of the element.
pub der_truncations : {T E : Type 0} (check : Parts → Result (Unit {0}) Error → Type 0)
    (convert : Any → Result T E → Type 0) (from : Error → E → Type 0) →
    TruncationsAreCounted DerElementFault (DerGives check convert from)
der_truncations {T} {E} check convert from =
    element_truncations IsDerElement DerElementFault IsTruncatedIdentifier der_elements der_rule der_violation (λ o f why. inl why) E
    from check convert

-- So do those of values under explicit tags.
pub explicit_header_first : {T W E : Type 0} (class number : ℕ) (inner : W → T)
    (reads : List ℕ → Result (List ℕ × T) (Refusal E) → Type 0) (from : Error → E → Type 0) →
    TellsHeaderFirst der_rule der_violation from (ExplicitGives class number inner reads from)
explicit_header_first {T} {W} {E} class number inner reads from octets q r h (inl f) =
    header_first IsDerElement DerElementFault IsTruncatedIdentifier der_elements der_rule der_violation (λ o f why. inl why) E
    from octets q r h (inl f)
explicit_header_first {T} {W} {E} class number inner reads from octets q r h (inr (p, rest, front, why)) =
    header_first IsDerElement DerElementFault IsTruncatedIdentifier der_elements der_rule der_violation (λ o f why. inl why) E
    from octets q r h (inr (p, rest, front))

-- a cut of a value that is to be all of the octets is one of the reader of the value
whole_truncated : {T E : Type 0} (reads : List ℕ → Result (List ℕ × T) (Refusal E) → Type 0) (from : Error → E → Type 0)
    (octets : List ℕ) (needed : Needed) → ReadsWhole reads from octets (Err (truncated needed)) →
    reads octets (Err (truncated needed))
whole_truncated reads from octets needed (Ok x, gives, (left, (e, m, is))) = cc
whole_truncated {T} {E} reads from octets needed (Err own, gives, is) =
    subst (λ (r : Refusal E). reads octets (Err r)) (sym is) gives

-- They tell that of the element, or that of the value.
pub explicit_truncations : {T W E : Type 0} (class number : ℕ) (inner : W → T)
    (reads : List ℕ → Result (List ℕ × T) (Refusal E) → Type 0) (from : Error → E → Type 0) →
    TruncationsAreCountedOrWithin DerElementFault IsDerElement reads (ExplicitGives class number inner reads from)
explicit_truncations {T} {W} {E} class number inner reads from octets needed (inl (fault, f, c)) =
    inl (truncated_of_fault IsDerElement DerElementFault IsTruncatedIdentifier der_elements der_rule der_violation
    (λ o f why. inl why) E from octets needed fault f c)
explicit_truncations class number inner reads from octets needed (inr (p, rest, front, inl (e, checked, (f, m, is)))) = cc
explicit_truncations class number inner reads from octets needed (inr (p, rest, front, inr (checked, whole))) =
    inr (p, rest, front, whole_truncated reads from p.content needed whole)

-- By BER so does each conversion of an element.
pub ber_header_first : {T E : Type 0} (convert : Any → Result T E → Type 0) (from : Error → E → Type 0) →
    TellsHeaderFirst ber_rule ber_violation from (BerGives convert from)
ber_header_first {T} {E} convert from =
    element_first (IsElement max_depth) (ElementFault max_depth) EndsWithin ber_elements ber_rule ber_violation
    (ber_header_fault max_depth) E from PassesAll convert

-- It tells no other cut than that of the element.
pub ber_truncations : {T E : Type 0} (convert : Any → Result T E → Type 0) (from : Error → E → Type 0) →
    TruncationsAreCounted (ElementFault max_depth) (BerGives convert from)
ber_truncations {T} {E} convert from =
    element_truncations (IsElement max_depth) (ElementFault max_depth) EndsWithin ber_elements ber_rule ber_violation
    (ber_header_fault max_depth) E from PassesAll convert

-- Parsers of explicit tags tell that of the element, or that of the value.
pub ber_explicit_parser_truncations : (K : Type 0) {T E : Type 0} (reads : List ℕ → Result (List ℕ × T) (Refusal E) → Type 0)
    (from : Error → E → Type 0) →
    TruncationsAreCountedOrWithin (ElementFault max_depth) (IsElement max_depth) reads
    (ThenByBer from (TakesExplicit {K = K} reads))
ber_explicit_parser_truncations K {T} {E} reads from =
    then_truncations (IsElement max_depth) (ElementFault max_depth) EndsWithin ber_elements ber_rule ber_violation
    (ber_header_fault max_depth) E from reads (TakesExplicit {K = K} reads) (λ any rest needed taken. taken)

pub der_explicit_parser_truncations : (K : Type 0) {T E : Type 0} (reads : List ℕ → Result (List ℕ × T) (Refusal E) → Type 0)
    (from : Error → E → Type 0) →
    TruncationsAreCountedOrWithin DerElementFault IsDerElement reads
    (ThenByDer from (TakesWholeContent {K = K} reads from))
der_explicit_parser_truncations K {T} {E} reads from =
    then_truncations IsDerElement DerElementFault IsTruncatedIdentifier der_elements der_rule der_violation (λ o f why. inl why) E
    from reads (TakesWholeContent {K = K} reads from)
    (λ any rest needed taken. whole_truncated reads from any.content.now needed taken)

-- what is converted under another number tells no cut
no_truncated_under : (K : Type 0) {T E : Type 0} (tag : Tag) (converts : Any → Result T E → Type 0) (any : Any)
    (rest : List ℕ) (needed : Needed) → TakesImplicit {K = K} tag converts any rest (Err (truncated needed)) → ⊥
no_truncated_under K tag converts any rest needed (other, under, (e, converted, is)) = cc

-- Parsers of implicit tags tell that of the element.
pub ber_implicit_parser_truncations : (K : Type 0) {T E : Type 0} (tag : Tag) (converts : Any → Result T E → Type 0)
    (from : Error → E → Type 0) →
    TruncationsAreCounted (ElementFault max_depth) (ThenByBer from (TakesImplicit {K = K} tag converts))
ber_implicit_parser_truncations K {T} {E} tag converts from =
    then_no_truncations (IsElement max_depth) (ElementFault max_depth) EndsWithin ber_elements ber_rule ber_violation
    (ber_header_fault max_depth) E from (TakesImplicit {K = K} tag converts) (no_truncated_under K tag converts)

pub der_implicit_parser_truncations : (K : Type 0) {T E : Type 0} (tag : Tag) (converts : Any → Result T E → Type 0)
    (from : Error → E → Type 0) →
    TruncationsAreCounted DerElementFault (ThenByDer from (TakesImplicit {K = K} tag converts))
der_implicit_parser_truncations K {T} {E} tag converts from =
    then_no_truncations IsDerElement DerElementFault IsTruncatedIdentifier der_elements der_rule der_violation (λ o f why. inl why) E
    from (TakesImplicit {K = K} tag converts) (no_truncated_under K tag converts)
