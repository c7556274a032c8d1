-- Readers that read one element, check it and convert it are exact.
use Rattle.std.proofs.Common.{arith, ◌≡◌, ◌≢◌, ◌∙◌, ap, sym, subst, refl, ℕ, ◌<◌, ◌≤◌, inl, inr, Bool, List, [], ◌++◌}
use Rattle.std.proofs.Common.{length, append_assoc, append-nil}
use Rattle.std.specs.Prelude.{Result, Ok, Err, IfErr}
use Rattle.x690.specs.Octets.{IsOctets}
use Rattle.x690.specs.Identifiers.{IsTruncatedIdentifier}
use Rattle.x690.specs.Rules.{der_rule}
use Rattle.x690.specs.Elements.{Parts, IsDerElement, ArePossible}
use Rattle.x690.specs.Faults.{Violation, Fault, missing, tag_fault, length_fault, rule_fault, depth_fault, DerElementFault}
use Rattle.x690.specs.Faults.{SpeaksOf, IsLackingOrTruncated, identifier_violation, length_violation, form_violation}
use Rattle.x690.specs.Nested.{IsElement, ElementFault}
use Rattle.x690.specs.Laws.Elements.{definite_possible}
use Rattle.x690.specs.Laws.Faults.{CountsSome, no_der_element, der_fault_counts, one_der_fault}
use Rattle.x690.specs.Laws.Nested.{nested_possible}
use Rattle.x690.specs.Laws.Nested.Faults.{no_element, element_fault_counts, one_element_fault}
use Rattle.x690.specs.Laws.Faults.Beginnings.{truncated_header_fault, within_fault, der_beginning, element_beginning}
use Rattle.x690.specs.Laws.Words.{definite_words, nested_words}
use Rattle.x690.specs.Joined.{NoPrefix, IsPrefixFree}
use Rattle.asn1_rs.specs.declared.asn1_types.any.Any.{Any}
use Rattle.asn1_headers.specs.declared.error.Err.{Err as Refusal}
use Rattle.asn1_headers.specs.declared.error.Err.TheVariants.{Error as refused, Incomplete as truncated, Failure as failed}
use Rattle.asn1_headers.specs.declared.error.Needed.TheVariants.{Size, Unknown}
use Rattle.asn1_headers.specs.declared.error.Error.{Error}
use Rattle.asn1_headers.specs.declared.error.Error.TheVariants.{OutOfMemory}
use Rattle.asn1_headers.specs.Error.{Converted, ErrorIs}
use Rattle.asn1_headers.specs.Header.Reading.{refusal_of, der_violation, ber_violation}
use Rattle.asn1_rs.specs.Any.{parts_of}
use Rattle.asn1_headers.specs.Answers.{HasPrefix, IsFinal, Speaks, Exactly, TellsMemory, IsOther}
use Rattle.asn1_rs.specs.Grammar.{ElementWord, DerWord, TakesBody, Checks, NoCheck}
use Rattle.asn1_rs.specs.Traits.{ElementGives, DerGives, PassesAll}
use Rattle.asn1_headers.specs.Ber.{max_depth, EndsWithin}

-- Elements.

-- What the laws ask of elements: one alone begins an input, and a fault is the only one, and final.
pub record AreLawfulElements (ElementOf : List ℕ → Parts → Type 0) (FaultOf : List ℕ → Fault → Type 0)
    (IsTruncated : List ℕ → Type 0) : Type 0 where
  pub one : IsPrefixFree ElementOf
  pub final : (input more o rest : List ℕ) (p : Parts) (fault : Fault) → FaultOf input fault →
      SpeaksOf (IsTruncated input) fault more → ElementOf o p → input ++ more ≡ o ++ rest → ⊥
  pub counts : (input : List ℕ) (fault : Fault) → FaultOf input fault → CountsSome fault
  pub alone : (input : List ℕ) (f g : Fault) → FaultOf input f → FaultOf input g → f ≡ g
  pub possible : (o : List ℕ) (p : Parts) → ElementOf o p → ArePossible p
  pub beginning : (input more o rest : List ℕ) (p : Parts) (fault : Fault) → FaultOf input fault → ElementOf o p →
      input ++ more ≡ o ++ rest → IsLackingOrTruncated (IsTruncated input) fault more
  pub within : (input : List ℕ) → IsTruncated input → FaultOf input tag_fault

-- Elements by DER are such.
pub der_elements : AreLawfulElements IsDerElement DerElementFault IsTruncatedIdentifier
der_elements = record {
  one = definite_words der_rule;
  final = λ input more o rest p fault f s a e. no_der_element input more o rest p fault f s a e;
  counts = λ input fault f. der_fault_counts input fault f;
  alone = one_der_fault;
  possible = definite_possible der_rule;
  beginning = λ input more o rest p fault f a e. der_beginning input more o rest p fault f a e;
  within = λ input c. inl (truncated_header_fault der_rule input c);
}

-- Elements by BER are such.
pub ber_elements : AreLawfulElements (IsElement max_depth) (ElementFault max_depth) EndsWithin
ber_elements = record {
  one = nested_words max_depth;
  final = λ input more o rest p fault f s a e. no_element max_depth input more o rest p a.0 fault f s a.1 e;
  counts = λ input fault f. element_fault_counts max_depth input fault f;
  alone = one_element_fault max_depth;
  possible = λ o p a. nested_possible max_depth o p a.0 a.1;
  beginning = λ input more o rest p fault f a e. element_beginning max_depth input more o rest p a.0 fault f a.1 e;
  within = within_fault max_depth;
}

-- Checks that refuse nothing.

-- a check that refuses nothing asks nothing
pub passes_all : (p : Parts) (answer : Result (Unit {0}) Error) → PassesAll p answer → Checks NoCheck p answer
passes_all p (Ok x) h = tt
passes_all p (Err e) h = cc

-- It does not report out of memory.
pub all_pass : (p : Parts) → PassesAll p (Err OutOfMemory) → ⊥
all_pass p h = cc

-- What refusals say of more octets.

-- A refusal that tells of missing octets speaks of fewer more than these.
speaks_missing : (E : Type 0) (is_truncated : Type 0) (n : ℕ) (more : List ℕ) → 1 ≤ n →
    Speaks {E = E} is_truncated (truncated (Size n)) more → length more < n
speaks_missing E is_truncated n more some (inl e) = let l = ap length e in omega (arith, l)
speaks_missing E is_truncated n more some (inr l) = l

-- what a refusal that tells of a fault speaks of, the fault speaks of
pub speaks_fault : {E : Type 0} (refuses : Violation → Error) (from : Error → E → Type 0) (fault : Fault) (r : Refusal E)
    (is_truncated : Type 0) (more : List ℕ) → CountsSome fault → Converted from (refusal_of refuses fault) r →
    Speaks is_truncated r more → SpeaksOf is_truncated fault more
speaks_fault {E} at from (missing n) r is_truncated more some c s =
    speaks_missing E is_truncated n more some (subst (λ (q : Refusal E). Speaks is_truncated q more) c s)
speaks_fault {E} at from tag_fault r is_truncated more some c s = subst (λ (q : Refusal E). Speaks is_truncated q more) c.2 s
speaks_fault at from length_fault r is_truncated more some c s = tt
speaks_fault at from (rule_fault violation) r is_truncated more some c s = tt
speaks_fault at from depth_fault r is_truncated more some c s = tt

-- A refusal speaks of the octets as they are.
pub refusal_speaks_now : {E : Type 0} (is_truncated : Type 0) (r : Refusal E) → Speaks is_truncated r []
refusal_speaks_now is_truncated (truncated (Size n)) = inl refl
refusal_speaks_now is_truncated (truncated Unknown) = refl
refusal_speaks_now is_truncated (refused x) = inl refl
refusal_speaks_now is_truncated (failed x) = inl refl

-- What a final refusal rules out begins the octets as they are neither.
pub none_now : {V E : Type 0} (is_truncated : Type 0) (r : Refusal E) (G : List ℕ → V → Type 0) (input : List ℕ) →
    IsFinal is_truncated r G input → NoPrefix G input
none_now is_truncated r G input f w rest v e g =
    f [] (refusal_speaks_now is_truncated r) w rest v (append-nil input ∙ e) g

-- A word at the front stays one with more octets behind.
pub prefix_more : {V : Type 0} (G : List ℕ → V → Type 0) (input : List ℕ) (v : V) (rest more : List ℕ) →
    HasPrefix G input v rest → HasPrefix G (input ++ more) v (rest ++ more)
prefix_more G input v rest more f =
    record { word = f.word; fits = f.fits; is = ap (λ (x : List ℕ). x ++ more) f.is ∙ append_assoc f.word rest more }

-- Readers are exact.

module _ {T V E : Type 0} (ElementOf : List ℕ → Parts → Type 0) (FaultOf : List ℕ → Fault → Type 0)
    (IsTruncated : List ℕ → Type 0) (elements : AreLawfulElements ElementOf FaultOf IsTruncated)
    (refuses : Violation → Error)
    (check : Parts → Result (Unit {0}) Error → Type 0) (convert : Any → Result T E → Type 0) (from : Error → E → Type 0)
    (Check : Parts → Type 0) (Body : Parts → V → Type 0) (value : T → V) (allocates : Bool) (G : List ℕ → V → Type 0)
    (check_exact : (p : Parts) (answer : Result (Unit {0}) Error) → check p answer → Checks Check p answer)
    (body_exact : (any : Any) (answer : Result T E) → IsOctets any.content.now → convert any answer →
    TakesBody Body value allocates from (parts_of any) answer)
    (split : (o : List ℕ) (v : V) → G o v → ElementWord ElementOf Check Body o v)
    (join : (o : List ℕ) (v : V) → ElementWord ElementOf Check Body o v → G o v) where
  -- the element that was read is the one of any word at the front
  word_parts : (input rest w r : List ℕ) (p : Parts) (v : V) → HasPrefix ElementOf input p rest → input ≡ w ++ r →
      G w v →
      Check p × Body p v
  word_parts input rest w r p v front e d =
      let a : ElementWord ElementOf Check Body w v = split w v d in
      let same : (front.word ≡ w) × (p ≡ a.0) =
      elements.one.one front.word w rest r p a.0 front.fits a.1 (sym front.is ∙ e) in
      (subst Check (sym same.1) a.2, subst (λ (q : Parts). Body q v) (sym same.1) a.3)

  -- A reader that reads one element, checks it and converts it is exact.
  pub element_exact : (input : List ℕ) (answer : Result (List ℕ × T) (Refusal E)) →
      ElementGives ElementOf FaultOf (refusal_of refuses) check convert from input answer →
      Exactly IsTruncated G value (TellsMemory allocates from) input answer
  element_exact input (Ok x) g = record {
    word = g.1.front.word;
    fits = join g.1.front.word (value x.1) (
      parts_of g.0,
      g.1.front.fits,
      check_exact (parts_of g.0) (Ok tt) g.2,
      body_exact g.0 (Ok x.1) (elements.possible g.1.front.word (parts_of g.0) g.1.front.fits).content g.3,
    );
    is = g.1.front.is;
  }
  element_exact input (Err r) (inl (fault, f, c)) = inr (λ more s w rest v e d.
      let a : ElementWord ElementOf Check Body w v = split w v d in
      elements.final input more w rest a.0 fault f
      (speaks_fault refuses from fault r (IsTruncated input) more (elements.counts input fault f) c s) a.1 e)
  element_exact input (Err r) (inr (any, rest, begins, inl (e, c, f))) =
      inr (λ more s w t v h d. check_exact (parts_of any) (Err e) c (word_parts (input ++ more) (rest ++ more) w t
      (parts_of any) v (prefix_more ElementOf input (parts_of any) rest more begins.front) h d).0)
  element_exact input (Err r) (inr (any, rest, begins, inr (c, (e, cv, is)))) =
      elim (body_exact any (Err e) (elements.possible begins.front.word (parts_of any) begins.front.fits).content cv) [
        | inl m ↦ inl (m.0, (e, m.1, is))
        | inr none ↦ inr (λ more s w t v h d. none v (word_parts (input ++ more) (rest ++ more) w t (parts_of any) v
            (prefix_more ElementOf input (parts_of any) rest more begins.front) h d).1)
      ]

-- no fault reports out of memory
pub fault_no_memory : {E : Type 0} (from : Error → E → Type 0) (refuses : Violation → Error) →
    ((violation : Violation) → refuses violation ≢ OutOfMemory) → (fault : Fault) (r : Refusal E) →
    Converted from (refusal_of refuses fault) r → ErrorIs (IsOther from) r
fault_no_memory from at other (missing n) r c = subst (ErrorIs (IsOther from)) (sym c) tt
fault_no_memory from at other tag_fault r c = subst (ErrorIs (IsOther from)) (sym c.2) (inl (_, λ q. cc, c.1))
fault_no_memory from at other length_fault r c = subst (ErrorIs (IsOther from)) (sym c.2) (inl (_, λ q. cc, c.1))
fault_no_memory from at other (rule_fault violation) r c =
    subst (ErrorIs (IsOther from)) (sym c.2) (inl (_, other violation, c.1))
fault_no_memory from at other depth_fault r c = subst (ErrorIs (IsOther from)) (sym c.2) (inl (_, λ q. cc, c.1))

-- where check and conversion do not allocate, no refusal reports out of memory
pub element_no_memory : {T E : Type 0} (ElementOf : List ℕ → Parts → Type 0) (FaultOf : List ℕ → Fault → Type 0)
    (refuses : Violation → Error) → ((violation : Violation) → refuses violation ≢ OutOfMemory) →
    (check : Parts → Result (Unit {0}) Error → Type 0) (convert : Any → Result T E → Type 0)
    (from : Error → E → Type 0) →
    ((p : Parts) → check p (Err OutOfMemory) → ⊥) → ((any : Any) (e : E) → convert any (Err e) → IsOther from e) →
    (input : List ℕ) (answer : Result (List ℕ × T) (Refusal E)) →
    ElementGives ElementOf FaultOf (refusal_of refuses) check convert from input answer →
    IfErr answer (ErrorIs (IsOther from))
element_no_memory ElementOf FaultOf at other check convert from checked converted input (Ok x) g = tt
element_no_memory ElementOf FaultOf at other check convert from checked converted input (Err r) (inl (fault, f, c)) =
    fault_no_memory from at other fault r c
element_no_memory ElementOf FaultOf at other check convert from checked converted input (Err r)
    (inr (any, rest, begins, inl (e, c, (f, m, is)))) =
    subst (ErrorIs (IsOther from)) (sym is)
    (inl (e, λ q. checked (parts_of any) (subst (λ (x : Error). check (parts_of any) (Err x)) q c), m))
element_no_memory ElementOf FaultOf at other check convert from checked converted input (Err r)
    (inr (any, rest, begins, inr (c, (e, v, is)))) =
    subst (ErrorIs (IsOther from)) (sym is) (converted any e v)

-- What is not allowed by DER is not refused as out of memory.
pub der_violation_no_memory : (violation : Violation) → der_violation violation ≢ OutOfMemory
der_violation_no_memory identifier_violation q = cc
der_violation_no_memory length_violation q = cc
der_violation_no_memory form_violation q = cc

-- What is not allowed by BER is not refused as out of memory.
pub ber_violation_no_memory : (violation : Violation) → ber_violation violation ≢ OutOfMemory
ber_violation_no_memory violation q = cc

-- Readers that check nothing, and refusals that stay.

-- a reader by DER that reads an element, checks nothing and converts it is exact
pub unchecked_exact : {T V E : Type 0} (convert : Any → Result T E → Type 0) (from : Error → E → Type 0)
    (Body : Parts → V → Type 0) (value : T → V) (allocates : Bool) →
    ((any : Any) (answer : Result T E) → IsOctets any.content.now → convert any answer →
    TakesBody Body value allocates from (parts_of any) answer) →
    (input : List ℕ) (answer : Result (List ℕ × T) (Refusal E)) → DerGives PassesAll convert from input answer →
    Exactly IsTruncatedIdentifier (DerWord NoCheck Body) value (TellsMemory allocates from) input answer
unchecked_exact convert from Body value allocates exact =
    element_exact IsDerElement DerElementFault IsTruncatedIdentifier der_elements der_violation PassesAll convert from NoCheck
    Body value allocates (DerWord NoCheck Body) passes_all exact (λ o v w. w) (λ o v w. w)

-- a refusal that is not converted is its own
pub converts_itself : (refuses : Violation → Error) (fault : Fault) →
    Converted {E = Error} {F = Error} (λ x y. y ≡ x) (refusal_of refuses fault) (refusal_of refuses fault)
converts_itself at (missing n) = refl
converts_itself at tag_fault = (_, refl, refl)
converts_itself at length_fault = (_, refl, refl)
converts_itself at (rule_fault violation) = (_, refl, refl)
converts_itself at depth_fault = (_, refl, refl)

-- What a refusal that tells of a fault speaks of, the fault speaks of, where the refusal is as it was.
pub speaks_itself : (refuses : Violation → Error) (fault : Fault) (r : Refusal Error) (is_truncated : Type 0) (more : List ℕ) →
    CountsSome fault → r ≡ refusal_of refuses fault → Speaks is_truncated r more → SpeaksOf is_truncated fault more
speaks_itself at fault r is_truncated more some e s = speaks_fault {E = Error} at (λ x y. y ≡ x) fault (refusal_of at fault)
    is_truncated more some (converts_itself at fault) (subst (λ (q : Refusal Error). Speaks is_truncated q more) e s)
