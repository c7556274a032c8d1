-- Optional values: a header at the front tells whether one is left out, and strict encodings are read back.
use Rattle.std.proofs.Common.{◌≡◌, ◌≢◌, ◌∙◌, ap, sym, subst, refl, arith, ℕ, ◌+◌, ◌≤◌, Bool, true, false, List, [], ◌∷◌}
use Rattle.std.proofs.Common.{◌++◌, length, length-append, append_assoc, inl, inr, IsTrue, Option, None, Some}
use Rattle.std.specs.Prelude.{Result, Ok, Err, ◌↔◌, nat_eq, not}
use Rattle.std.proofs.lemmas.Bool.{eqb-true, eq-eqb, false≢true}
use Rattle.std.proofs.lemmas.Bool.Decides.{Decides-not, Decides-eqb}
use Rattle.std.specs.Option.{option_map}
use Rattle.x690.specs.Octets.{IsOctets}
use Rattle.x690.specs.Identifiers.{Identifier, IsTruncatedIdentifier}
use Rattle.x690.specs.Lengths.{LengthForm, definite}
use Rattle.x690.specs.Rules.{Rule}
use Rattle.x690.specs.Elements.{IsHeader, Parts, AllowsStrict}
use Rattle.x690.specs.Faults.{Violation, Fault, HeaderFault, SpeaksOf}
use Rattle.x690.specs.Laws.Headers.{header_unique, header_two}
use Rattle.x690.specs.Laws.Faults.{header_or_fault, header_fault_counts, no_header}
use Rattle.x690.specs.Laws.Faults.Complete.{header_or_has_fault}
use Rattle.x690.specs.Joined.{IsPrefixFree}
use Rattle.asn1_rs.specs.declared.asn1_types.any.Any.{Any}
use Rattle.asn1_headers.specs.declared.error.Err.{Err as Refusal}
use Rattle.asn1_headers.specs.declared.error.Error.{Error}
use Rattle.asn1_headers.specs.declared.tag.Tag.{Tag}
use Rattle.asn1_headers.specs.declared.header.Header.{Header}
use Rattle.asn1_headers.specs.Answers.{Exactly, ReadsBack}
use Rattle.asn1_rs.specs.Grammar.Form.{IsStrict}
use Rattle.asn1_rs.specs.Grammar.{FormNumber}
use Rattle.asn1_headers.specs.Header.{identifier_of}
use Rattle.asn1_headers.specs.Header.Reading.{HeaderGives, refusal_of}
use Rattle.asn1_headers.specs.Length.{form_of}
use Rattle.asn1_rs.specs.Optional.{IsLeftOut, OptionGives, ReadsSomeBack, ReadsNoneBefore, ReadsNoneAtEnd, in_some}
use Rattle.asn1_rs.specs.Optional.{IsAtEnd, RefusesAsSome, StaysIn}
use Rattle.asn1_rs.specs.Faults.{TellsHeaderFirst}
use Rattle.asn1_rs.specs.Laws.Readers.{AreLawfulElements, speaks_fault}
use Rattle.asn1_rs.specs.Any.{AnyGives}
use Rattle.asn1_rs.specs.Laws.Any.{refusal_lasts}
use Rattle.asn1_rs.specs.Laws.Words.{strict_element, read_back}
use mathlib.Core.HLevel.{⊥_prop}
use mathlib.Core.Logic.{∥∥₁_elim}

-- Whether a value is left out.

-- no header is empty
header_is_some : (rule : Rule) (header rest : List ℕ) (id : Identifier) (form : LengthForm) →
    IsHeader rule header id form → header ++ rest ≢ []
header_is_some rule header rest id form h e =
    let two : 2 ≤ length header = header_two rule header id form h in
    let none : length header + length rest ≡ 0 = sym (length-append header rest) ∙ ap length e in
    absurd (omega (arith, two, none))

-- octets that begin with a header of this tag number do not leave the value out
pub not_left_out : (rule : Rule) (octets header rest : List ℕ) (id : Identifier) (form : LengthForm) (number : ℕ) →
    IsHeader rule header id form → octets ≡ header ++ rest → id.number ≡ number → IsLeftOut rule number octets → ⊥
not_left_out rule octets header rest id form number h e same (inl none) =
    header_is_some rule header rest id form h (sym e ∙ none)
not_left_out rule octets header rest id form number h e same (inr other) =
    let u = header_unique rule rule other.header header other.rest rest other.id id other.form form other.header_is h
    (sym other.is ∙ e) in
    other.other (ap (λ (i : Identifier). i.number) u.1 ∙ same)

-- a header that was read tells by its tag number whether the value is left out
pub read_tells : (rule : Rule) (refuses : Violation → Error) (octets : List ℕ) (x : List ℕ × Header) (read number : ℕ) →
    read ≡ x.1.tag.0 → HeaderGives rule (refusal_of refuses) octets (Ok x) →
    IsTrue (not (nat_eq read number)) ↔ IsLeftOut rule number octets
read_tells rule refuses octets x read number e g =
    let differ = Decides-not (nat_eq read number) (Decides-eqb read number) in (
      λ told. inr (record {
        header = g.octets;
        rest = x.0;
        id = identifier_of x.1;
        form = form_of x.1.length;
        header_is = g.header;
        is = g.is;
        other = λ same. differ.0 told (e ∙ same);
      }),
      λ out. differ.1 (λ same. not_left_out rule octets g.octets x.0 (identifier_of x.1)
          (form_of x.1.length) number g.header g.is (sym e ∙ same) out),
    )

-- where no header could be read, the value is left out at the end alone
pub refusal_tells : (rule : Rule) (refuses : Violation → Error) (octets : List ℕ) (r : Refusal Error) (number : ℕ) →
    HeaderGives rule (refusal_of refuses) octets (Err r) →
    IsTrue (nat_eq (length octets) 0) ↔ IsLeftOut rule number octets
refusal_tells rule refuses octets r number g = (λ told. inl (none octets (eqb-true (length octets) 0 told)), ended)
  where
    none : (xs : List ℕ) → length xs ≡ 0 → xs ≡ []
    none [] e = refl
    none (x ∷ xs) e = cc

    ended : IsLeftOut rule number octets → IsTrue (nat_eq (length octets) 0)
    ended (inl e) = eq-eqb (length octets) 0 (ap length e)
    ended (inr other) = absurd
        (header_or_fault rule octets other.header other.rest other.id other.form g.0 g.1 other.header_is other.is)

-- What is answered.

-- none is answered where the value is told to be left out
pub answers_none : {T E : Type 0} (rule : Rule) (reads : List ℕ → Result (List ℕ × T) (Refusal E) → Type 0)
    (octets : List ℕ) (tag own : Tag) (told : Bool) → tag ≡ own → IsTrue told ↔ IsLeftOut rule tag.0 octets →
    told ≡ true → OptionGives (IsLeftOut rule own.0) reads octets (Ok (octets, None))
answers_none rule reads octets tag own told e tells is =
    inl (subst (λ (t : Tag). IsLeftOut rule t.0 octets) e (tells.0 is), refl)

-- and else the whole answer of the reader of the value
pub answers_some : {T E : Type 0} (rule : Rule) (reads : List ℕ → Result (List ℕ × T) (Refusal E) → Type 0)
    (octets : List ℕ) (tag own : Tag) (told : Bool) → tag ≡ own → IsTrue told ↔ IsLeftOut rule tag.0 octets →
    told ≡ false
    → (its : Result (List ℕ × T) (Refusal E)) → reads octets its → (answer : Result (List ℕ × Option T) (Refusal E)) →
    answer ≡ in_some its → OptionGives (IsLeftOut rule own.0) reads octets answer
answers_some rule reads octets tag own told e tells stays its gives answer is =
    inr (
      λ out. absurd (false≢true (sym stays ∙ tells.1 (subst (λ (t : Tag). IsLeftOut rule t.0 octets) (sym e) out))),
      (its, gives, is),
    )

-- Strict encodings are read back.

-- strict encodings begin with a header of their tag number
strict_stays : {V : Type 0} (rule : Rule) → AllowsStrict rule → (Form : V → Identifier → List ℕ → Type 0) (number : ℕ) →
    FormNumber Form number → (v : V) (octets w rest : List ℕ) → IsStrict Form v w → octets ≡ w ++ rest →
    IsLeftOut rule number octets → ⊥
strict_stays rule allows Form number numbered v octets w rest s e =
    let element = strict_element rule allows Form v w s in
    not_left_out rule octets element.header (s.content ++ rest) s.id
    (definite (length s.content)) number element.header_is
    (e ∙ ap (λ (ys : List ℕ). ys ++ rest) element.is ∙ append_assoc element.header s.content rest)
    (numbered v s.id s.content s.form)

-- before a strict encoding of another tag number the value is left out
strict_leaves_out : {V : Type 0} (rule : Rule) → AllowsStrict rule →
    (Form : V → Identifier → List ℕ → Type 0) (number other : ℕ) → FormNumber Form other → other ≢ number →
    (v : V) (octets w rest : List ℕ) → IsStrict Form v w → octets ≡ w ++ rest → IsLeftOut rule number octets
strict_leaves_out rule allows Form number other numbered differ v octets w rest s e =
    let element = strict_element rule allows Form v w s in
    inr (record {
      header = element.header;
      rest = s.content ++ rest;
      id = s.id;
      form = definite (length s.content);
      header_is = element.header_is;
      is = e ∙ ap (λ (ys : List ℕ). ys ++ rest) element.is ∙ append_assoc element.header s.content rest;
      other = λ same. differ (sym (numbered v s.id s.content s.form) ∙ same);
    })

-- where the value is left out, none is answered
none_is_answered : {T E : Type 0} (LeftOut : List ℕ → Type 0)
    (reads : List ℕ → Result (List ℕ × T) (Refusal E) → Type 0) (octets : List ℕ)
    (answer : Result (List ℕ × Option T) (Refusal E)) → OptionGives LeftOut reads octets answer → LeftOut octets →
    answer ≡ Ok (octets, None)
none_is_answered LeftOut reads octets answer (inl (out, e)) is = e
none_is_answered LeftOut reads octets answer (inr (stays, its)) is = absurd (stays is)

-- None is read before a strict encoding of another tag number.
pub none_before_others : {T V E : Type 0} (rule : Rule) → AllowsStrict rule →
    (Form : V → Identifier → List ℕ → Type 0) (number other : ℕ) → FormNumber Form other →
    (reads : List ℕ → Result (List ℕ × T) (Refusal E) → Type 0) → other ≢ number →
    ReadsNoneBefore (OptionGives (IsLeftOut rule number) reads) Form
none_before_others rule allows Form number other numbered reads differ octets answer v w rest g s e =
    none_is_answered (IsLeftOut rule number) reads octets answer g
    (strict_leaves_out rule allows Form number other numbered differ v octets w rest s e)

-- None is read where no octets are left.
pub none_at_end : {T E : Type 0} (rule : Rule) (number : ℕ)
    (reads : List ℕ → Result (List ℕ × T) (Refusal E) → Type 0) →
    ReadsNoneAtEnd (OptionGives (IsLeftOut rule number) reads)
none_at_end rule number reads answer g = none_is_answered (IsLeftOut rule number) reads [] answer g (inl refl)

-- what is read back is read back in Some
held_reads_back : {T V E : Type 0} (value : T → V) (memory : Refusal E → Type 0) (v : V) (rest : List ℕ)
    (its : Result (List ℕ × T) (Refusal E)) → ReadsBack value memory v rest its →
    ReadsBack (option_map value) memory (Some v) rest (in_some its)
held_reads_back value memory v rest (Ok x) b = (ap Some b.0, b.1)
held_reads_back value memory v rest (Err r) b = b

-- The strict encoding of what is held is read back, by a reader of optional values over one that is exact.
pub some_is_read_back : {T V E : Type 0} (rule : Rule) → AllowsStrict rule →
    (IsTruncated : List ℕ → Type 0) (Form : V → Identifier → List ℕ → Type 0) (G : List ℕ → V → Type 0) (value : T → V)
    (memory : Refusal E → Type 0) (number : ℕ) → IsSet V
    → ((v : V) (o : List ℕ) → IsStrict Form v o → G o v) → IsPrefixFree G → FormNumber Form number →
    (reads : List ℕ → Result (List ℕ × T) (Refusal E) → Type 0)
    → ((octets : List ℕ) (its : Result (List ℕ × T) (Refusal E)) → IsOctets octets → reads octets its →
    Exactly IsTruncated G value memory octets its)
    → ReadsSomeBack (OptionGives (IsLeftOut rule number) reads) Form value memory
some_is_read_back rule allows IsTruncated Form G value memory number equality strict one numbered reads exact octets
    answer v w rest are (inl (out, e)) s is =
    absurd (∥∥₁_elim s ⊥_prop (λ t. strict_stays rule allows Form number numbered v octets w rest t is out))
some_is_read_back rule allows IsTruncated Form G value memory number equality strict one numbered reads exact octets
    answer v w rest are (inr (stays, (its, gives, e))) s is =
    subst (ReadsBack (option_map value) memory (Some v) rest) (sym e) (held_reads_back value memory v rest its
    (read_back IsTruncated Form G value memory equality strict one octets its (exact octets its are gives) v w rest s is))

-- Refusals are those of the value, and final.

-- a refusal is one of the reader of the value, and no value is left out of these octets
refused_is_held : {T E : Type 0} (LeftOut : List ℕ → Type 0) (reads : List ℕ → Result (List ℕ × T) (Refusal E) → Type 0)
    (octets : List ℕ) (r : Refusal E) → OptionGives LeftOut reads octets (Err r) →
    (LeftOut octets → ⊥) × reads octets (Err r)
refused_is_held LeftOut reads octets r (inl (out, e)) = cc
refused_is_held LeftOut reads octets r (inr (stays, (Ok x, gives, e))) = cc
refused_is_held {T} {E} LeftOut reads octets r (inr (stays, (Err q, gives, e))) =
    let same : q ≡ r = cc in
    (stays, subst (λ (z : Refusal E). reads octets (Err z)) same gives)

-- A refusal of an optional value is that of the value, and final as that.
pub some_is_refused : {T V E : Type 0} (LeftOut : List ℕ → Type 0) (IsTruncated : List ℕ → Type 0)
    (G : List ℕ → V → Type 0)
    (value : T → V) (memory : Refusal E → Type 0) (reads : List ℕ → Result (List ℕ × T) (Refusal E) → Type 0)
    → ((octets : List ℕ) (its : Result (List ℕ × T) (Refusal E)) → IsOctets octets → reads octets its →
    Exactly IsTruncated G value memory octets its)
    → RefusesAsSome (OptionGives LeftOut reads) reads IsTruncated G memory
some_is_refused LeftOut IsTruncated G value memory reads exact octets r are g =
    let its = (refused_is_held LeftOut reads octets r g).1 in
    (its, exact octets (Err r) are its)

-- octets that make none with more behind them are none
none_in_front : (octets more : List ℕ) → octets ++ more ≡ [] → octets ≡ []
none_in_front [] more e = refl
none_in_front (x ∷ xs) more e = cc

-- what a header begins that leaves no value out leaves none out with more octets behind it
header_stays : (rule : Rule) (number : ℕ) (octets more header rest : List ℕ) (id : Identifier) (form : LengthForm) →
    IsHeader rule header id form → octets ≡ header ++ rest → (IsLeftOut rule number octets → ⊥) →
    IsLeftOut rule number (octets ++ more) → ⊥
header_stays rule number octets more header rest id form h e stays (inl none) =
    stays (inl (none_in_front octets more none))
header_stays rule number octets more header rest id form h e stays (inr other) =
    let u = header_unique rule rule other.header header other.rest (rest ++ more) other.id id other.form form
    other.header_is h (sym other.is ∙ ap (λ (ys : List ℕ). ys ++ more) e ∙ append_assoc header rest more) in
    stays (inr (record {
      header = header;
      rest = rest;
      id = id;
      form = form;
      header_is = h;
      is = e;
      other = λ same. other.other (ap (λ (i : Identifier). i.number) u.1 ∙ same);
    }))

-- nor does one begin octets of which the fault of these speaks
fault_stays : (rule : Rule) (number : ℕ) (octets more : List ℕ) (fault : Fault) → HeaderFault rule octets fault →
    SpeaksOf (IsTruncatedIdentifier octets) fault more → (IsLeftOut rule number octets → ⊥) →
    IsLeftOut rule number (octets ++ more) → ⊥
fault_stays rule number octets more fault why speaks stays (inl none) = stays (inl (none_in_front octets more none))
fault_stays rule number octets more fault why speaks stays (inr other) =
    no_header rule octets more other.header other.rest other.id other.form fault why speaks other.header_is other.is

-- Where a reader refuses headers first, no value is left out before octets of which its refusal speaks.
pub refused_stays_in : {T E : Type 0} (rule : Rule) (refuses : Violation → Error) (from : Error → E → Type 0) (number : ℕ)
    (reads : List ℕ → Result (List ℕ × T) (Refusal E) → Type 0) → TellsHeaderFirst rule refuses from reads →
    StaysIn (IsLeftOut rule number) (OptionGives (IsLeftOut rule number) reads)
refused_stays_in {T} {E} rule refuses from number reads first octets more r are g speaks out =
    let its = refused_is_held (IsLeftOut rule number) reads octets r g in
    elim (header_or_has_fault rule octets are) [
      | inl h ↦ header_stays rule number octets more h.0 h.1 h.2 h.3 h.4 h.5 its.0 out
      | inr f ↦ fault_stays rule number octets more f.0 f.1
          (speaks_fault {E = E} refuses from f.0 r (IsTruncatedIdentifier octets) more
          (header_fault_counts rule octets f.0 f.1)
          (first octets (refusal_of refuses f.0) r (f.0, f.1, refl) its.1) speaks) its.0 out
    ]

-- Elements of any tag number.

-- A refusal of an optional element is that of the element, and final as that.
pub element_is_refused : (ElementOf : List ℕ → Parts → Type 0) (FaultOf : List ℕ → Fault → Type 0)
    (IsTruncated : List ℕ → Type 0) → AreLawfulElements ElementOf FaultOf IsTruncated → (refuses : Violation → Error)
    (LeftOut : List ℕ → Type 0) (reads : List ℕ → Result (List ℕ × Any) (Refusal Error) → Type 0) →
    ((octets : List ℕ) (answer : Result (List ℕ × Any) (Refusal Error)) → reads octets answer →
    AnyGives ElementOf FaultOf (refusal_of refuses) octets answer) →
    RefusesAsSome (OptionGives LeftOut reads) reads IsTruncated ElementOf (λ r. ⊥)
element_is_refused ElementOf FaultOf IsTruncated elements refuses LeftOut reads gives octets r are g =
    let its = (refused_is_held LeftOut reads octets r g).1 in (
      its,
      inr (λ more speaks word rest p e a. refusal_lasts ElementOf FaultOf IsTruncated elements refuses octets r
          (gives octets (Err r) its) more word rest p speaks a e),
    )

-- It is left out of no octets that begin with those that are refused.
pub element_stays_in : {T E : Type 0} (reads : List ℕ → Result (List ℕ × T) (Refusal E) → Type 0) →
    StaysIn IsAtEnd (OptionGives IsAtEnd reads)
element_stays_in reads octets more r are g speaks end =
    (refused_is_held IsAtEnd reads octets r g).0 (none_in_front octets more end)
