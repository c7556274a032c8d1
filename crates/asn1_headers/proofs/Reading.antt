-- Octets that are read.
use Rattle.std.proofs.Common.{◌≡◌, ◌∙◌, ℕ, ◌+◌, ◌<◌, ◌≤◌, true, false, Some, List, [], ◌∷◌, ◌++◌, length, get_or, suc}
use Rattle.std.proofs.Common.{refl, arith, subst, inr, sym, ap, append_assoc}
use Rattle.x690.specs.Octets.{IsOctets}
use Rattle.x690.specs.Laws.Octets.{octets_front}
use Rattle.x690.specs.Identifiers.{Identifier, IsIdentifier}
use Rattle.x690.specs.Lengths.{LengthForm, IsLengthForm}
use Rattle.x690.specs.Rules.{Rule, ber_rule, allows_form}
use Rattle.x690.specs.Faults.{Violation, violation_of, Fault, missing, rule_fault, LengthFault, FaultFrom, HeaderFault}
use Rattle.x690.specs.Laws.Identifiers.{same_identifier}
use Rattle.asn1_headers.specs.declared.header.Header.{Header}
use Rattle.asn1_headers.specs.declared.header.reading.IdentifierOctets.{IdentifierOctets}
use Rattle.asn1_headers.specs.declared.error.Error.{Error}
use Rattle.asn1_headers.specs.declared.error.Err.TheVariants.{Error as refused}
use Rattle.asn1_headers.specs.declared.length.Length.{Length}
use Rattle.asn1_headers.specs.declared.length.Length.TheVariants.{Definite, Indefinite}
use Rattle.asn1_headers.specs.declared.tag.Tag.{Tag}
use Rattle.asn1_headers.specs.Class.{class_number}
use Rattle.asn1_headers.specs.Length.{form_of}
use Rattle.asn1_headers.specs.Header.{identifier_of, HasParts, LendsRawTag}
use Rattle.asn1_headers.specs.Header.Reading.{BeginsInput, BeginsWithIdentifier, BeginsWithLength, Refused, refusal_of}
use Rattle.asn1_headers.specs.Header.Reading.{id_read, tag_read}

pub nothing : (octets : List ℕ) → length octets < 1 → octets ≡ []
nothing [] h = refl
nothing (x ∷ octets) h = absurd (omega arith)

-- no first length octet is there
pub no_length : (octets : List ℕ) → length octets < 1 → LengthFault octets (missing 1)
no_length [] h = refl
no_length (x ∷ octets) h = absurd (omega arith)

-- some of the length octets that the first one announces are missing
pub truncated_length : (octets rest : List ℕ) (count lacking : ℕ) → octets ≡ get_or octets 0 0 ∷ rest →
    get_or octets 0 0 ≡ 128 + count → count ≤ 126 → 1 ≤ lacking → length rest + lacking ≡ count →
    LengthFault octets (missing lacking)
truncated_length octets rest count lacking e f few some sum =
    subst (λ (z : List ℕ). LengthFault z (missing lacking)) (sym e) (count, f, few, some, sum)

pub long_octets : (octets front back : List ℕ) (first : ℕ) → IsOctets octets → octets ≡ first ∷ (front ++ back) →
    IsOctets front
long_octets octets front back first h e =
    let t : IsOctets (first ∷ (front ++ back)) = subst IsOctets e h in
    octets_front front back (λ k. t (suc k))

module _ (rule : Rule) (input after : List ℕ) (x : IdentifierOctets) (b : BeginsWithIdentifier input after x) where
  -- a header of the parts that were read begins the input
  pub begins_made : (rest : List ℕ) (length : Length) (h : Header) → (l : BeginsWithLength after rest length) →
      HasParts h x.class x.constructed (tag_read x) length (Some x.octets.now) → LendsRawTag h →
      rule.allows_identifier x.octets.now ≡ true → allows_form rule (id_read x) l.0 (form_of length) ≡ true →
      BeginsInput rule input rest h
  begins_made rest length h l p lent allowed form =
      let same : id_read x ≡ identifier_of h =
      sym (same_identifier (class_number h.class) (class_number x.class) h.tag.0 x.number h.constructed x.constructed
      (ap class_number p.class_is) p.constructed_is (ap (λ (t : Tag). t.0) p.tag_is)) in
      record {
        octets = x.octets.now ++ l.0;
        header = record {
          identifier = x.octets.now;
          count = l.0;
          is = refl;
          identifier_is = subst (λ id. IsIdentifier x.octets.now id) same b.0;
          count_is = subst (λ (f : Length). IsLengthForm l.0 (form_of f)) (sym p.length_is) l.1;
          identifier_allowed = allowed;
          count_allowed = subst (λ id. allows_form rule id l.0 (form_of h.length) ≡ true) same (subst
              (λ (f : Length). allows_form rule (id_read x) l.0 (form_of f) ≡ true) (sym p.length_is) form);
        };
        is = b.1 ∙ ap (λ (ys : List ℕ). x.octets.now ++ ys) l.2 ∙ sym (append_assoc x.octets.now l.0 rest);
        raw_tag = (p.raw_tag_is, lent);
      }

  -- the first fault stands behind the identifier octets, or in what the rule says of them
  pub fault_behind : (fault : Fault) → FaultFrom rule x.octets.now (id_read x) after fault →
      HeaderFault rule input fault
  fault_behind fault why = inr (record {
    identifier = x.octets.now;
    rest = after;
    id = id_read x;
    identifier_is = b.0;
    is = b.1;
    why = why;
  })

  -- length octets, or 80, that the rule does not allow behind the identifier octets
  pub form_refused : (refuses : Violation → Error) (rest : List ℕ) (length : Length) (form : LengthForm) →
      (l : BeginsWithLength after rest length) → form_of length ≡ form →
      rule.allows_identifier x.octets.now ≡ true → allows_form rule (id_read x) l.0 form ≡ false →
      Refused (HeaderFault rule) (refusal_of refuses) input (refused (refuses (violation_of form)))
  form_refused refuses rest length form l e allowed not_allowed = (
    rule_fault (violation_of form),
    fault_behind (rule_fault (violation_of form)) (inr (
      allowed,
      inr (record {
        count = l.0;
        rest = rest;
        form = form;
        count_is = subst (λ (f : LengthForm). IsLengthForm l.0 f) e l.1;
        is = l.2;
        not_allowed = not_allowed;
        fault_is = refl;
      }),
    )),
    refl,
  )

pub ber_form_allowed : (id : Identifier) (length : Length) → (length ≡ Indefinite → id.constructed ≡ true) →
    (count : List ℕ) → allows_form ber_rule id count (form_of length) ≡ true
ber_form_allowed id (Definite m) e count = refl
ber_form_allowed id Indefinite e count = e refl
