-- Where there is a fault there is no header and no element, and there is one fault alone.
pub mod Complete
pub mod Beginnings
use Rattle.std.proofs.Common.{◌≡◌, ◌≢◌, ℕ, ◌+◌, ◌^◌, ◌<◌, ◌≤◌, Bool, true, false, List, [], ◌∷◌, ◌++◌, length, drop}
use Rattle.std.proofs.Common.{take, refl, sym, ap, ◌∙◌, arith, subst, inl, inr, append_assoc, append-nil, length-drop}
use Rattle.std.proofs.Common.{length-append, take-append-drop}
use Rattle.std.proofs.lemmas.Bool.{cases_lt}
use Rattle.std.proofs.lemmas.List.{take_at, take-append-le}
use Rattle.x690.specs.Digits.{base_256_value}
use Rattle.x690.specs.Identifiers.{Identifier, IsIdentifier, IsTruncatedIdentifier}
use Rattle.x690.specs.Lengths.{LengthForm, definite, indefinite, IsLengthForm, IsLongLength}
use Rattle.x690.specs.Rules.{Rule, der_rule, allows_form}
use Rattle.x690.specs.Elements.{IsHeader, Parts, IsDefiniteElement, IsDerElement}
use Rattle.x690.specs.Faults.{Fault, missing, tag_fault, length_fault, rule_fault, depth_fault, violation_of}
use Rattle.x690.specs.Faults.{IdentifierFault, IsTruncatedLength, LengthFault, IsLengthViolation, FaultFrom, HeaderFault}
use Rattle.x690.specs.Faults.{IsTruncatedContent, DerElementFault, SpeaksOf}
use Rattle.x690.specs.Laws.Identifiers.{identifier_unique}
use Rattle.x690.specs.Laws.Lengths.{same_front, same_octet, length_form_unique}
use Rattle.x690.specs.Laws.Headers.{header_unique, header_peel, definite_same}

-- no length is shorter than the octets that it announces
no_long : (rest x o y : List ℕ) (n m : ℕ) → IsTruncatedLength rest n → length x < n → IsLongLength o m →
    rest ++ x ≡ o ++ y → ⊥
no_long rest x [] y n m c s l h = l
no_long [] x (k ∷ os) y n m c s l h = let e = ap length h in omega (arith, length-append x y, l.0, length-append os y)
no_long (j ∷ is) x (k ∷ os) y n m c s l h =
    let a : j ≡ k = cc in
    let t : is ++ x ≡ os ++ y = cc in
    let e = ap length t in
    omega (arith, length-append is x, length-append os y, l.2)

no_truncated : (rest x o y : List ℕ) (n : ℕ) (form : LengthForm) → IsTruncatedLength rest n → length x < n → IsLengthForm o form →
    rest ++ x ≡ o ++ y → ⊥
no_truncated rest x o y n (definite m) c s (inr l) h = no_long rest x o y n m c s l h
no_truncated [] x o y n (definite m) c s (inl l) h = let e = ap length (h ∙ ap (λ (ys : List ℕ). ys ++ y) l.1) in omega arith
no_truncated (j ∷ is) x o y n (definite m) c s (inl l) h =
    let a = same_octet j m (is ++ x) y (h ∙ ap (λ (ys : List ℕ). ys ++ y) l.1) in
    omega arith
no_truncated [] x o y n indefinite c s l h = let e = ap length (h ∙ ap (λ (ys : List ℕ). ys ++ y) l) in omega arith
no_truncated (j ∷ is) x o y n indefinite c s l h =
    let a = same_octet j 128 (is ++ x) y (h ∙ ap (λ (ys : List ℕ). ys ++ y) l) in
    omega arith

no_first : (k : ℕ) (x o y : List ℕ) (form : LengthForm) → 129 ≤ k → IsLengthForm o form → (k ∷ []) ++ x ≡ o ++ y →
    (n : ℕ) × IsLongLength o n
no_first k x o y (definite m) p (inl l) h =
    let a = same_octet k m x y (h ∙ ap (λ (ys : List ℕ). ys ++ y) l.1) in
    absurd (omega (arith, l.0))
no_first k x o y (definite m) p (inr l) h = (m, l)
no_first k x o y indefinite p l h =
    let a = same_octet k 128 x y (h ∙ ap (λ (ys : List ℕ). ys ++ y) l) in
    absurd (omega arith)

no_255 : (x o y : List ℕ) (n : ℕ) → IsLongLength o n → (255 ∷ []) ++ x ≡ o ++ y → ⊥
no_255 x [] y n l h = l
no_255 x (k ∷ os) y n l h = let a : 255 ≡ k = cc in omega (arith, l.1, l.2)

no_huge : (os x o y : List ℕ) (n : ℕ) → 2 ^ 64 ≤ base_256_value os → IsLongLength o n →
    ((128 + length os) ∷ []) ++ (os ++ x) ≡ o ++ y → ⊥
no_huge os x [] y n b l h = l
no_huge os x (k ∷ ps) y n b l h =
    let a : 128 + length os ≡ k = cc in
    let t : os ++ x ≡ ps ++ y = cc in
    let e = ap base_256_value (same_front os ps x y (omega (arith, l.2)) t) in
    omega (arith, l.4, l.5)

-- Where there is a fault no length begins the octets, with more behind them of which the fault speaks.
pub no_length : (truncated : Type 0) (rest x o y : List ℕ) (form : LengthForm) (fault : Fault) → LengthFault rest fault →
    SpeaksOf truncated fault x → IsLengthForm o form → rest ++ x ≡ o ++ y → ⊥
no_length truncated rest x o y form (missing n) why s l h = no_truncated rest x o y n form why s l h
no_length truncated rest x o y form length_fault (inl why) s l h =
    let t = ap (λ (ys : List ℕ). ys ++ x) (sym why.1) ∙ h in
    let f = no_first 255 (why.0 ++ x) o y form (omega arith) l t in
    no_255 (why.0 ++ x) o y f.0 f.1 t
no_length truncated rest x o y form length_fault (inr why) s l h =
    let t = ap (λ (ys : List ℕ). (128 + length why.0) ∷ ys) (sym (append_assoc why.0 why.1 x))
    ∙ ap (λ (ys : List ℕ). ys ++ x) (sym why.4) ∙ h in
    let f = no_first (128 + length why.0) (why.0 ++ (why.1 ++ x)) o y form (omega arith) l t in
    no_huge why.0 (why.1 ++ x) o y f.0 why.5 f.1 t
no_length truncated rest x o y form tag_fault why s l h = why
no_length truncated rest x o y form (rule_fault b) why s l h = why
no_length truncated rest x o y form depth_fault why s l h = why

-- of two fronts of one list the shorter begins the longer
pub shorter_front : (a b x y : List ℕ) → a ++ x ≡ b ++ y → length b ≤ length a → a ≡ b ++ drop (length b) a
shorter_front a b x y h l = sym (take-append-drop (length b) a) ∙ ap (λ (ys : List ℕ). ys ++ drop (length b) a)
    (sym (take-append-le (length b) a x l) ∙ ap (take (length b)) h ∙ take_at b y (length b) refl)

not_nil : (l : List ℕ) → 1 ≤ length l → l ≢ []
not_nil l h e = let s = ap length e in omega arith

-- The same of an identifier, where the octets may end within one.
pub no_truncated_identifier : (octets x o y : List ℕ) (id : Identifier) (fault : Fault) → IdentifierFault octets fault →
    SpeaksOf (IsTruncatedIdentifier octets) fault x → IsIdentifier o id → octets ++ x ≡ o ++ y → ⊥
no_truncated_identifier octets x [] y id fault why s i h = i
no_truncated_identifier octets x (l ∷ ds) y id (missing n) why s i h =
    let e = ap length (ap (λ (ys : List ℕ). ys ++ x) (sym why.0) ∙ h) in
    omega arith
no_truncated_identifier octets x (l ∷ ds) y id tag_fault why (inl s) i h =
    why.1 (l ∷ ds) y id (sym (append-nil octets) ∙ ap (λ (ys : List ℕ). octets ++ ys) (sym s) ∙ h) i
no_truncated_identifier octets x (l ∷ ds) y id tag_fault why (inr s) i h =
    elim (cases_lt (length octets) (length (l ∷ ds))) [
      | inr p ↦ why.1 (l ∷ ds) (drop (length (l ∷ ds)) octets) id (shorter_front octets (l ∷ ds) x y h p) i
      | inl p ↦
          let o : List ℕ = l ∷ ds in
          let t : o ≡ octets ++ drop (length octets) o = shorter_front o octets y x (sym h) (omega arith) in
          let k : 1 ≤ length (drop (length octets) o) = omega (arith, length-drop (length octets) o) in
          s (record {
            more = drop (length octets) o;
            id = id;
            some = why.0;
            missing = not_nil (drop (length octets) o) k;
            whole = subst (λ (ys : List ℕ). IsIdentifier ys id) t i;
          })
    ]
no_truncated_identifier octets x (l ∷ ds) y id length_fault why s i h = why
no_truncated_identifier octets x (l ∷ ds) y id (rule_fault b) why s i h = why
no_truncated_identifier octets x (l ∷ ds) y id depth_fault why s i h = why

not_both : (allowed other : Bool) → allowed ≡ false → other ≡ true → allowed ≡ other → ⊥
not_both allowed other e a s = let t : true ≡ false = sym a ∙ sym s ∙ e in cc

same_allowed : (rule : Rule) (i j : Identifier) (c d : List ℕ) (f g : LengthForm) → i ≡ j → c ≡ d → f ≡ g →
    allows_form rule i c f ≡ allows_form rule j d g
same_allowed rule i j c d f g p q r = ap (λ (z : Identifier). allows_form rule z c f) p
    ∙ ap (λ (z : List ℕ). allows_form rule j z f) q ∙ ap (λ (z : LengthForm). allows_form rule j d z) r

-- where the rule does not allow the length octets it has no header of them
no_violation : (rule : Rule) (rest x o y : List ℕ) (id jd : Identifier) (form : LengthForm) (fault : Fault) →
    IsLengthViolation rule id rest fault → id ≡ jd → IsLengthForm o form → allows_form rule jd o form ≡ true →
    rest ++ x ≡ o ++ y → ⊥
no_violation rule rest x o y id jd form fault why same l allowed h =
    let v = length_form_unique why.count o (why.rest ++ x) y why.form form why.count_is l
    (sym (append_assoc why.count why.rest x) ∙ ap (λ (ys : List ℕ). ys ++ x) (sym why.is) ∙ h) in
    not_both (allows_form rule id why.count why.form) (allows_form rule jd o form) why.not_allowed allowed
    (same_allowed rule id jd why.count o why.form form same v.0 v.1)

-- The same of a header by one rule.
pub no_header : (rule : Rule) (octets x o y : List ℕ) (id : Identifier) (form : LengthForm) (fault : Fault) →
    HeaderFault rule octets fault → SpeaksOf (IsTruncatedIdentifier octets) fault x → IsHeader rule o id form →
    octets ++ x ≡ o ++ y → ⊥
no_header rule octets x o y id form fault (inl why) s h i =
    no_truncated_identifier octets x h.identifier (h.count ++ y) id fault why s h.identifier_is
    (i ∙ ap (λ (ys : List ℕ). ys ++ y) h.is ∙ append_assoc h.identifier h.count y)
no_header rule octets x o y id form fault (inr why) s h i =
    let a : why.identifier ++ (why.rest ++ x) ≡ h.identifier ++ (h.count ++ y) =
    sym (append_assoc why.identifier why.rest x) ∙ ap (λ (ys : List ℕ). ys ++ x) (sym why.is) ∙ i
    ∙ ap (λ (ys : List ℕ). ys ++ y) h.is ∙ append_assoc h.identifier h.count y in
    let u = identifier_unique why.identifier h.identifier (why.rest ++ x)
    (h.count ++ y) why.id id why.identifier_is h.identifier_is a in
    elim why.why [
      | inl p ↦ not_both (rule.allows_identifier why.identifier)
          (rule.allows_identifier h.identifier) p.0 h.identifier_allowed (ap rule.allows_identifier u.0)
      | inr (allowed, inl p) ↦ no_length (IsTruncatedIdentifier octets) why.rest x h.count y form fault p s h.count_is u.2
      | inr (allowed, inr p) ↦
          no_violation rule why.rest x h.count y why.id id form fault p u.1 h.count_is h.count_allowed u.2
    ]

speaks_truncated : (truncated : Type 0) (fault : Fault) (n : ℕ) (x : List ℕ) → fault ≡ missing n → SpeaksOf truncated fault x →
    length x < n
speaks_truncated truncated fault n x h s = subst (λ (f : Fault). SpeaksOf truncated f x) h s

-- some octets of the contents are missing, and more of them leave some missing
pub no_content : (rule : Rule) (truncated : Type 0) (octets x o y : List ℕ) (p : Parts) (fault : Fault) →
    IsTruncatedContent rule octets fault → SpeaksOf truncated fault x → IsDefiniteElement rule o p → octets ++ x ≡ o ++ y → ⊥
no_content rule truncated octets x o y p fault why s b h =
    let u = header_peel rule rule why.header b.header why.rest p.content x y why.id p.id
    (definite why.counted) p.form why.header_is b.header_is
    (ap (λ (ys : List ℕ). ys ++ x) (sym why.is) ∙ h ∙ ap (λ (ys : List ℕ). ys ++ y) b.is) in
    let l = definite_same why.counted (length p.content) (u.2 ∙ b.counted) in
    let t = ap length u.3 in
    let short = speaks_truncated truncated fault why.lacking x why.fault_is s in
    omega (arith, length-append why.rest x, length-append p.content y, why.sum)

-- The same of an element by DER.
pub no_der_element : (octets x o y : List ℕ) (p : Parts) (fault : Fault) → DerElementFault octets fault →
    SpeaksOf (IsTruncatedIdentifier octets) fault x → IsDerElement o p → octets ++ x ≡ o ++ y → ⊥
no_der_element octets x o y p fault (inl why) s b h =
    no_header der_rule octets x b.header (p.content ++ y) p.id p.form fault why s b.header_is
    (h ∙ ap (λ (ys : List ℕ). ys ++ y) b.is ∙ append_assoc b.header p.content y)
no_der_element octets x o y p fault (inr why) s b h =
    no_content der_rule (IsTruncatedIdentifier octets) octets x o y p fault why s b h

-- a fault that says how many octets are missing counts one at least
abbrev pub CountsSome : Fault → Type 0
CountsSome (missing n) = 1 ≤ n
CountsSome _ = Unit {0}

identifier_fault_counts : (octets : List ℕ) (fault : Fault) → IdentifierFault octets fault → CountsSome fault
identifier_fault_counts octets (missing n) why = omega (arith, why.1)
identifier_fault_counts octets tag_fault why = tt
identifier_fault_counts octets length_fault why = tt
identifier_fault_counts octets (rule_fault b) why = tt
identifier_fault_counts octets depth_fault why = tt

truncated_length_counts : (octets : List ℕ) (n : ℕ) → IsTruncatedLength octets n → 1 ≤ n
truncated_length_counts [] n why = omega (arith, why)
truncated_length_counts (first ∷ others) n why = why.3

length_fault_counts : (octets : List ℕ) (fault : Fault) → LengthFault octets fault → CountsSome fault
length_fault_counts octets (missing n) why = truncated_length_counts octets n why
length_fault_counts octets tag_fault why = tt
length_fault_counts octets length_fault why = tt
length_fault_counts octets (rule_fault b) why = tt
length_fault_counts octets depth_fault why = tt

-- A fault of a header counts one at least.
pub header_fault_counts : (rule : Rule) (octets : List ℕ) (fault : Fault) → HeaderFault rule octets fault →
    CountsSome fault
header_fault_counts rule octets fault (inl why) = identifier_fault_counts octets fault why
header_fault_counts rule octets fault (inr why) = elim why.why [
  | inl p ↦ subst CountsSome (sym p.1) tt
  | inr (allowed, inl p) ↦ length_fault_counts why.rest fault p
  | inr (allowed, inr p) ↦ subst CountsSome (sym p.fault_is) tt
]

-- So does one of contents octets that are cut.
pub truncated_content_counts : (rule : Rule) (octets : List ℕ) (fault : Fault) → IsTruncatedContent rule octets fault →
    CountsSome fault
truncated_content_counts rule octets fault why = subst CountsSome (sym why.fault_is) why.some

-- So does one of an element by DER.
pub der_fault_counts : (octets : List ℕ) (fault : Fault) → DerElementFault octets fault → CountsSome fault
der_fault_counts octets fault (inl why) = header_fault_counts der_rule octets fault why
der_fault_counts octets fault (inr why) = truncated_content_counts der_rule octets fault why

-- a fault speaks of the octets as they are
pub speaks_now : (truncated : Type 0) (fault : Fault) → CountsSome fault → SpeaksOf truncated fault []
speaks_now truncated (missing n) some = omega arith
speaks_now truncated tag_fault some = inl refl
speaks_now truncated length_fault some = tt
speaks_now truncated (rule_fault b) some = tt
speaks_now truncated depth_fault some = tt

-- where a header begins the octets there is no fault
pub header_or_fault : (rule : Rule) (octets o y : List ℕ) (id : Identifier) (form : LengthForm) (fault : Fault) →
    HeaderFault rule octets fault → IsHeader rule o id form → octets ≡ o ++ y → ⊥
header_or_fault rule octets o y id form fault why h e =
    no_header rule octets [] o y id form fault why
    (speaks_now (IsTruncatedIdentifier octets) fault (header_fault_counts rule octets fault why)) h
    (append-nil octets ∙ e)

-- where an element by DER begins the octets there is no fault
pub der_element_or_fault : (octets o y : List ℕ) (p : Parts) (fault : Fault) → DerElementFault octets fault →
    IsDerElement o p → octets ≡ o ++ y → ⊥
der_element_or_fault octets o y p fault why b e =
    no_der_element octets [] o y p fault why
    (speaks_now (IsTruncatedIdentifier octets) fault (der_fault_counts octets fault why)) b (append-nil octets ∙ e)

one_identifier_fault : (octets : List ℕ) (f g : Fault) → IdentifierFault octets f → IdentifierFault octets g → f ≡ g
one_identifier_fault octets (missing n) (missing m) p q = ap missing (p.1 ∙ sym q.1)
one_identifier_fault octets (missing n) tag_fault p q = absurd (q.0 p.0)
one_identifier_fault octets tag_fault (missing m) p q = absurd (p.0 q.0)
one_identifier_fault octets tag_fault tag_fault p q = refl
one_identifier_fault octets length_fault g p q = absurd p
one_identifier_fault octets (rule_fault b) g p q = absurd p
one_identifier_fault octets depth_fault g p q = absurd p
one_identifier_fault octets f length_fault p q = absurd q
one_identifier_fault octets f (rule_fault b) p q = absurd q
one_identifier_fault octets f depth_fault p q = absurd q

one_truncated_length : (octets : List ℕ) (n m : ℕ) → IsTruncatedLength octets n → IsTruncatedLength octets m → n ≡ m
one_truncated_length [] n m p q = p ∙ sym q
one_truncated_length (first ∷ others) n m p q = omega (arith, p.1, q.1, p.4, q.4)

-- octets that are missing are not those of a length past 64 bits
truncated_not_huge : (octets : List ℕ) (n : ℕ) → IsTruncatedLength octets n → LengthFault octets length_fault → ⊥
truncated_not_huge [] n p (inl q) = cc
truncated_not_huge [] n p (inr q) = let e = q.4 in cc
truncated_not_huge (first ∷ others) n p (inl q) = let e : first ≡ 255 = cc in omega (arith, p.1, p.2)
truncated_not_huge (first ∷ others) n p (inr q) =
    let s = q.4 in
    let e : first ≡ 128 + length q.0 = cc in
    let t : others ≡ q.0 ++ q.1 = cc in
    omega (arith, p.1, p.3, p.4, ap length t, length-append q.0 q.1)

one_length_fault : (octets : List ℕ) (f g : Fault) → LengthFault octets f → LengthFault octets g → f ≡ g
one_length_fault octets (missing n) (missing m) p q = ap missing (one_truncated_length octets n m p q)
one_length_fault octets (missing n) length_fault p q = absurd (truncated_not_huge octets n p q)
one_length_fault octets length_fault (missing m) p q = absurd (truncated_not_huge octets m q p)
one_length_fault octets length_fault length_fault p q = refl
one_length_fault octets tag_fault g p q = absurd p
one_length_fault octets (rule_fault b) g p q = absurd p
one_length_fault octets depth_fault g p q = absurd p
one_length_fault octets f tag_fault p q = absurd q
one_length_fault octets f (rule_fault b) p q = absurd q
one_length_fault octets f depth_fault p q = absurd q

-- length octets begin the octets, so that there is no fault before their end
length_or_fault : (octets o y : List ℕ) (form : LengthForm) (f : Fault) → LengthFault octets f → IsLengthForm o form →
    octets ≡ o ++ y → ⊥
length_or_fault octets o y form f why l e =
    no_length ⊥ octets [] o y form f why (speaks_now ⊥ f (length_fault_counts octets f why)) l (append-nil octets ∙ e)

-- a front of the octets is an identifier, so that there is no fault before its end
identifier_or_fault : (octets o y : List ℕ) (id : Identifier) (f : Fault) → IdentifierFault octets f →
    IsIdentifier o id → octets ≡ o ++ y → ⊥
identifier_or_fault octets o y id f why i e =
    no_truncated_identifier octets [] o y id f why
    (speaks_now (IsTruncatedIdentifier octets) f (identifier_fault_counts octets f why)) i (append-nil octets ∙ e)

one_violation : (rule : Rule) (id : Identifier) (rest : List ℕ) (f g : Fault) → IsLengthViolation rule id rest f →
    IsLengthViolation rule id rest g → f ≡ g
one_violation rule id rest f g p q =
    let u = length_form_unique p.count q.count p.rest q.rest p.form q.form p.count_is q.count_is (sym p.is ∙ q.is) in
    p.fault_is ∙ ap (λ (z : LengthForm). rule_fault (violation_of z)) u.1 ∙ sym q.fault_is

one_fault_from : (rule : Rule) (identifier : List ℕ) (id : Identifier) (rest : List ℕ) (f g : Fault) →
    FaultFrom rule identifier id rest f → FaultFrom rule identifier id rest g → f ≡ g
one_fault_from rule identifier id rest f g (inl p) (inl q) = p.1 ∙ sym q.1
one_fault_from rule identifier id rest f g (inl p) (inr q) =
    absurd (not_both (rule.allows_identifier identifier) (rule.allows_identifier identifier) p.0 q.0 refl)
one_fault_from rule identifier id rest f g (inr p) (inl q) =
    absurd (not_both (rule.allows_identifier identifier) (rule.allows_identifier identifier) q.0 p.0 refl)
one_fault_from rule identifier id rest f g (inr (a, inl p)) (inr (b, inl q)) = one_length_fault rest f g p q
one_fault_from rule identifier id rest f g (inr (a, inl p)) (inr (b, inr q)) =
    absurd (length_or_fault rest q.count q.rest q.form f p q.count_is q.is)
one_fault_from rule identifier id rest f g (inr (a, inr p)) (inr (b, inl q)) =
    absurd (length_or_fault rest p.count p.rest p.form g q p.count_is p.is)
one_fault_from rule identifier id rest f g (inr (a, inr p)) (inr (b, inr q)) = one_violation rule id rest f g p q

-- Octets with no header have one fault.
pub one_header_fault : (rule : Rule) (octets : List ℕ) (f g : Fault) → HeaderFault rule octets f →
    HeaderFault rule octets g → f ≡ g
one_header_fault rule octets f g (inl p) (inl q) = one_identifier_fault octets f g p q
one_header_fault rule octets f g (inl p) (inr q) =
    absurd (identifier_or_fault octets q.identifier q.rest q.id f p q.identifier_is q.is)
one_header_fault rule octets f g (inr p) (inl q) =
    absurd (identifier_or_fault octets p.identifier p.rest p.id g q p.identifier_is p.is)
one_header_fault rule octets f g (inr p) (inr q) =
    let u = identifier_unique q.identifier p.identifier q.rest p.rest q.id p.id q.identifier_is p.identifier_is
    (sym q.is ∙ p.is) in
    let a : FaultFrom rule p.identifier q.id q.rest g =
    subst (λ (z : List ℕ). FaultFrom rule z q.id q.rest g) u.0 q.why in
    let b : FaultFrom rule p.identifier p.id q.rest g =
    subst (λ (z : Identifier). FaultFrom rule p.identifier z q.rest g) u.1 a in
    one_fault_from rule p.identifier p.id p.rest f g p.why
    (subst (λ (z : List ℕ). FaultFrom rule p.identifier p.id z g) u.2 b)

-- Contents octets that are cut have one fault.
pub one_truncated_content : (rule : Rule) (octets : List ℕ) (f g : Fault) → IsTruncatedContent rule octets f →
    IsTruncatedContent rule octets g → f ≡ g
one_truncated_content rule octets f g p q =
    let u = header_unique rule rule p.header q.header p.rest q.rest p.id q.id (definite p.counted)
    (definite q.counted) p.header_is q.header_is (sym p.is ∙ q.is) in
    let l = definite_same p.counted q.counted u.2 in
    let t = ap length u.3 in
    p.fault_is ∙ ap missing (omega (arith, l, t, p.sum, q.sum)) ∙ sym q.fault_is

-- Octets with no element by DER have one fault.
pub one_der_fault : (octets : List ℕ) (f g : Fault) → DerElementFault octets f → DerElementFault octets g → f ≡ g
one_der_fault octets f g (inl p) (inl q) = one_header_fault der_rule octets f g p q
one_der_fault octets f g (inl p) (inr q) =
    absurd (header_or_fault der_rule octets q.header q.rest q.id (definite q.counted) f p q.header_is q.is)
one_der_fault octets f g (inr p) (inl q) =
    absurd (header_or_fault der_rule octets p.header p.rest p.id (definite p.counted) g q p.header_is p.is)
one_der_fault octets f g (inr p) (inr q) = one_truncated_content der_rule octets f g p q
