-- Choices of types that are told apart by the class and the tag number of their elements (X.680 29).
pub mod Data
pub mod Heap
pub mod InHand
pub mod Nested
pub mod Taken
pub mod TaggedStructs
pub mod Within
use Rattle.std.specs.Prelude.{◌≡◌, ◌≢◌, ◌⊎◌, ◌||◌, ◌&&◌, ℕ, Bool, true, false, IsTrue, List, [], ◌∷◌, Result, Ok, Err}
use Rattle.std.specs.Prelude.{None, nat_eq, not, IfOk, IfErr, IsErr, length}
use Rattle.std.proofs.Common.{inl, inr}
use Rattle.std.specs.declared.vec.Vec.{Vec}
use Rattle.std.specs.declared.alloc.Global.{Global}
use Rattle.x690.specs.Identifiers.{Identifier}
use Rattle.x690.specs.Elements.{Parts, IsDerElement}
use Rattle.asn1_headers.specs.Class.{class_number}
use Rattle.asn1_headers.specs.declared.class.Class.{Class}
use Rattle.asn1_headers.specs.declared.error.Err.{Err as Refusal}
use Rattle.asn1_headers.specs.declared.error.Err.TheVariants.{Error as refused}
use Rattle.asn1_headers.specs.declared.error.Error.{Error}
use Rattle.asn1_headers.specs.declared.error.Error.TheVariants.{UnexpectedTag, UnexpectedClass}
use Rattle.asn1_headers.specs.declared.error.SerializeError.{SerializeError}
use Rattle.asn1_headers.specs.Error.{tells_of_io}
use Rattle.asn1_rs.specs.declared.asn1_types.any.Any.{Any}
use Rattle.asn1_rs.specs.declared.choices.arms.Never.{Never}
use Rattle.asn1_rs.specs.declared.choices.arms.Or.{Or}
use Rattle.asn1_rs.specs.declared.choices.arms.Or.TheVariants as arm
use Rattle.asn1_rs.specs.Any.{parts_of, BeginsWithAny, DerElementGives}
use Rattle.asn1_rs.specs.Checks.{CheckGives}
use Rattle.asn1_rs.specs.Grammar.Item.{ItemGrammar}
use Rattle.asn1_rs.specs.ToDer.{Writing, IntoVector, RefusesCount, VectorRefuses, whole_octets, whole_refuses}

-- Tags.

-- the identifier is of this class and this tag number
abbrev pub is_of_tag : ℕ → ℕ → Identifier → Bool
is_of_tag class number i = nat_eq i.class class && nat_eq i.number number

-- it is of one of these
abbrev pub has_a_tag : List (ℕ × ℕ) → Identifier → Bool
has_a_tag [] i = false
has_a_tag (tag ∷ tags) i = is_of_tag tag.0 tag.1 i || has_a_tag tags i

-- its class is that of one of these
abbrev pub has_a_class : List (ℕ × ℕ) → ℕ → Bool
has_a_class [] class = false
has_a_class (tag ∷ tags) class = nat_eq class tag.0 || has_a_class tags class

-- the class and the tag number are one of these
abbrev pub is_tag_among : ℕ → ℕ → List (ℕ × ℕ) → Bool
is_tag_among class number [] = false
is_tag_among class number (tag ∷ tags) = (nat_eq class tag.0 && nat_eq number tag.1) || is_tag_among class number tags

-- the tag numbers of these
abbrev pub numbers_of_tags : List (ℕ × ℕ) → List ℕ
numbers_of_tags [] = []
numbers_of_tags (tag ∷ tags) = tag.1 ∷ numbers_of_tags tags

-- Arms.

-- The same of several types, of which a value is one's: the words by DER whose identifier is this, and the tags.
pub record ArmsGrammar (S : Type 0) : Type 1 where
  pub Value : Type 0
  pub value : S → Value
  pub IsValue : Value → Type 0
  pub IsDer : Value → Type 0
  pub Der : Identifier → List ℕ → Value → Type 0
  pub Body : Parts → Value → Type 0
  pub Check : Parts → Type 0
  pub Form : Value → Identifier → List ℕ → Type 0
  pub tags : List (ℕ × ℕ)
  pub allocates : Bool

-- of the first arm this, of the others that
abbrev pub InArm : {V W : Type 0} → (V → Type 0) → (W → Type 0) → V ⊎ W → Type 0
InArm P Q (inl v) = P v
InArm P Q (inr w) = Q w

-- the same, where the first arm is told by its tag
abbrev pub ByTag : {V W : Type 0} → Bool → (V → Type 0) → (W → Type 0) → V ⊎ W → Type 0
ByTag told P Q (inl v) = (told ≡ true) × P v
ByTag told P Q (inr w) = (told ≡ false) × Q w

-- what is asked of the parts of the arm that they have the tag of
abbrev pub CheckByTag : Bool → Type 0 → Type 0 → Type 0
CheckByTag true P Q = P
CheckByTag false P Q = Q

abbrev pub or_value : {A B V W : Type 0} {class : ℕ} → (A → V) → (B → W) → Or A B class → V ⊎ W
or_value f g (arm.This x) = inl (f x)
or_value f g (arm.Other y) = inr (g y)

-- no arms
abbrev pub no_value : Never → ⊥
no_value x = elim x [ ]

abbrev pub no_arms : ArmsGrammar Never
no_arms = record {
  Value = ⊥;
  value = no_value;
  IsValue = λ v. ⊥;
  IsDer = λ v. ⊥;
  Der = λ i o v. ⊥;
  Body = λ p v. ⊥;
  Check = λ p. ⊥;
  Form = λ v i c. ⊥;
  tags = [];
  allocates = false;
}

-- A type of this class and tag number, and the other arms. What has its tag is its own.
abbrev pub or_arms : {A B : Type 0} (class number : ℕ) → ItemGrammar A → ArmsGrammar B → ArmsGrammar (Or A B class)
or_arms class number G H = record {
  Value = G.Value ⊎ H.Value;
  value = or_value G.value H.value;
  IsValue = InArm G.IsValue H.IsValue;
  IsDer = InArm G.IsDer H.IsDer;
  Der = λ i o. ByTag (is_of_tag class number i) (G.Der o) (H.Der i o);
  Body = λ p. ByTag (is_of_tag class number p.id) (G.Body p) (H.Body p);
  Check = λ p. CheckByTag (is_of_tag class number p.id) (G.Check p) (H.Check p);
  Form = λ v i c. InArm (λ x. G.Form x i c) (λ y. H.Form y i c) v;
  tags = (class, number) ∷ H.tags;
  allocates = G.allocates || H.allocates;
}

-- Choices.

-- an element by DER that is a word of the arm whose tag it has
abbrev pub ChoiceWord : {V : Type 0} → (Identifier → List ℕ → V → Type 0) → List ℕ → V → Type 0
ChoiceWord Der o v = (p : Parts) × IsDerElement o p × Der p.id o v

-- what is a value of one of these arms
abbrev pub choice_grammar : {S T : Type 0} → (T → S) → ArmsGrammar S → ItemGrammar T
choice_grammar as_arms G = record {
  Value = G.Value;
  value = λ x. G.value (as_arms x);
  IsValue = G.IsValue;
  IsDer = G.IsDer;
  Der = ChoiceWord G.Der;
  Body = G.Body;
  Check = G.Check;
  Form = G.Form;
  allocates = G.allocates;
}

-- What is answered.

-- What a reader of arms may answer, that hands on to the reader of the first one, or to that of the others.
abbrev pub OrReads : {A B E : Type 0} {class : ℕ} → Bool → (List ℕ → Result (List ℕ × A) E → Type 0) →
    (List ℕ → Result (List ℕ × B) E → Type 0) → List ℕ → Result (List ℕ × Or A B class) E → Type 0
OrReads told first others input (Ok (rest, arm.This x)) = (told ≡ true) × first input (Ok (rest, x))
OrReads told first others input (Ok (rest, arm.Other y)) = (told ≡ false) × others input (Ok (rest, y))
OrReads told first others input (Err r) =
    ((told ≡ true) × first input (Err r)) ⊎ ((told ≡ false) × others input (Err r))

-- what their conversion may
abbrev pub OrGives : {A B E : Type 0} {class : ℕ} → Bool → (Result A E → Type 0) → (Result B E → Type 0) →
    Result (Or A B class) E → Type 0
OrGives told first others (Ok (arm.This x)) = (told ≡ true) × first (Ok x)
OrGives told first others (Ok (arm.Other y)) = (told ≡ false) × others (Ok y)
OrGives told first others (Err e) = ((told ≡ true) × first (Err e)) ⊎ ((told ≡ false) × others (Err e))

-- and what their check may
abbrev pub OrChecks : ℕ → ℕ → CheckGives → CheckGives → CheckGives
OrChecks class number first others p answer =
    CheckByTag (is_of_tag class number p.id) (first p answer) (others p answer)

-- an element that is of no arm, at the end of them
abbrev pub IsNoArm : {T E : Type 0} → (Error → E) → ℕ → Result T E → Type 0
IsNoArm from number answer = answer ≡ Err (from (UnexpectedTag None (record { 0 = number })))

-- its refusal: it has another class than each arm, or another tag number than each of its class
abbrev pub NoArmRefusal : List (ℕ × ℕ) → Identifier → Error → Type 0
NoArmRefusal tags i e =
    ((has_a_class tags i.class ≡ false) ×
    ((actual : Class) × (i.class ≡ class_number actual) × (e ≡ UnexpectedClass None actual))) ⊎
    ((has_a_class tags i.class ≡ true) × (e ≡ UnexpectedTag None (record { 0 = i.number })))

-- whether its class is that of an arm
abbrev pub KnowsClass : List (ℕ × ℕ) → CheckGives
KnowsClass tags p (Ok x) = has_a_class tags p.id.class ≡ true
KnowsClass tags p (Err e) = (has_a_class tags p.id.class ≡ false) ×
    ((actual : Class) × (p.id.class ≡ class_number actual) × (e ≡ UnexpectedClass None actual))

-- What reading a choice by DER may answer. An element is read, and its class is looked at. Then the reader of its arm
-- reads the octets.
abbrev pub ChoiceReads : {S T : Type 0} → List (ℕ × ℕ) → (T → S) →
    (Identifier → List ℕ → Result (List ℕ × S) (Refusal Error) → Type 0) → List ℕ →
    Result (List ℕ × T) (Refusal Error) → Type 0
ChoiceReads tags as_arms reads input (Ok (rest, x)) = (any : Any) × (behind : List ℕ) ×
    BeginsWithAny IsDerElement input any behind × reads (parts_of any).id input (Ok (rest, as_arms x))
ChoiceReads tags as_arms reads input (Err r) = DerElementGives input (Err r) ⊎
    ((any : Any) × (behind : List ℕ) × BeginsWithAny IsDerElement input any behind ×
    (((e : Error) × KnowsClass tags (parts_of any) (Err e) × (r ≡ refused e)) ⊎
    (KnowsClass tags (parts_of any) (Ok tt) × reads (parts_of any).id input (Err r))))

-- What the conversion of an element may.
abbrev pub ChoiceGives : {S T : Type 0} → List (ℕ × ℕ) → (T → S) → (Any → Result S Error → Type 0) → Any →
    Result T Error → Type 0
ChoiceGives tags as_arms gives any (Ok x) = gives any (Ok (as_arms x))
ChoiceGives tags as_arms gives any (Err e) = KnowsClass tags (parts_of any) (Err e) ⊎
    (KnowsClass tags (parts_of any) (Ok tt) × gives any (Err e))

-- Writing.

-- the arm that a value is of: what its type says, and the value
pub record ChosenArm : Type 1 where
  pub Type_of : Type 0
  pub grammar : ItemGrammar Type_of
  pub writing : Writing Type_of
  pub item : Type_of

abbrev pub chosen : {T : Type 0} → ItemGrammar T → Writing T → T → ChosenArm
chosen {T} G w x = record { Type_of = T; grammar = G; writing = w; item = x }

abbrev pub or_chosen : {A B : Type 0} {class : ℕ} → ItemGrammar A → Writing A → (B → ChosenArm) → Or A B class →
    ChosenArm
or_chosen G w others (arm.This x) = chosen G w x
or_chosen G w others (arm.Other y) = others y

abbrev pub none_chosen : Never → ChosenArm
none_chosen x = absurd (no_value x)

-- what is said of the arm
abbrev pub arm_tells : ChosenArm → Type 0
arm_tells a = a.writing.tells a.item

abbrev pub arm_header : ChosenArm → List ℕ
arm_header a = a.writing.header a.item

abbrev pub arm_content : ChosenArm → List ℕ
arm_content a = a.writing.content a.item

abbrev pub arm_constructed : ChosenArm → Bool
arm_constructed a = a.writing.constructed a.item

abbrev pub arm_count_refuses : ChosenArm → Error → Type 0
arm_count_refuses a = a.writing.count_refuses a.item

abbrev pub arm_header_refuses : ChosenArm → SerializeError → Type 0
arm_header_refuses a = a.writing.header_refuses a.item

abbrev pub arm_content_refuses : ChosenArm → SerializeError → Type 0
arm_content_refuses a = a.writing.content_refuses a.item

-- What is a value of one of the arms is written as that arm, whose octets are collected in a vector first.
abbrev pub choice_writing : {S T : Type 0} → (T → S) → (S → ChosenArm) → Writing T
choice_writing as_arms arm_of = record {
  tells = λ x. arm_tells (arm_of (as_arms x));
  header = λ x. arm_header (arm_of (as_arms x));
  content = λ x. arm_content (arm_of (as_arms x));
  constructed = λ x. arm_constructed (arm_of (as_arms x));
  count_refuses = λ x. arm_count_refuses (arm_of (as_arms x));
  header_refuses = λ x. IntoVector (arm_header_refuses (arm_of (as_arms x)));
  content_refuses = λ x. IntoVector (arm_content_refuses (arm_of (as_arms x)));
  refuses_first = λ _ _. ⊥;
  count_allocates = true;
  content_allocates = true;
  write_allocates = true;
}

-- what counting its octets may answer
pub record CountsOctets (tells : Type 0) (octets : List ℕ) (own : Error → Type 0) (answer : Result ℕ Error) : Type 0 where
  pub count : tells → IfOk answer (λ n. n ≡ length octets)
  pub refused : tells → IfErr answer (RefusesCount true (length octets) own)
  pub accepted : (e : Error) → tells → own e → IsErr answer

-- what collecting octets may, which are part of so many
pub record CollectsOctets (tells : Type 0) (octets : List ℕ) (len : ℕ) (own : SerializeError → Type 0)
    (counts : Error → Type 0) (answer : Result (Vec ℕ Global) SerializeError) : Type 0 where
  pub collected : tells → IfOk answer (λ v. v.items ≡ octets)
  pub refused : tells → IfErr answer (VectorRefuses len own)
  pub accepted : (e : SerializeError) → tells → own e → IsErr answer
  pub uncounted : (e : Error) → tells → counts e → IsErr answer
  pub memory : IfErr answer (λ e. tells_of_io e ≡ false)

-- of the whole, of the contents octets, and of the header
abbrev pub arm_whole : ChosenArm → List ℕ
arm_whole a = whole_octets a.writing a.item

abbrev pub arm_whole_refuses : ChosenArm → SerializeError → Type 0
arm_whole_refuses a = whole_refuses a.writing a.item

abbrev pub CountsWhole : ChosenArm → Result ℕ Error → Type 0
CountsWhole a = CountsOctets (arm_tells a) (arm_whole a) (arm_count_refuses a)

abbrev pub CountsContent : ChosenArm → Result ℕ Error → Type 0
CountsContent a = CountsOctets (arm_tells a) (arm_content a) (arm_count_refuses a)

abbrev pub TellsConstructed : ChosenArm → Bool → Type 0
TellsConstructed a answer = arm_tells a → answer ≡ arm_constructed a

abbrev pub CollectsWhole : ChosenArm → Result (Vec ℕ Global) SerializeError → Type 0
CollectsWhole a =
    CollectsOctets (arm_tells a) (arm_whole a) (length (arm_whole a)) (arm_whole_refuses a) (arm_count_refuses a)

abbrev pub CollectsContent : ChosenArm → Result (Vec ℕ Global) SerializeError → Type 0
CollectsContent a =
    CollectsOctets (arm_tells a) (arm_content a) (length (arm_content a)) (arm_content_refuses a) (arm_count_refuses a)

abbrev pub CollectsHeader : ChosenArm → Result (Vec ℕ Global) SerializeError → Type 0
CollectsHeader a =
    CollectsOctets (arm_tells a) (arm_header a) (length (arm_whole a)) (arm_header_refuses a) (λ e. ⊥)

-- and that its value is one of the type's
abbrev pub HasTypeValue : ChosenArm → Unit {0} → Type 0
HasTypeValue a answer = a.grammar.IsValue (a.grammar.value a.item)
