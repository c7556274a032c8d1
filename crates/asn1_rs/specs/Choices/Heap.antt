-- Choices whose values are on the heap.
use Rattle.std.specs.Prelude.{◌≡◌, true, false, Result, Ok, Err}
use Rattle.std.proofs.Common.{refl, ap, inl, inr}
use Rattle.asn1_rs.specs.Prelude.{Error}
use Rattle.asn1_headers.specs.declared.error.Error.TheVariants.{OutOfMemory}
use Rattle.asn1_rs.specs.declared.asn1_types.any.Any.{Any}
use Rattle.asn1_rs.specs.Choices.{ArmsGrammar, ChosenArm}
use Rattle.asn1_rs.specs.Choices.Data.{AnswersOf, LawfulArmsOf, LawfulChoiceOf, grammar_of_choice}
use Rattle.asn1_rs.specs.Laws.Choices.{AreLawfulArms, AreLawfulPuts}
use Rattle.asn1_rs.specs.declared.choices.boxed.Boxed.{Boxed}

-- The same arms, of which a value is put on the heap: reading allocates.
abbrev pub heap_grammar : {S : Type 0} → ArmsGrammar S → ArmsGrammar S
heap_grammar G = record {
  Value = G.Value;
  value = G.value;
  IsValue = G.IsValue;
  IsDer = G.IsDer;
  Der = G.Der;
  Body = G.Body;
  Check = G.Check;
  Form = G.Form;
  tags = G.tags;
  allocates = true;
}

-- What is lawful is so on the heap.
pub heap_lawful : {S : Type 0} (G : ArmsGrammar S) → AreLawfulArms G → AreLawfulArms (heap_grammar G)
heap_lawful G l = record {
  one_equality = l.one_equality;
  der_element = l.der_element;
  der_values = l.der_values;
  body_values = l.body_values;
  form_values = l.form_values;
  der_one = l.der_one;
  body_one = l.body_one;
  one_form = l.one_form;
  one_value = l.one_value;
  form_fits = l.form_fits;
  form_check = l.form_check;
  form_der = l.form_der;
  form_body = l.form_body;
  strict_der = l.strict_der;
  tagged = l.tagged;
}

-- and so is how it is written
pub heap_puts : {S : Type 0} (G : ArmsGrammar S) (arm_of : S → ChosenArm) → AreLawfulPuts G arm_of →
    AreLawfulPuts (heap_grammar G) arm_of
heap_puts G arm_of l = record {
  tells_all = l.tells_all;
  by_value = l.by_value;
  form = l.form;
  der_form = l.der_form;
  der_writable = l.der_writable;
  assert_valid = l.assert_valid;
}

abbrev pub heap_arms : {S : Type 0} → LawfulArmsOf S → LawfulArmsOf S
heap_arms A = record {
  grammar = heap_grammar A.grammar;
  arm_of = A.arm_of;
  told = A.told;
  lawful = λ t. heap_lawful A.grammar (A.lawful t);
  puts = λ t. heap_puts A.grammar A.arm_of (A.puts t);
}

-- A choice whose values are on the heap. The value in there tells which arm it is.
abbrev pub boxed_choice : {T B : Type 0} → (B → T) → LawfulChoiceOf T → LawfulChoiceOf B
boxed_choice held X = record {
  Arms = X.Arms;
  as_arms = λ b. X.as_arms (held b);
  arms = heap_arms X.arms;
  lawful = heap_lawful X.arms.grammar X.lawful;
  puts = heap_puts X.arms.grammar X.arms.arm_of X.puts;
}

-- the choice whose values are on the heap
abbrev pub inner_of_box : {C : Type 0} → Boxed C → C
inner_of_box b = b.held.value

abbrev pub boxed : {C : Type 0} → LawfulChoiceOf C → LawfulChoiceOf (Boxed C)
boxed X = boxed_choice inner_of_box X

module _ {T B : Type 0} (held : B → T) (X : LawfulChoiceOf T) (any : Any) where
  -- what the conversion to a value of the choice, and to one on the heap, may answer
  abbrev pub ConvertsOnHeap : Result T Error → Type 0
  ConvertsOnHeap = AnswersOf (grammar_of_choice X) X.arms.grammar.tags any

  abbrev pub TakesBoxed : Result B Error → Type 0
  TakesBoxed = AnswersOf (grammar_of_choice (boxed_choice held X)) X.arms.grammar.tags any

  never : true ≡ false → ⊥
  never n = cc

  -- A value that was taken is taken on the heap,
  pub boxed_taken : (b : B) → ConvertsOnHeap (Ok (held b)) → TakesBoxed (Ok b)
  boxed_taken b a = record {
    exact = λ o. a.exact o;
    no_memory = λ n. absurd (never n);
    other = λ n. let t = a.other n in absurd (cc);
  }

  -- or is out of memory.
  pub boxed_memory : (x : T) → ConvertsOnHeap (Ok x) → TakesBoxed (Err OutOfMemory)
  boxed_memory x a = record {
    exact = λ o. inl (refl, refl);
    no_memory = λ n. absurd (never n);
    other = λ n. let t = a.other n in absurd (cc);
  }

  -- What is refused is refused so.
  pub boxed_refused : (e : Error) → ConvertsOnHeap (Err e) → TakesBoxed (Err e)
  boxed_refused e a = record {
    exact = λ o. elim (a.exact o) [ inl memory ↦ inl (refl, memory.1) | inr none ↦ inr none ];
    no_memory = λ n. absurd (never n);
    other = λ n. let t = a.other n in let is : e ≡ t.0 = cc in (t.0, t.1, ap Err is);
  }
