-- What texts gain in turn.
use Rattle.std.proofs.Common.{◌≡◌, ◌∙◌, ℕ, ◌+◌, ◌-◌, ◌≤◌, List, ◌∷◌, [], ◌++◌, length, take, drop, codes, Ok, ap, refl}
use Rattle.std.proofs.Common.{sym, subst, inr, arith, append_assoc, append-nil, length-append, length-drop}
use Rattle.std.proofs.lemmas.List.{drop_all, take_all, take_at}
use borrow.Rule.Slice.PartMut.{post_of}
use Rattle.asn1vec_answers.specs.declared.request.Rule.{Rule}
use Rattle.asn1vec_answers.specs.Request.{IsRequest}
use Rattle.asn1vec_answers.specs.Answer.{IsAnswer, IsAnswerLine, IsRequestAnswer}
use Rattle.asn1vec_answers.specs.Shown.{Encoding, Gains, IsReadAnswer, Reading, SaysAnswer, SaysEncoding, encoding_text}
use Rattle.asn1vec_answers.specs.Shown.{in_hexadecimal}

pub gains_both : (a b c p q : List ℕ) → b ≡ a ++ p → c ≡ b ++ q → c ≡ a ++ (p ++ q)
gains_both a b c p q first second = second ∙ ap (λ l. l ++ q) first ∙ append_assoc a p q

-- what stands in brackets
pub in_brackets : (a b c d joined : List ℕ) → b ≡ a ++ codes "[" → c ≡ b ++ joined → d ≡ c ++ codes "]" →
    d ≡ a ++ (codes "[" ++ (joined ++ codes "]"))
in_brackets a b c d joined opened inside closed =
    gains_both a b d (codes "[") (joined ++ codes "]") opened (gains_both b c d joined (codes "]") inside closed)

-- a value, what follows it and what is said of its encoding
pub value_said : {T : Type 0} (text_of : T → List ℕ) (Encodes : T → Encoding → Type 0) (x : T)
    (rest a b c d e f : List ℕ)
    → b ≡ a ++ codes "ok " → c ≡ b ++ text_of x → d ≡ c ++ codes " rest " → e ≡ d ++ in_hexadecimal rest →
    Gains e f (SaysEncoding (Encodes x))
    → Gains a f (SaysAnswer text_of Encodes (Ok (rest, x)))
value_said text_of Encodes x rest a b c d e f ok value word hex (said, (encoding, is, same), more) =
    let last = more ∙ ap (λ l. e ++ l) same in
    let four = gains_both d e f (in_hexadecimal rest) (encoding_text encoding) hex last in
    let three = gains_both c d f (codes " rest ") (in_hexadecimal rest ++ encoding_text encoding) word four in
    let two =
    gains_both b c f (text_of x) (codes " rest " ++ (in_hexadecimal rest ++ encoding_text encoding)) value three in (
      _,
      (encoding, is, refl),
      gains_both a b f (codes "ok ")
          (text_of x ++ (codes " rest " ++ (in_hexadecimal rest ++ encoding_text encoding))) ok two,
    )

-- what a reader answered
pub reading_said : {T : Type 0} (Reads : List ℕ → Reading T → Type 0) (text_of : T → List ℕ)
    (Encodes : T → Encoding → Type 0) (octets : List ℕ) (answer : Reading T) (a b : List ℕ)
    → Reads octets answer → Gains a b (SaysAnswer text_of Encodes answer) →
    Gains a b (IsReadAnswer Reads text_of Encodes octets)
reading_said Reads text_of Encodes octets answer a b is (gained, says, more) =
    (gained, record { answer = answer; reads = is; says = says }, more)

-- a line that is not too long was answered
pub line_answered : (line : List ℕ) (rule : Rule) (name octets asked a b : List ℕ) → length line ≤ 65536 →
    IsRequest line rule name asked → octets ≡ asked
    → Gains a b (IsRequestAnswer rule name octets) → Gains a b (IsAnswer line)
line_answered line rule name octets asked a b short request same (gained, is, more) = (
  gained,
  inr (record {
    short = short;
    rule = rule;
    name = name;
    octets = octets;
    request = subst (IsRequest line rule name) (sym same) request;
    answer = is;
  }),
  more,
)

-- an answer behind nothing, with its end
pub answer_ended : (line a b c : List ℕ) → a ≡ [] → Gains a b (IsAnswer line) → c ≡ b ++ 10 ∷ [] → IsAnswerLine line c
answer_ended line a b c none (text, is, more) ended =
    (text, is, ended ∙ ap (λ l. l ++ 10 ∷ []) (more ∙ ap (λ l. l ++ text) none))

-- what a slice of `a` from l on, now `new`, makes of it
abbrev written_at : List ℕ → List ℕ → ℕ → List ℕ
written_at a new l = take l a ++ (new ++ post_of l (length a - l) a)

-- a slice was written behind the octets of a vector that grew
pub written_behind : (old a new r rep : List ℕ) (l k n : ℕ) → l ≡ length old → l ≤ n → l ≤ length a → k ≡ length a →
    length new + l ≡ length a → a ≡ take n old ++ rep
    → take k (written_at a new l ++ drop (length (written_at a new l)) r) ≡ old ++ new
written_behind old a new r rep l k n start more few all size grown =
    let w : List ℕ = written_at a new l in
    let post : post_of l (length a - l) a ≡ [] = drop_all (length a - l) (drop l a) (omega (arith, length-drop l a)) in
    let front : take l a ≡ old =
    rw (grown, take_all n old (omega (arith, start, more))) (take_at old rep l (sym start)) in
    let is : w ≡ old ++ new = rw (post, append-nil) (ap (λ x. x ++ new) front) in
    let len : length w ≡ k = rw is (omega (arith, length-append old new, start, size, all)) in
    take_at w (drop (length w) r) k len ∙ is
