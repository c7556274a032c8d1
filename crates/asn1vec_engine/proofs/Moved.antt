-- Steps of the engine.
use Rattle.std.proofs.Common.{◌≡◌, ◌≢◌, ℕ, ◌<◌, List, [], ◌∷◌, ◌++◌, Bool, false, Option, None, Some, IfSome, refl, sym}
use Rattle.std.proofs.Common.{ap, ◌∙◌, append_assoc, append-nil, length, subst, take, drop, ◌⊎◌, inl, inr, ◌-◌, min}
use Rattle.std.proofs.Common.{arith, length-append}
use Rattle.std.specs.List.{All}
use Rattle.std.proofs.lemmas.Bool.{cases_lt}
use Rattle.std.proofs.lemmas.List.{take-append-drop, take_all, length-take-le}
use Rattle.std.proofs.lemmas.List.Elements.{All-append, All-drop, All-take, recursion_from_All}
use Rattle.std.specs.Io.KnownBytes.{Appends, Consumes, IsAtEnd}
use Rattle.asn1vec_engine.specs.Lines.{lines_of}
use Rattle.asn1vec_answers.specs.Answer.{IsAnswerLine}
use Rattle.asn1vec_engine.specs.Outputs.{BeginsAnswer, AreAnswers, BeginAnswers}
use Rattle.asn1vec_engine.specs.Engine.{Answers, AnswersTo, BeginsAnswersTo, GainsAnswers, GainsBeginning}
use Rattle.asn1vec_engine.proofs.Appended.{appends_none, appends_both}
use Rattle.asn1vec_engine.proofs.LineLaws.{IsOpen, lines_of_ended, lines_of_last, long_dropped, none_begun}
use Rattle.asn1vec_engine.proofs.LineLaws.{answered_first}

pub moves_both : {a b c : Option (List ℕ)} {xs ys zs : List ℕ} → GainsAnswers a b xs ys → GainsAnswers b c ys zs →
    GainsAnswers a c xs zs
moves_both {a} {b} {c} {xs} {ys} {zs} p q = record {
  gained = p.gained ++ q.gained;
  told = appends_both _ _ _ _ _ p.told q.told;
  joins = λ all rest texts h. subst (Answers all (lines_of (xs ++ rest))) (sym (append_assoc p.gained q.gained texts))
      (p.joins all rest (q.gained ++ texts) (q.joins all rest texts h));
}

pub moves_none : (a : Option (List ℕ)) (xs : List ℕ) → GainsAnswers a a xs xs
moves_none a xs = record { gained = []; told = appends_none a; joins = λ all rest texts h. h }

-- more octets after both
pub moves_more : {a b : Option (List ℕ)} {xs ys : List ℕ} (more : List ℕ) → GainsAnswers a b xs ys →
    GainsAnswers a b (xs ++ more) (ys ++ more)
moves_more {a} {b} {xs} {ys} more p = record {
  gained = p.gained;
  told = p.told;
  joins = λ all rest texts h.
      subst (λ l. Answers all (lines_of l) (p.gained ++ texts)) (sym (append_assoc xs more rest))
      (p.joins all (more ++ rest) texts (subst (λ l. Answers all (lines_of l) texts) (append_assoc ys more rest) h));
}

pub begins_none : (a : Option (List ℕ)) (xs : List ℕ) → GainsBeginning a a xs
begins_none a xs = record { gained = []; told = appends_none a; front = λ rest. none_begun (lines_of (xs ++ rest)) }

pub moves_begins : {a b c : Option (List ℕ)} {xs ys : List ℕ} → GainsAnswers a b xs ys → GainsBeginning b c ys →
    GainsBeginning a c xs
moves_begins {a} {b} {c} {xs} {ys} p q = record {
  gained = p.gained ++ q.gained;
  told = appends_both _ _ _ _ _ p.told q.told;
  front = λ rest. p.joins false rest q.gained (q.front rest);
}

-- a beginning, also with more octets
pub begins_more : {a b : Option (List ℕ)} {xs : List ℕ} (more : List ℕ) → GainsBeginning a b xs →
    GainsBeginning a b (xs ++ more)
begins_more {a} {b} {xs} more p = record {
  gained = p.gained;
  told = p.told;
  front = λ rest. subst (λ l. BeginsAnswersTo l p.gained) (sym (append_assoc xs more rest)) (p.front (more ++ rest));
}

ended_lines : (line rest : List ℕ) → IsOpen line → lines_of ((line ++ 10 ∷ []) ++ rest) ≡ line ∷ lines_of rest
ended_lines line rest o = ap lines_of (append_assoc line (10 ∷ []) rest) ∙ lines_of_ended line rest o

-- a whole line was answered
pub moves_ended : {a b : Option (List ℕ)} (line ended : List ℕ) → IsOpen line → IsAnswerLine line ended →
    Appends a b ended → GainsAnswers a b (line ++ 10 ∷ []) []
moves_ended line ended o a t = record {
  gained = ended;
  told = t;
  joins = λ all rest texts h. subst (λ l. Answers all l (ended ++ texts)) (sym (ended_lines line rest o))
      (answered_first all line ended (lines_of rest) texts a h);
}

-- nothing or a beginning of an answer
begun_first : (line front : List ℕ) (lines : List (List ℕ)) → (front ≡ []) ⊎ BeginsAnswer line front →
    BeginAnswers (line ∷ lines) front
begun_first line front lines (inl e) = inl e
begun_first line front lines (inr h) = inr (inl h)

-- a beginning of its answer was written
pub begins_ended : {a b : Option (List ℕ)} (line front : List ℕ) → IsOpen line →
    (front ≡ []) ⊎ BeginsAnswer line front → Appends a b front → GainsBeginning a b (line ++ 10 ∷ [])
begins_ended line front o h t = record {
  gained = front;
  told = t;
  front = λ rest.
      subst (λ l. BeginAnswers l front) (sym (ended_lines line rest o)) (begun_first line front (lines_of rest) h);
}

-- an octet of a line that is too long already was dropped
pub moves_dropped : (a : Option (List ℕ)) (line : List ℕ) (x : ℕ) → IsOpen line → x ≢ 10 → 65536 < length line →
    GainsAnswers a a (line ++ x ∷ []) line
moves_dropped a line x o n h = record {
  gained = [];
  told = appends_none a;
  joins = λ all rest texts t. subst (λ l. Answers all (lines_of l) texts) (sym (append_assoc line (x ∷ []) rest))
      (long_dropped all x line rest texts o n h t);
}

-- so were any octets
pub moves_truncated : (a : Option (List ℕ)) (line more : List ℕ) → IsOpen line → IsOpen more → 65536 < length line →
    GainsAnswers a a (line ++ more) line
moves_truncated a line [] o p h = subst (λ l. GainsAnswers a a l line) (sym (append-nil line)) (moves_none a line)
moves_truncated a line (x ∷ more) o (n, p) h =
    subst (λ l. GainsAnswers a a l line) (append_assoc line (x ∷ []) more)
    (moves_both (moves_more more (moves_dropped a line x o n h)) (moves_truncated a line more o p h))

-- as many octets are kept as make the line too long, or all
pub moves_kept : (a : Option (List ℕ)) (line octets : List ℕ) (n : ℕ) → All (λ x. x ≢ 10) line →
    All (λ x. x ≢ 10) octets → n ≡ min (length octets) (65537 - length line)
    → GainsAnswers a a (line ++ octets) (line ++ take n octets)
moves_kept a line octets n o p e = elim (cases_lt n (length octets)) [
  | inl truncated ↦
      let kept : length (take n octets) ≡ n = length-take-le n octets (omega (arith, truncated)) in
      let size : 65536 < length (line ++ take n octets) = simp length-append (omega (arith, kept, truncated, e)) in
      let whole : (line ++ take n octets) ++ drop n octets ≡ line ++ octets =
      append_assoc line (take n octets) (drop n octets) ∙ ap (λ l. line ++ l) (take-append-drop n octets) in
      let front : IsOpen (line ++ take n octets) = recursion_from_All _ _
      (All-append (λ x. x ≢ 10) line (take n octets) o (All-take (λ x. x ≢ 10) n octets p)) in
      subst (λ l. GainsAnswers a a l (line ++ take n octets)) whole (moves_truncated a (line ++ take n octets) (drop n octets) front
      (recursion_from_All _ _ (All-drop (λ x. x ≢ 10) n octets p)) size)
  | inr all ↦
      subst (λ l. GainsAnswers a a (line ++ octets) (line ++ l)) (sym (take_all n octets all))
      (moves_none a (line ++ octets))
]

-- the line was empty, and one that octets end was answered
pub moves_first : {a b : Option (List ℕ)} (line last ended : List ℕ) → length line ≡ 0 → All (λ x. x ≢ 10) last →
    IsAnswerLine last ended → Appends a b ended → GainsAnswers a b ((line ++ last) ++ 10 ∷ []) line
moves_first [] last ended none o is t = moves_ended last ended (recursion_from_All _ _ o) is t
moves_first (x ∷ line) last ended none o is t = absurd (omega (arith, none))

pub begins_first : {a b : Option (List ℕ)} (line last front : List ℕ) → length line ≡ 0 → All (λ x. x ≢ 10) last →
    (front ≡ []) ⊎ BeginsAnswer last front → Appends a b front → GainsBeginning a b ((line ++ last) ++ 10 ∷ [])
begins_first [] last front none o is t = begins_ended last front (recursion_from_All _ _ o) is t
begins_first (x ∷ line) last front none o is t = absurd (omega (arith, none))

-- no octets were taken yet
pub moves_start : (a : Option (List ℕ)) (line octets : List ℕ) →
    (done : List ℕ) × (octets ≡ done ++ octets) × GainsAnswers a a (line ++ done) line
moves_start a line octets = ([], refl, subst (λ l. GainsAnswers a a l line) (sym (append-nil line)) (moves_none a line))

pub shorter : (rest last after : List ℕ) → rest ≡ last ++ 10 ∷ after → length after < length rest
shorter rest last after e = rw e (omega (arith, length-append last (10 ∷ after)))

-- one more line that octets end
pub moves_line : {a b c : Option (List ℕ)} {kept next : List ℕ} (first octets done rest last after : List ℕ) →
    octets ≡ done ++ rest → rest ≡ last ++ 10 ∷ after → GainsAnswers a b (first ++ done) kept
    → GainsAnswers b c ((kept ++ last) ++ 10 ∷ []) next →
    (all : List ℕ) × (octets ≡ all ++ after) × GainsAnswers a c (first ++ all) next
moves_line {a} {b} {c} {kept} {next} first octets done rest last after whole split p q =
    let line = last ++ 10 ∷ [] in
    let seam : done ++ rest ≡ (done ++ line) ++ after =
    ap (λ l. done ++ l) (split ∙ sym (append_assoc last (10 ∷ []) after)) ∙ sym (append_assoc done line after) in (
      done ++ line,
      whole ∙ seam,
      subst (λ l. GainsAnswers a c l next) (append_assoc first done line)
          (moves_both (moves_more line p) (subst (λ l. GainsAnswers b c l next) (append_assoc kept last (10 ∷ [])) q)),
    )

-- a beginning of its answer was written
pub begins_line : {a b c : Option (List ℕ)} {kept : List ℕ} (first octets done rest last after : List ℕ) →
    octets ≡ done ++ rest → rest ≡ last ++ 10 ∷ after → GainsAnswers a b (first ++ done) kept
    → GainsBeginning b c ((kept ++ last) ++ 10 ∷ []) → GainsBeginning a c (first ++ octets)
begins_line {a} {b} {c} {kept} first octets done rest last after whole split p q =
    let line = last ++ 10 ∷ [] in
    let seam : done ++ rest ≡ (done ++ line) ++ after =
    ap (λ l. done ++ l) (split ∙ sym (append_assoc last (10 ∷ []) after)) ∙ sym (append_assoc done line after) in
    let begun = moves_begins (moves_more line p) (subst (GainsBeginning b c) (append_assoc kept last (10 ∷ [])) q) in
    subst (GainsBeginning a c) (append_assoc first (done ++ line) after ∙ ap (λ l. first ++ l) (sym (whole ∙ seam)))
    (begins_more after (subst (GainsBeginning a c) (append_assoc first done line) begun))

-- what follows the last line was kept
pub moves_rest : {a b : Option (List ℕ)} {kept next : List ℕ} (first octets done rest : List ℕ) →
    octets ≡ done ++ rest → GainsAnswers a b (first ++ done) kept → GainsAnswers b b (kept ++ rest) next →
    GainsAnswers a b (first ++ octets) next
moves_rest {a} {b} {kept} {next} first octets done rest whole p q =
    subst (λ l. GainsAnswers a b l next) (append_assoc first done rest ∙ ap (λ l. first ++ l) (sym whole))
    (moves_both (moves_more rest p) q)

-- or could not be kept
pub begins_rest : {a b : Option (List ℕ)} {kept : List ℕ} (first octets done rest : List ℕ) → octets ≡ done ++ rest →
    GainsAnswers a b (first ++ done) kept → GainsBeginning a b (first ++ octets)
begins_rest {a} {b} {kept} first octets done rest whole p =
    subst (GainsBeginning a b) (append_assoc first done rest ∙ ap (λ l. first ++ l) (sym whole))
    (begins_more rest (moves_begins p (begins_none b kept)))

-- the end of input ends a line
pub last_answers : (line ended : List ℕ) → IsOpen line → (line ≡ [] → ⊥) → IsAnswerLine line ended →
    AnswersTo line ended
last_answers [] ended o n a = absurd (n refl)
last_answers (x ∷ line) ended o n a =
    subst (λ l. AreAnswers l ended) (sym (lines_of_last x line o)) (ended, [], a, refl, sym (append-nil ended))

pub last_begun : (line front : List ℕ) → IsOpen line → (line ≡ [] → ⊥) → (front ≡ []) ⊎ BeginsAnswer line front →
    BeginsAnswersTo line front
last_begun [] front o n h = absurd (n refl)
last_begun (x ∷ line) front o n h =
    subst (λ l. BeginAnswers l front) (sym (lines_of_last x line o)) (begun_first (x ∷ line) front [] h)

-- the whole input was read, and its last line answered, or a beginning of that answer written
pub answered_input : (all : Bool) (old new : Option (List ℕ)) (a b c : Option (List ℕ)) (read line texts : List ℕ) →
    Consumes old new read → IsAtEnd new → GainsAnswers a b read line → Answers all (lines_of line) texts →
    Appends b c texts
    → IfSome old (λ octets. (texts : List ℕ) × Answers all (lines_of octets) texts × Appends a c texts)
answered_input all None new a b c read line texts e n m t p = tt
answered_input all (Some xs) None a b c read line texts e n m t p = absurd e
answered_input all (Some xs) (Some ys) a b c read line texts e n m t p =
    let is : read ++ [] ≡ xs = sym (e ∙ ap (λ l. read ++ l) n) in (
      m.gained ++ texts,
      subst (λ l. Answers all (lines_of l) (m.gained ++ texts)) is
          (m.joins all [] texts (subst (λ l. Answers all (lines_of l) texts) (sym (append-nil line)) t)),
      appends_both _ _ _ _ _ m.told p,
    )

-- it was read up to a failure
pub begun_input : (old new : Option (List ℕ)) (a b : Option (List ℕ)) (read : List ℕ) → Consumes old new read →
    GainsBeginning a b read → IfSome old (λ octets. (texts : List ℕ) × BeginsAnswersTo octets texts × Appends a b texts)
begun_input None new a b read e p = tt
begun_input (Some xs) None a b read e p = absurd e
begun_input (Some xs) (Some ys) a b read e p =
    (p.gained, subst (λ l. BeginsAnswersTo l p.gained) (sym e) (p.front ys), p.told)

pub consumes_both : (a b c : Option (List ℕ)) (bs cs : List ℕ) → Consumes a b bs → Consumes b c cs →
    Consumes a c (bs ++ cs)
consumes_both None b c bs cs p q = tt
consumes_both (Some x) None c bs cs p q = absurd p
consumes_both (Some x) (Some y) None bs cs p q = absurd q
consumes_both (Some x) (Some y) (Some z) bs cs p q = p ∙ ap (λ l. bs ++ l) q ∙ sym (append_assoc bs cs z)

pub begins_moved : {a b : Option (List ℕ)} {xs ys : List ℕ} → GainsAnswers a b xs ys → GainsBeginning a b xs
begins_moved {a} {b} {xs} {ys} m = moves_begins m (begins_none b ys)

-- a read of no octets
pub moves_zero : {a b : Option (List ℕ)} {ys : List ℕ} (xs : List ℕ) (n : ℕ) (buf : List ℕ) → n ≡ 0 →
    GainsAnswers a b xs ys →
    GainsAnswers a b (xs ++ take n buf) ys
moves_zero {a} {b} {ys} xs n buf e m =
    subst (λ l. GainsAnswers a b l ys) (sym (ap (λ k. xs ++ take k buf) e ∙ append-nil xs)) m
