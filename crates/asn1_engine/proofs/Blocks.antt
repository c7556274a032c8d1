-- The blocks of a text, up to a line.
use Rattle.std.proofs.Common.{◌≡◌, ℕ, suc, ◌+◌, ◌⊎◌, List, [], ◌∷◌, ◌++◌, Option, None, Some, MatchOption, Bor, true, false}
use Rattle.std.proofs.Common.{inl, inr, sym, ap, ◌∙◌, subst, arith, append_assoc}
use Rattle.std.proofs.lemmas.Bool.{false≢true}
use Rattle.std.proofs.lemmas.List.{append-nil}
use Rattle.std.specs.Option.{is_some}
use Rattle.asn1_engine.specs.declared.pem.Block.{Block}
use Rattle.asn1_engine.specs.declared.pem.PemError.{PemError}
use Rattle.asn1_engine.specs.declared.pem.PemError.TheVariants.{OutOfMemory}
use Rattle.asn1_engine.specs.Pem.{HasBegin, HasBlocks, IsBlock, IsBoundary, IsLine, IsMistake, IsNoBoundary, around}
use Rattle.asn1_engine.specs.Pem.{begin_front, begins, further, mistake, no_text, one_block}
use Rattle.asn1_engine.proofs.FirstLines.{one_first}

-- these blocks stand up to the line, and all further ones behind it
abbrev pub GoesOn : List ℕ → ℕ → List ℕ → List Block → Type 0
GoesOn text taken rest closed = (more : List Block) (end : Option PemError) → HasBlocks taken rest more end →
    HasBlocks 0 text (closed ++ more) end

-- behind a line that begins no block
pub goes_past : (text : List ℕ) (taken after : ℕ) (rest line more : List ℕ) (closed : List Block) → after ≡ taken + 1 →
    IsLine rest line more → IsNoBoundary begin_front line → GoesOn text taken rest closed → GoesOn text after more closed
goes_past text taken after rest line more closed next is_line none so_far = λ blocks end h.
    let e : after ≡ suc taken = omega arith in
    so_far blocks end (around taken rest line more blocks end is_line none
    (subst (λ (n : ℕ). HasBlocks n more blocks end) e h))

-- behind a block
pub goes_behind : (text : List ℕ) (taken after behind : ℕ) (rest line more label last : List ℕ) (closed all : List Block)
    (block : Block) → after ≡ taken + 1 → IsLine rest line more → IsBoundary begin_front label line →
    IsBlock after label more block last behind → all ≡ closed ++ block ∷ [] → GoesOn text taken rest closed →
    GoesOn text behind last all
goes_behind text taken after behind rest line more label last closed all block next is_line begin is_block more_closed so_far =
    λ blocks end h.
    let e : after ≡ suc taken = omega arith in
    let same : closed ++ block ∷ blocks ≡ all ++ blocks =
    sym (ap (λ (l : List Block). l ++ blocks) more_closed ∙ append_assoc closed (block ∷ []) blocks) in
    subst (λ (l : List Block). HasBlocks 0 text l end) same
    (so_far (block ∷ blocks) end (one_block taken behind rest line more label last block blocks end is_line begin
    (subst (λ (n : ℕ). IsBlock n label more block last behind) e is_block) h))

-- at the end of the text
pub ends_here : (text : List ℕ) (taken : ℕ) (rest : List ℕ) (closed : List Block) → rest ≡ [] →
    GoesOn text taken rest closed → HasBlocks 0 text closed None
ends_here text taken rest closed e so_far =
    subst (λ (l : List Block). HasBlocks 0 text l None) (append-nil closed)
    (so_far [] None (subst (λ (l : List ℕ). HasBlocks taken l [] None) (sym e) (no_text taken)))

-- at a mistake
pub first_mistake : (text : List ℕ) (taken after : ℕ) (rest line more label : List ℕ) (closed : List Block) (error : PemError) →
    after ≡ taken + 1 → IsLine rest line more → IsBoundary begin_front label line → GoesOn text taken rest closed →
    ((error ≡ OutOfMemory) ⊎ IsMistake after label more error) →
    (error ≡ OutOfMemory) ⊎ ((blocks : List Block) × HasBlocks 0 text blocks (Some error))
first_mistake text taken after rest line more label closed error next is_line begin so_far (inl memory) = inl memory
first_mistake text taken after rest line more label closed error next is_line begin so_far (inr wrong) =
    let e : after ≡ suc taken = omega arith in
    inr (
      closed ++ [],
      so_far [] (Some error) (mistake taken rest line more label error is_line begin
          (subst (λ (n : ℕ). IsMistake n label more error) e wrong)),
    )

-- a label that is found is one of a line of BEGIN
pub found_label : (line : List ℕ) (found : Option (Bor (List ℕ))) →
    MatchOption found (IsNoBoundary begin_front line) (λ label. IsBoundary begin_front label.now line) →
    is_some found ≡ true → (label : List ℕ) × IsBoundary begin_front label line
found_label line None h e = absurd (false≢true e)
found_label line (Some label) h e = (label.now, h)

pub found_none : (line : List ℕ) (found : Option (Bor (List ℕ))) →
    MatchOption found (IsNoBoundary begin_front line) (λ label. IsBoundary begin_front label.now line) →
    is_some found ≡ false → IsNoBoundary begin_front line
found_none line None h e = h
found_none line (Some label) h e = absurd (false≢true (sym e))

-- a line of BEGIN that is not the first one is behind it
pub begin_behind : (text line rest : List ℕ) → IsLine text line rest → IsNoBoundary begin_front line → HasBegin text →
    HasBegin rest
begin_behind _ line rest l none (begins text other tail label m b) =
    absurd (none label (subst (IsBoundary begin_front label) (sym (one_first text line other rest tail l m).0) b))
begin_behind _ line rest l none (further text other tail m h) =
    subst HasBegin (sym (one_first text line other rest tail l m).1) h

pub no_begin : (text : List ℕ) → text ≡ [] → HasBegin text → ⊥
no_begin _ e (begins text line rest label l b) = l.0 e
no_begin _ e (further text line rest l h) = l.0 e
