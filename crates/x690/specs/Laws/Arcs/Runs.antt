-- Runs of octets that have bit 8, and pieces of nine octets at most.
use Rattle.std.proofs.Common.{◌≡◌, ◌≢◌, ℕ, suc, zero, ◌+◌, ◌^◌, ◌<◌, ◌≤◌, Bool, true, false, List, [], ◌∷◌, cond, map}
use Rattle.std.proofs.Common.{length, drop, subst, sym, arith, inl, inr}
use Rattle.std.specs.List.{All}
use Rattle.std.specs.Prelude.{nat_lt}
use Rattle.std.proofs.lemmas.Bool.{cases_lt}
use Rattle.std.proofs.lemmas.Bool.Decides.{nat_tests}
use Rattle.std.proofs.lemmas.List.{drop_all}
use Rattle.std.proofs.lemmas.List.Elements.{All-nil, All-cons}
use Rattle.x690.specs.Digits.{base_128_value}
use Rattle.x690.specs.Laws.StrictIdentifiers.{power_le, value_lt}
use Rattle.x690.specs.Arcs.{in_front, pieces_of, subidentifiers, arcs_of}
use Rattle.x690.specs.Laws.Arcs.{last_piece, more_piece, split_but_zero}
use Rattle.x690.specs.Laws.Arcs.Fronts.{AreBelow, below_split}

-- Runs.

-- how many octets in a row have bit 8, with one octet more
abbrev pub next_run : ℕ → ℕ → ℕ
next_run run octet = cond (nat_lt octet 128) 0 (run + 1)

-- none of these runs gets to nine, where the first goes on from `run`
abbrev pub HasShortRuns : ℕ → List ℕ → Type 0
HasShortRuns run [] = Unit {0}
HasShortRuns run (octet ∷ octets) = (next_run run octet < 9) × HasShortRuns (next_run run octet) octets

-- where no octets are left
pub no_run_more : (run i : ℕ) (octets : List ℕ) → length octets ≤ i → HasShortRuns run (drop i octets)
no_run_more run i octets all = subst (HasShortRuns run) (sym (drop_all i octets all)) tt

-- Pieces.

abbrev IsShort : List ℕ → Type 0
IsShort piece = length piece < 10

-- the first has at most nine octets together with the run before it, and the others alone
abbrev AreShortAfter : ℕ → List (List ℕ) → Type 0
AreShortAfter run [] = Unit {0}
AreShortAfter run (piece ∷ pieces) = (run + length piece < 10) × All IsShort pieces

short_after : (pieces : List (List ℕ)) → AreShortAfter 0 pieces → All IsShort pieces
short_after [] s = All-nil IsShort
short_after (piece ∷ pieces) s = All-cons IsShort piece pieces (omega (arith, s.0)) s.1

short_in_front : (run octet : ℕ) (pieces : List (List ℕ)) → run + 1 < 9 → AreShortAfter (run + 1) pieces →
    AreShortAfter run (in_front octet pieces)
short_in_front run octet [] few s = (omega (arith, few), All-nil IsShort)
short_in_front run octet (piece ∷ pieces) few s = (omega (arith, s.0), s.1)

run_ends : (run octet : ℕ) → octet < 128 → next_run run octet ≡ 0
run_ends run octet h = grind (arith, nat_tests)

run_goes_on : (run octet : ℕ) → 128 ≤ octet → next_run run octet ≡ run + 1
run_goes_on run octet h = grind (arith, nat_tests)

short_pieces_after : (run : ℕ) (octets : List ℕ) → run < 9 → HasShortRuns run octets →
    AreShortAfter run (pieces_of octets)
short_pieces_after run [] few s = tt
short_pieces_after run (octet ∷ octets) few s =
    let next = next_run run octet in
    let others : AreShortAfter next (pieces_of octets) = short_pieces_after next octets s.0 s.1 in
    elim (cases_lt octet 128) [
      | inl h ↦
          let ended = subst (λ (n : ℕ). AreShortAfter n (pieces_of octets)) (run_ends run octet h) others in
          subst (AreShortAfter run) (sym (last_piece octet octets h)) (
            omega (arith, few),
            short_after (pieces_of octets) ended,
          )
      | inr h ↦
          let more = run_goes_on run octet h in
          let longer = subst (λ (n : ℕ). AreShortAfter n (pieces_of octets)) more others in
          subst (AreShortAfter run) (sym (more_piece octet octets h))
          (short_in_front run octet (pieces_of octets) (omega (arith, more, s.0)) longer)
    ]

-- where no run gets to nine, no piece has ten octets
pub short_pieces : (octets : List ℕ) → HasShortRuns 0 octets → All (λ piece. length piece < 10) (pieces_of octets)
short_pieces octets s = short_after (pieces_of octets) (short_pieces_after 0 octets (omega arith) s)

-- Arcs.

abbrev AreSmall : List ℕ → Type 0
AreSmall arcs = All (λ arc. arc < 2 ^ 64) arcs

small_values : (pieces : List (List ℕ)) → All IsShort pieces → AreSmall (map base_128_value pieces)
small_values [] s = All-nil (λ n. n < 2 ^ 64)
small_values (piece ∷ pieces) s =
    let few : length piece < 10 = s 0 [] (omega arith) in
    All-cons (λ n. n < 2 ^ 64) (base_128_value piece) (map base_128_value pieces)
    (omega (arith, value_lt piece, power_le 9 (length piece) (omega (arith, few))))
    (small_values pieces (λ k d h. s (suc k) d (omega arith)))

small_below_pair : (ns : List ℕ) → AreSmall ns → AreBelow (2 ^ 64 + 80) ns
small_below_pair [] a = tt
small_below_pair (n ∷ ns) a =
    let first : n < 2 ^ 64 = a 0 0 (omega arith) in
    (omega (arith, first), λ k d h. a (suc k) d (omega arith))

small_split : (octets : List ℕ) → octets ≢ 0 ∷ [] → AreSmall (subidentifiers octets) → AreSmall (arcs_of false octets)
small_split octets some a =
    let ns = subidentifiers octets in
    subst AreSmall (sym (split_but_zero octets some)) (below_split ns (small_below_pair ns a))

small_arcs : (relative : Bool) (octets : List ℕ) → AreSmall (subidentifiers octets) → AreSmall (arcs_of relative octets)
small_arcs true octets a = a
small_arcs false [] a = a
small_arcs false (zero ∷ []) a = a
small_arcs false (suc octet ∷ []) a = small_split (suc octet ∷ []) (λ e. cc) a
small_arcs false (octet ∷ next ∷ octets) a = small_split (octet ∷ next ∷ octets) (λ e. cc) a

-- pieces of nine octets at most have arcs below 2^64
pub short_pieces_fit : (relative : Bool) (octets : List ℕ) → All (λ piece. length piece < 10) (pieces_of octets) →
    All (λ arc. arc < 2 ^ 64) (arcs_of relative octets)
short_pieces_fit relative octets s = small_arcs relative octets (small_values (pieces_of octets) s)
