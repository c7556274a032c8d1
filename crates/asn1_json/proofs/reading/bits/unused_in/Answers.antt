use Rattle.std.proofs.Common.{◌≢◌, ◌<◌, sym, Option}
use Rattle.std.specs.Prelude.{IfNone}
use Rattle.asn1_json.specs.Leaves.{octets_of_bits}
use Rattle.asn1_json.proofs.ByKind.{none_of}
use Rattle.std.proofs.Common.{◌≡◌, ◌∙◌, ap, subst, ℕ, ◌*◌, ◌-◌, ◌≤◌, List, Bool, length, take, arith}
use Rattle.std.proofs.lemmas.List.{take_all}
use Rattle.asn1_words.specs.Words.{number_text}
use Rattle.asn1_schema.specs.Grammar.{bits_in}
use Rattle.asn1_schema.proofs.BitContents.{bits_length}
use Rattle.asn1_json.proofs.MadeLeaves.{some_is}
use Rattle.asn1_json.proofs.BitsBack.{bits_back, few_unused, same_number}
use Rattle.asn1_json.proofs.reading.bits.unused_in.Goals as goal

pub returns-then-branch-clause-number : goal.returns-then-branch-clause-number
returns-then-branch-clause-number c =
    let o = c.args.octets.now in
    let u = c.in-Some.unused in
    let all : length (bits_in o) ≡ 8 * length o = bits_length o in
    let le : length (bits_in o) ≤ 8 * length o - 0 = omega (arith, all) in
    let count = ap (λ (l : List Bool). length l) (c.in_ok-all.ensures ∙ take_all (8 * length o - 0) (bits_in o) le) ∙ all in
    let bits : c.len.result ≡ 8 * length o = omega (arith, count, c.len.ensures, c.in_ok-all.all.ok.0) in
    let said : c.args.text.now ≡ number_text (c.len.result - u) =
    some_is _ _ c.in_ok-unused.field-0 u c.in-Some.is c.in_ok-unused.ensures.some in
    said ∙ ap (λ (n : ℕ). number_text (n - u)) bits

pub returns-in_default-clause-none : goal.returns-in_default-clause-none
returns-in_default-clause-none c = λ bs e t.
    let o = c.args.octets.now in
    let all : length (bits_in o) ≡ 8 * length o = bits_length o in
    let le : length (bits_in o) ≤ 8 * length o - 0 = omega (arith, all) in
    let count = ap (λ (l : List Bool). length l) (c.in_ok-all.ensures ∙ take_all (8 * length o - 0) (bits_in o) le) ∙ all in
    let bits : c.len.result ≡ 8 * length o = omega (arith, count, c.len.ensures, c.in_ok-all.all.ok.0) in
    let few = few_unused o bs e in
    let said : length bs ≡ c.len.result - (8 * length o - length bs) = omega (arith, bits, few.0, few.1) in
    let none = subst (λ (f : Option ℕ). IfNone f ((unused : ℕ) → unused < 8 → c.args.text.now ≢ number_text (c.len.result - unused)))
    (none_of c.in_ok-unused.field-0 c.in_default.not-Some) c.in_ok-unused.ensures.none in
    none (8 * length o - length bs) few.0 (t ∙ ap number_text said)

pub returns-clause-none : goal.returns-clause-none
returns-clause-none c = λ bs e t.
    let o = c.args.octets.now in
    let u = c.in-Some.unused in
    let all : length (bits_in o) ≡ 8 * length o = bits_length o in
    let le : length (bits_in o) ≤ 8 * length o - 0 = omega (arith, all) in
    let count = ap (λ (l : List Bool). length l) (c.in_ok-all.ensures ∙ take_all (8 * length o - 0) (bits_in o) le) ∙ all in
    let bits : c.len.result ≡ 8 * length o = omega (arith, count, c.len.ensures, c.in_ok-all.all.ok.0) in
    let found = some_is _ _ c.in_ok-unused.field-0 u c.in-Some.is c.in_ok-unused.ensures.some in
    let said : length bs ≡ c.len.result - u = same_number (length bs) (c.len.result - u) (sym t ∙ found) in
    let n : 8 * length o - u ≡ length bs = omega (arith, bits, said) in
    let back : take (8 * length o - u) (bits_in o) ≡ bs =
    ap (λ k. take k (bits_in o)) n ∙ ap (λ (x : List ℕ). take (length bs) (bits_in x)) e ∙ bits_back bs in
    c.in_ok-are_filled.ensures.other c.if-branch.false (e ∙ ap octets_of_bits (sym back))
