use Rattle.std.proofs.Common.{◌≡◌, ◌-◌, ◌≤◌, List, ◌++◌, length, take, sym, ap, ◌∙◌, arith}
use Rattle.std.specs.Prelude.{ℕ}
use Rattle.std.proofs.lemmas.List.{length-take-le}
use borrow.Rule.Slice.PartMut.{post_of}
use Rattle.x690.specs.Strict.{identifier_octets}
use Rattle.x690.specs.Laws.StrictHeaders.{identifier_with, header_octets_are}
use Rattle.x690.proofs.Writes.{both_fronts, behind_both}
use Rattle.x690.proofs.digits.header_into.Goals as goal

pub returns-clause-written : goal.returns-clause-written
returns-clause-written c =
    let a = c.write_identifier-front.result in
    let b = c.write_length.result in
    let xs : List ℕ = c.write_identifier-front.new.out in
    let ys : List ℕ = c.write_length.new.out in
    let front : length (take a xs) ≡ a = length-take-le a xs (omega arith) in
    let room : b ≤ length ys = omega arith in
    both_fronts a b (take a xs) ys (post_of a (15 - a) xs) front room
    ∙ ap (λ (zs : List ℕ). zs ++ take b ys) c.write_identifier-front.ensures.written
    ∙ ap (λ (zs : List ℕ). identifier_octets (identifier_with c.args.class c.args.constructed c.args.number) ++ zs)
    c.write_length.ensures.written
    ∙ sym (header_octets_are c.args.class c.args.constructed c.args.number c.args.n)

pub returns-clause-kept : goal.returns-clause-kept
returns-clause-kept c =
    behind_both c.write_identifier-front.result c.write_length.result
    (15 - c.write_identifier-front.result) c.args.out.now c.write_identifier-front.new.out c.write_length.new.out
    (omega arith) c.write_identifier-front.ensures.kept c.write_length.ensures.kept (omega arith) (omega arith)
