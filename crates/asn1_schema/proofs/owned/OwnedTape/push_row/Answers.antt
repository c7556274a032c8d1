use Rattle.std.proofs.Common.{◌≡◌, ◌∙◌, ap, subst, List, length, arith}
use Rattle.std.proofs.lemmas.List.{length-map}
use Rattle.asn1_schema.specs.Tape.{Mark, mark, marks}
use Rattle.asn1_schema.specs.Owned.{Appends}
use Rattle.asn1_schema.proofs.Appended.{row_put}
use Rattle.asn1_schema.proofs.owned.OwnedTape.push_row.Goals as goal

pub returns : goal.returns
returns c = λ ms is.
    let all : marks c.in_ok-tape.tape.items ≡ ms = c.in_ok-tape.ensures ∙ is in
    let count : c.len-count.result ≡ length ms =
    omega (arith, c.len-count.ensures, c.in_ok-tape.tape.ok.0, length-map c.in_ok-tape.tape.items mark, ap (λ (l : List Mark). length l) all) in
    row_put c.args.self.now c.push.new.self c.append.new.self c.push-2.new.self ms c.len-count.result count c.in_ok-push.ensures
    (subst (Appends c.push.new.self c.append.new.self) (ap marks c.deref.ensures.value ∙ all) c.in_ok-append.ensures) c.in_ok-push-2.ensures
