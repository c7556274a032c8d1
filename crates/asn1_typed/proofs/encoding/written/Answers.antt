use Rattle.std.proofs.Common.{◌≡◌, ◌∙◌, ap, sym, subst, List, [], ◌++◌, append-nil, ℕ}
use Rattle.asn1_schema.specs.Grammar.{Word}
use Rattle.asn1_schema.specs.Rules.{strict}
use Rattle.asn1_schema.specs.declared.schema.Node.{Node}
use Rattle.asn1_schema.specs.Tape.{Kept, marks, tape_of, value_of}
use Rattle.asn1_typed.proofs.encoding.written.Goals as goal

pub returns-in-Ok : goal.returns-in-Ok
returns-in-Ok c = λ kept at.
    let e = c.in-Ok.ensures.ok in
    let table = c.args.schema.now.nodes.items in
    let of = c.args.of in
    let tapes : tape_of e.kept ++ [] ≡ tape_of kept ++ [] =
    append-nil (tape_of e.kept) ∙ sym e.is ∙ ap marks c.as_slice-items.ensures.value ∙ c.in_ok-tape.ensures ∙ at ∙ sym (append-nil (tape_of kept)) in
    let same : e.kept ≡ kept = (c.tapes_begin_with_one_value.ensures e.kept kept [] [] tapes).0 in
    let word : Word strict table 64 of e.word (value_of e.kept) =
    subst (λ (t : List Node). Word strict t 64 of e.word (value_of e.kept)) c.as_slice-nodes.ensures.value e.holds in
    subst (λ (o : List ℕ). Word strict table 64 of o (value_of kept)) (sym (e.put ∙ append-nil e.word))
    (subst (λ (k : Kept). Word strict table 64 of e.word (value_of k)) same word)

pub returns : goal.returns
returns c = λ kept at. c.refused.ensures.written c.args.of (value_of kept)
