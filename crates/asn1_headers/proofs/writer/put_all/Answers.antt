use Rattle.std.proofs.Common.{◌++◌, take, length, subst, sym, ap, Ok, IsTrue}
use Rattle.std.proofs.lemmas.Bool.{false≢true}
use Rattle.asn1_headers.specs.Writer.{TookAllBut}
use Rattle.asn1_headers.specs.Laws.Writing.{Appends_more, taken_more, took_more, none_took}
use Rattle.asn1_headers.proofs.writer.put_all.Goals as goal

pub loop-rest-preserved : goal.loop-rest-preserved
loop-rest-preserved g c =
    let i = c.loop-rest.invariant in
    let n = c.in_ok-n.n in
    let rest = c.loop-rest.rest.now in
    let call = c.in_ok-n.ensures in
    let took = call.once.took in
    record {
      kept = let mark = call.once.mark in let before = i.kept in cc;
      grown = (
        i.grown.0 ++ take n rest,
        taken_more _ i.grown.0 rest n took.1 i.grown.1,
        Appends_more _ _ _ _ _ i.grown.2 took.2,
      );
      marked = λ h. absurd (false≢true (subst IsTrue took.3 (subst IsTrue (sym i.kept) h)));
      calls = took_more g.W.DerWrite.puts c.args.piece.now c.args.w.now c.loop-rest.w rest n _ i.calls call.took
          took.0 took.1;
    }

pub returns-clause-nothing : goal.returns-clause-nothing
returns-clause-nothing g c = λ none.
    let calls = subst (λ z. TookAllBut g.W.DerWrite.puts z c.args.w.now c.loop-rest.rest.now c.loop-rest.w) none
    c.loop-rest.invariant.calls in (
      ap (λ z. Ok (length z)) none,
      (none_took g.W.DerWrite.puts c.args.w.now c.loop-rest.rest.now c.loop-rest.w calls).1,
    )
