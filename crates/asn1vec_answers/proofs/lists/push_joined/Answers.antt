use Rattle.std.proofs.Common.{rules, sym}
use Rattle.asn1vec_answers.proofs.Walks.{all_seen, before_more, read_through, text_more, text_whole}
use Rattle.asn1vec_answers.proofs.lists.push_joined.Goals as goal

pub loop-item-preserved : goal.loop-item-preserved
loop-item-preserved g c =
    let seen = c.loop-item.invariant in
    let goes = c.in-Some.ensures.goes.on seen.ends in
    record {
      can = goes.0;
      ends = goes.1;
      words = search rules;
      separator = sym (before_more c.args.sign.now c.loop-item.yielded c.in-Some.item);
      text = text_more g.T.Encoded.text_of c.args.sign.now c.loop-item.yielded c.in-Some.item c.args.text.now.items
          c.loop-item.text.items c.loop-item.separator.now c.push_str.new.text.items c.show.new.text.items
          seen.text seen.separator c.in_ok-push_str.ensures c.in_ok-show.ensures;
    }

pub returns : goal.returns
returns g c = λ xs gives.
    let whole = all_seen g.I.Iterator.next_gives c.args.items xs gives c.into_iter-item-iterator.result
    c.loop-item.item-iterator c.next.new.self c.into_iter-item-iterator.ensures.into_iter_gives c.loop-item.yielded
    c.loop-item.yielded_by c.next.result c.next.ensures.steps c.in-None.is in
    text_whole g.T.Encoded.text_of c.args.sign.now (read_through c.loop-item.yielded) xs c.args.text.now.items
    c.loop-item.text.items c.loop-item.invariant.text whole
