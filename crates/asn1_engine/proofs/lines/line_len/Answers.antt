use Rattle.std.proofs.Common.{◌≡◌, ◌<◌, length, true, get_or, rules, arith}
use Rattle.asn1_engine.specs.Pem.{is_no_feed}
use Rattle.asn1_engine.proofs.FirstLines.{no_feed_more}
use Rattle.asn1_engine.proofs.lines.line_len.Goals as goal

pub loop-len-preserved : goal.loop-len-preserved
loop-len-preserved c =
    let less : c.loop-len.len < length c.args.text.now = search rules in
    let next : is_no_feed (get_or c.args.text.now c.loop-len.len 0) ≡ true = search rules in
    (omega (arith, less), no_feed_more c.args.text.now c.loop-len.len less c.loop-len.invariant.1 next)
