use Rattle.std.proofs.Common.{◌-◌}
use Rattle.asn1_headers.proofs.HeadersAndContents.{splits_refused, splits_unread}
use Rattle.asn1_headers.proofs.ber.content_by_ber.Goals as goal

pub returns-in-Definite-clause-err : goal.returns-in-Definite-clause-err
returns-in-Definite-clause-err c = rw (c.in-Definite.is) (splits_refused c.in-Definite.len
    (c.args.max_depth - 1) c.args.bytes.now c.split_content.result c.split_content.ensures)

pub returns-in-Definite-clause-stops : goal.returns-in-Definite-clause-stops
returns-in-Definite-clause-stops c = rw (c.in-Definite.is) (splits_unread c.in-Definite.len
    (c.args.max_depth - 1) _ c.args.bytes.now c.split_content.result c.split_content.ensures)
