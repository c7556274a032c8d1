use Rattle.std.proofs.Common.{◌≡◌}
use Rattle.asn1_schema.specs.Reading.{head_parts}
use Rattle.asn1_schema.proofs.TakenSets.{first_alone, first_of_two}
use Rattle.asn1_schema.proofs.sets.find_alone.Goals as goal

pub returns-in-Some-find_first : goal.returns-in-Some-find_first
returns-in-Some-find_first c = λ es j.
    let a = c.in-Some.ensures.some es j in
    first_of_two c.args.coding c.args.nodes.now c.args.of es (head_parts c.in-Some.head c.in-Some.content.now)
    (head_parts c.in-Some-find_first.other c.in-Some-find_first.field-0-2.now) c.in-Some.tail.now
    c.in-Some-find_first.field-0-0.now a (c.in-Some-find_first.ensures.some a.back a.behind)

pub returns-in-None : goal.returns-in-None
returns-in-None c = λ es j.
    let a = c.in-Some.ensures.some es j in
    first_alone c.args.coding c.args.nodes.now c.args.of es (head_parts c.in-Some.head c.in-Some.content.now)
    c.in-Some.tail.now a (c.in-None.ensures.none a.back a.behind)
