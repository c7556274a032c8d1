use Rattle.std.proofs.Common.{rules}
use Rattle.asn1vec_answers.proofs.Split.{without_space, without_octets}
use Rattle.asn1vec_answers.proofs.request.read_request.Goals as goal

pub returns-in_default-split_once : goal.returns-in_default-split_once
returns-in_default-split_once c =
    without_space c.args.line.now c.in-Some.rest.now c.in-Some.rule c.in-Some.ensures c.in_default-split_once.ensures

pub returns-then-not-found : goal.returns-then-not-found
returns-then-not-found c =
    let split = c.in-Some-split_once.ensures in
    let none = c.in_ok-found.ensures.none (search rules) in
    without_octets c.args.line.now c.in-Some.rest.now c.in-Some-split_once.name.now c.in-Some-split_once.digits.now
    c.in-Some.rule c.in-Some.ensures split.0 split.1 none
