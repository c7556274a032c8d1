use Rattle.std.proofs.Common.{◌≡◌, ◌-◌, length, Some}
use Rattle.std.specs.Prelude.{slice_get}
use Rattle.asn1_schema.proofs.BuiltNames.{are_under}
use Rattle.asn1_schema.proofs.Builds.{is_under, unbounded_retagged, bounds_retagged, last_place}
use Rattle.asn1_schema.proofs.build.Schema.+implicit.Goals as goal

pub returns-in_ok-name-in-None-clause-ok : goal.returns-in_ok-name-in-None-clause-ok
returns-in_ok-name-in-None-clause-ok t c =
    let old = c.args.self.now.nodes.items in
    let known : slice_get old c.args.of ≡ Some c.in-Some.node.now = cc (c.in-Some.ensures.some, c.deref.ensures.value) in
    is_under c.tagged.result old old c.tagged.new.self.nodes.items c.in-Some.node.now c.args.tag c.args.of
    c.in_ok-kind-in-None.kind known
    (unbounded_retagged c.args.of c.args.of (length old - 1) c.in-Some.node.now.kind c.in_ok-kind-in-None.kind
    c.in-None.ensures.none c.in_ok-kind-in-None.ensures) c.tagged.ensures.puts

pub returns-in_ok-place-in-Some-bounded-clause-ok :
    goal.returns-in_ok-place-in-Some-bounded-clause-ok
returns-in_ok-place-in-Some-bounded-clause-ok t c =
    let old = c.args.self.now.nodes.items in
    let mid = c.implicit.new.self.nodes.items in
    let known : slice_get old c.args.of ≡ Some c.in-Some.node.now = cc (c.in-Some.ensures.some, c.deref.ensures.value) in
    is_under c.tagged-in-Some-bounded.result old mid c.tagged-in-Some-bounded.new.self.nodes.items c.in-Some.node.now
    c.args.tag c.args.of _ known
    (bounds_retagged c.args.of (length mid - 1) c.in-Some.node.now.kind c.in-Some-bounded.lower c.in-Some-bounded.upper
    c.in-Some-bounded.inner c.in_ok-place-in-Some-bounded.place c.in-Some-bounded.ensures.some
    (last_place old mid c.in_ok-place-in-Some-bounded.place c.args.tag c.in-Some-bounded.inner
    c.in_ok-place-in-Some-bounded.ensures.ok)) c.tagged-in-Some-bounded.ensures.puts

pub returns-in_ok-name-in-None-clause-names : goal.returns-in_ok-name-in-None-clause-names
returns-in_ok-name-in-None-clause-names t c =
    are_under c.tagged.result c.args.self.now.names.items c.args.self.now c.tagged.new.self c.args.of
    c.in_ok-name-in-None.field-0 c.in_ok-name-in-None.ensures c.tagged.ensures.names

pub returns-in_ok-place-in-Some-bounded-clause-names : goal.returns-in_ok-place-in-Some-bounded-clause-names
returns-in_ok-place-in-Some-bounded-clause-names t c =
    are_under c.tagged-in-Some-bounded.result c.args.self.now.names.items c.implicit.new.self
    c.tagged-in-Some-bounded.new.self c.args.of c.in_ok-name-in-Some-bounded.field-0
    c.in_ok-name-in-Some-bounded.ensures
    c.tagged-in-Some-bounded.ensures.names
