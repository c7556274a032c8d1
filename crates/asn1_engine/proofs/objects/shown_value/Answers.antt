use Rattle.std.proofs.Common.{◌≡◌, ◌++◌, drop, IsUtf8, ap, sym, subst, ◌∙◌}
use Rattle.asn1_engine.proofs.Utf8Values.{value_is_utf8}
use Rattle.asn1_engine.proofs.objects.shown_value.Goals as goal

pub returns : goal.returns
returns c =
    let e = c.in_ok-push_value.ensures in
    let is : c.behind.result.now ≡ drop 1 e.0 =
    c.behind.ensures ∙ ap (drop 1) (c.as_slice.ensures.value ∙ e.2 ∙ ap (λ l. l ++ e.0) c.new-text.ensures.items) in
    let utf8 : IsUtf8 c.behind.result.now = subst IsUtf8 (sym is)
    (value_is_utf8 c.args.width c.args.line.now c.args.line.now.constructed c.args.is_entered e.0 e.1) in
    (e.0, e.1, c.in_ok-value.ensures.ok utf8 ∙ is)
