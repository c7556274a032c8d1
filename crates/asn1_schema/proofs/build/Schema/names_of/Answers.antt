use Rattle.std.proofs.Common.{◌≡◌, ap, sym, refl, ◌∙◌, slice_get, Some, map}
use Rattle.std.proofs.lemmas.Option.{slice_get_read}
use Rattle.asn1_schema.specs.BuildNames.{label_of}
use Rattle.asn1_schema.proofs.build.Schema.names_of.Goals as goal

pub returns-in_ok-from_slice-in-Some : goal.returns-in_ok-from_slice-in-Some
returns-in_ok-from_slice-in-Some c =
    let names = c.in-Some.names.now in
    let of = c.args.of in
    let known : slice_get c.args.self.now.names.items of ≡ Some names =
    ap (λ l. slice_get l of) (sym c.deref.ensures.value) ∙
    slice_get_read _ _ of names refl c.in-Some.ensures.lookup.3.0 c.in-Some.ensures.lookup.1 in
    let labels : c.in_ok-from_slice-in-Some.field-0.items ≡ names.labels.items =
    cc (c.in_ok-from_slice-in-Some.ensures.items, c.deref-in-Some.ensures.value) in
    (names, known, (refl, ap (map label_of) labels))
