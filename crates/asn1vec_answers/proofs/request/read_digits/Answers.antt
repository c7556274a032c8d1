use Rattle.std.proofs.Common.{◌≢◌, codes, arith}
use Rattle.asn1vec_answers.proofs.Hexadecimal.{digits_where_stands, even_digits}
use Rattle.asn1vec_answers.proofs.request.read_digits.Goals as goal

pub returns-then-digits-ne0-clause-none : goal.returns-then-digits-ne0-clause-none
returns-then-digits-ne0-clause-none c = λ found octets h.
    let digits = c.args.digits.now in
    let other : digits ≢ codes "-" = λ e. let same = rw (c.as_slice.ensures, e) at c.if-eq.ensures in cc same in
    let even = even_digits octets digits (digits_where_stands octets digits other h) in
    omega (arith, even)

pub returns-clause-none : goal.returns-clause-none
returns-clause-none c = λ found octets h.
    let digits = c.args.digits.now in
    let other : digits ≢ codes "-" = λ e. let same = rw (c.as_slice.ensures, e) at c.if-eq.ensures in cc same in
    c.fill-found.ensures.none found octets (digits_where_stands octets digits other h)
