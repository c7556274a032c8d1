use Rattle.std.proofs.Common.{◌≡◌, ℕ, ◌+◌, ◌≤◌, List, [], ◌∷◌, ◌++◌, length, false, ap, ◌∙◌, subst, arith}
use Rattle.std.proofs.Common.{append_assoc, length-append, Result, Ok, Err, IfErr, IfOk}
use Rattle.std.specs.Prelude.{IsOkAnd}
use Rattle.asn1_rs.proofs.Writing.{few_octets}
use Rattle.x690.specs.Strict.{header_octets}
use Rattle.asn1_headers.specs.declared.error.SerializeError.{SerializeError}
use Rattle.asn1_headers.specs.Writer.{MayRefuse}
use Rattle.asn1_headers.specs.Laws.Writing.{MayRefuse_more}
use Rattle.asn1_rs.proofs.asn1_types.bit_string.put_bits_element.Goals as goal

-- the count and then the octets behind the header
joined : (unused : ℕ) (octets : List ℕ) → (header_octets 0 false 3 (1 + length octets) ++ unused ∷ []) ++ octets ≡
    header_octets 0 false 3 (length (unused ∷ octets)) ++ unused ∷ octets
joined unused octets =
    let one_more : 1 + length octets ≡ length (unused ∷ octets) = omega arith in
    append_assoc (header_octets 0 false 3 (1 + length octets)) (unused ∷ []) octets
    ∙ ap (λ (n : ℕ). header_octets 0 false 3 n ++ unused ∷ octets) one_more

-- what fewer octets allow, more do
of_more : (r : Result ℕ SerializeError) (n m : ℕ) → n ≤ m → IfErr r (MayRefuse false n) → IfErr r (MayRefuse false m)
of_more (Ok k) n m h may = tt
of_more (Err e) n m h may = MayRefuse_more e false n m h may

pub returns-clause-refused : goal.returns-clause-refused
returns-clause-refused g c =
    let octets = c.args.octets.now in
    let unused = c.args.unused_bits in
    let start = g.W.DerWrite.state c.args.w.now in
    let put = c.put_header-header.ensures in
    let header = header_octets 0 false 3 (1 + length octets) in
    let front = header ++ unused ∷ [] in
    let longer : length front ≤ length (front ++ octets) = simp length-append (omega arith) in
    let may = c.put_behind-front.ensures.failed header start put.wrote (put.failed false (length front)) in
    subst (λ (xs : List ℕ). IfErr c.put_behind.result (MayRefuse false (length xs))) (joined unused octets)
    (c.put_behind.ensures.failed front start (c.put_behind-front.ensures.wrote header start put.wrote)
    (of_more c.put_behind-front.result (length front) (length (front ++ octets)) longer may))

-- the header with one octet behind it
with_one_more : (header front : Result ℕ SerializeError) → IfOk header (λ n. n ≤ 15) →
    IfOk front (λ n. IsOkAnd header (λ k. n ≡ k + 1)) → IfOk front (λ n. n ≤ 16)
with_one_more (Ok k) (Ok n) few sum = omega (arith, sum)
with_one_more (Err e) (Ok n) few sum = absurd sum
with_one_more header (Err e) few sum = tt

pub returns-clause-fits : goal.returns-clause-fits
returns-clause-fits g c =
    let put = c.put_header-header.ensures in
    let front = c.put_behind-front.ensures.fits (few_octets _ 15 16 (omega arith) put.few) (put.failed false 0) in
    c.put_behind.ensures.fits (with_one_more _ _ put.few c.put_behind-front.ensures.sum) front
